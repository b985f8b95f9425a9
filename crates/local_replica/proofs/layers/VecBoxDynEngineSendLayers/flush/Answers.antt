use Rattle.local_replica.proofs.Layering.{flushes_by}
use Rattle.local_replica.proofs.layers.VecBoxDynEngineSendLayers.flush.Goals as goal

pub returns-clause-flushed : goal.returns-clause-flushed
returns-clause-flushed g c = flushes_by _ _ _ _ c.flush_items.ensures.step
