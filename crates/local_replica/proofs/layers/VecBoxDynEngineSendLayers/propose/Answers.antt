use Rattle.local_replica.proofs.Layering.{queues_by}
use Rattle.local_replica.proofs.layers.VecBoxDynEngineSendLayers.propose.Goals as goal

pub returns-clause-queued : goal.returns-clause-queued
returns-clause-queued g c = queues_by _ _ _ _ _ c.propose_item.ensures.step
