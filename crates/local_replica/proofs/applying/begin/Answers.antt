use Rattle.std.proofs.Common.{ap, ◌∙◌}
use Rattle.local_store.specs.View.{contents_of}
use Rattle.local_replica.proofs.applying.begin.Goals as goal

pub load-requires-clause-known : goal.load-requires-clause-known
load-requires-clause-known g c = λ h. ap (λ t. g.E.Layers.knows c.args.engines.now (contents_of t)) c.in_ok-txn.ensures.begun ∙ c.requires.known h
