use Rattle.std.proofs.Common.{take}
use Rattle.native_loglet.specs.Moving.{AreOf}
use Rattle.native_loglet.proofs.opening.members.Given as goal

abbrev pub invariant-loop-replica : goal.invariant-loop-replica
invariant-loop-replica g l = AreOf (take l.replica-index l.replicas) l.members.items
