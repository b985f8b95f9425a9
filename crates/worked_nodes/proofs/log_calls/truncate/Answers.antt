use Rattle.std.proofs.Common.{arith}
use Rattle.worked_nodes.proofs.Free.{free_by}
use Rattle.worked_nodes.proofs.log_calls.truncate.Goals as goal

pub truncate-requires-clause-free : goal.truncate-requires-clause-free
truncate-requires-clause-free g c = free_by _ _ _ c.requires.floor (omega arith)
