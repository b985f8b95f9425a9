use Rattle.std.proofs.Common.{arith}
use Rattle.worked_nodes.proofs.Free.{free_by}
use Rattle.worked_nodes.proofs.log_calls.trim.Goals as goal

pub prefix_trim-requires-clause-free : goal.prefix_trim-requires-clause-free
prefix_trim-requires-clause-free g c = free_by _ _ _ c.requires.floor (omega arith)
