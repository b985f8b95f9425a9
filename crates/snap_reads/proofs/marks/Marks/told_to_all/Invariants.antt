use Rattle.std.proofs.Common.{deque_len}
use Rattle.snap_reads.proofs.marks.Marks.told_to_all.Given as goal

abbrev pub decreases-loop-first : goal.decreases-loop-first
decreases-loop-first l = deque_len l.self.marks
