use Rattle.std.proofs.Common.{◌≡◌}
use Rattle.left_right.specs.Sides.{view}
use Rattle.snap_reads.specs.Tables.{StartsWith}
use Rattle.snap_reads.proofs.meet.meet.Given as goal

abbrev pub invariant-loop : goal.invariant-loop
invariant-loop g l =
    (goal.iterator-loop g).can_next l.iterator' × (goal.iterator-loop g).is_finite l.iterator'
    × StartsWith (view l.reader.place).seen (view l.fn.reader.place).seen
    × ((view l.reader.place).told ≡ (view l.fn.reader.place).told)
