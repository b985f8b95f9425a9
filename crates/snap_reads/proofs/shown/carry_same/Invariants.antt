use Rattle.std.proofs.Common.{◌≡◌, map, take}
use Rattle.std.specs.Arc.{arc_value}
use Rattle.snap_reads.proofs.shown.carry_same.Given as goal

abbrev pub invariant-loop-at : goal.invariant-loop-at
invariant-loop-at l = map arc_value (take l.at l.one.carried.items) ≡ map arc_value (take l.at l.two.carried.items)
