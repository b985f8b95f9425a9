use Rattle.std.proofs.Common.{◌≡◌, take, drop}
use Rattle.std.specs.List.{list_any}
use Rattle.fitting_run.specs.Faults.{picked, same_turn}
use Rattle.fitting_run.specs.Sorts.{comes_by, opens_other}
use Rattle.fitting_run.proofs.counting.opens_in_turn.Given as goal

abbrev pub invariant-loop-i : goal.invariant-loop-i
invariant-loop-i l =
    list_any (same_turn l.b) (picked (opens_other (comes_by l.sort)) (take l.i l.told) (drop l.i l.told))
    ≡ list_any (same_turn l.b) (picked (opens_other (comes_by l.sort)) (take l.at l.told) (drop l.at l.told))
