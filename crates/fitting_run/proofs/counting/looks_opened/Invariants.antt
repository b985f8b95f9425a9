use Rattle.std.proofs.Common.{◌≡◌, ◌≤◌, ◌+◌, [], length, take, drop}
use Rattle.fitting_run.specs.Faults.{picked}
use Rattle.fitting_run.specs.Sorts.{comes_by, opens_alone}
use Rattle.fitting_run.proofs.counting.looks_opened.Given as goal

abbrev pub invariant-loop-i : goal.invariant-loop-i
invariant-loop-i l =
    (l.looks + length (picked (opens_alone (comes_by l.sort)) (take l.i l.told) (drop l.i l.told)) ≡ length (picked (opens_alone (comes_by l.sort)) [] l.told))
    × (l.looks ≤ l.i)
