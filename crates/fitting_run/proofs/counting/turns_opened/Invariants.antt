use Rattle.std.proofs.Common.{◌≡◌, ◌≤◌, ◌+◌, [], take, drop}
use Rattle.fitting_run.specs.Faults.{picked, turns_of}
use Rattle.fitting_run.specs.Sorts.{comes_by, opens_other}
use Rattle.fitting_run.proofs.counting.turns_opened.Given as goal

abbrev pub invariant-loop-i : goal.invariant-loop-i
invariant-loop-i l =
    (l.turns + turns_of (picked (opens_other (comes_by l.sort)) (take l.i l.told) (drop l.i l.told)) ≡ turns_of (picked (opens_other (comes_by l.sort)) [] l.told))
    × (l.turns ≤ l.i)
