use Rattle.std.proofs.Common.{◌≡◌, ◌≤◌, ◌+◌, drop, filter}
use Rattle.fitting_run.specs.Answered.{Answered, is_late}
use Rattle.fitting_run.specs.Faults.{turns_of}
use Rattle.fitting_run.proofs.counting.late_turns.Given as goal

abbrev pub invariant-loop-i : goal.invariant-loop-i
invariant-loop-i l =
    (l.turns + turns_of (filter (λ (a : Answered). is_late a.row.outcome) (drop l.i l.told)) ≡ turns_of (filter (λ (a : Answered). is_late a.row.outcome) l.told))
    × (l.turns ≤ l.i)
