-- A run in which no fault was counted.
use Rattle.std.specs.Prelude.{◌≡◌, ◌+◌, Bool, true, false, not, List, sum_by}
use Rattle.std.specs.List.{list_all}
use Rattle.row_text.specs.declared.row.Row.{Row}
use Rattle.row_text.specs.declared.row.Outcome.{Outcome}
use Rattle.row_text.specs.declared.row.Outcome.TheVariants as out
use Rattle.fitting_run.specs.Yard.{Shown}

-- the line has its own answer: it isn't open, and not placed late
abbrev pub is_answered : Outcome → Bool
is_answered (out.Placed p reply late) = not late
is_answered (out.Open c) = false
is_answered other = true

abbrev pub all_answered : List Row → Bool
all_answered rows = list_all (λ r. is_answered r.outcome) rows

-- no fault was counted in a loglet of the shelf, in the register or in a node's disk
abbrev pub IsCalm : Shown → Type 0
IsCalm yard = sum_by (λ v. v.faults) yard.cells + yard.register.faults + sum_by (λ n. n) yard.disks ≡ 0
