-- Which causes are one, and which rows such a cause opened.
use Rattle.std.specs.Prelude.{ℕ, Bool, not, ◌&&◌, List}
use Rattle.delos_types.specs.declared.cause.Cause.{Cause}
use Rattle.fitting_run.specs.declared.answered.Answered.{Answered}
use Rattle.fitting_run.specs.Faults.{is_alone, is_opened, lacks_quorum, finds_full, lacks_register, lacks_store}
use Rattle.fitting_run.specs.declared.counting.Sort.{Sort}
use Rattle.fitting_run.specs.declared.counting.Sort.TheVariants as sort

-- the cause of a row at a node is of this sort
abbrev pub comes_by : Sort → ℕ → Cause → Bool
comes_by (sort.Lacks cell) = lacks_quorum cell
comes_by (sort.Full cell) = finds_full cell
comes_by sort.Register = lacks_register
comes_by (sort.Store n) = lacks_store n

-- such a cause opened it, and it stands alone
abbrev pub opens_alone : (ℕ → Cause → Bool) → List Answered → Answered → Bool
opens_alone by before b = is_opened by before b && is_alone before b

-- .. or doesn't
abbrev pub opens_other : (ℕ → Cause → Bool) → List Answered → Answered → Bool
opens_other by before b = is_opened by before b && not (is_alone before b)
