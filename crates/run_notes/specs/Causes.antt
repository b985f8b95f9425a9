-- How many rows are open, by what kept them from an answer.
use Rattle.std.specs.Prelude.{ℕ, Bool, true, false, List, count_by}
use Rattle.delos_types.specs.declared.cause.Cause.{Cause}
use Rattle.delos_types.specs.declared.cause.Cause.TheVariants as cause
use Rattle.row_text.specs.declared.row.Row.{Row}
use Rattle.row_text.specs.declared.row.Outcome.{Outcome}
use Rattle.row_text.specs.declared.row.Outcome.TheVariants as outcome
use Rattle.run_notes.specs.declared.causes.OpenBy.{OpenBy}
use Rattle.run_notes.specs.declared.causes.OpenBy.TheVariants as by

-- the cause is of this sort, whichever loglet it names
abbrev pub is_of : OpenBy → Cause → Bool
is_of by.NoQuorum (cause.NoQuorum id unreached) = true
is_of by.Full (cause.Full id) = true
is_of by.Meta cause.Meta = true
is_of by.Store cause.Store = true
is_of sort other = false

-- the row is open for a cause of this sort
abbrev pub is_open_by : OpenBy → Outcome → Bool
is_open_by sort (outcome.Open c) = is_of sort c
is_open_by sort other = false

abbrev pub open_by : OpenBy → List Row → ℕ
open_by sort rows = count_by (λ r. is_open_by sort r.outcome) rows
