-- What came of a script that was made.
use Rattle.std.specs.Prelude.{◌≡◌, ℕ, pos, ◌+◌, ◌/◌, Bool, false, List, length, min}
use Rattle.std.specs.List.{list_any}
use Rattle.script_words.specs.declared.plan.Plan.{Plan}
use Rattle.row_text.specs.declared.row.Row.{Row}
use Rattle.fitting_run.specs.declared.told.Told.{Told}
use Rattle.fitting_run.specs.Answered.{is_open}
use Rattle.fitting_run.specs.Yard.{Shown}
use Rattle.fitting_run.specs.Calm.{IsCalm}
use Rattle.made_script.specs.Made.{amounts}
use Rattle.run_totals.specs.declared.totals.Totals.{Totals}

-- some row is open
abbrev pub any_open : List Row → Bool
any_open rows = list_any (λ r. is_open r.outcome) rows

-- Of so many commands all acted where no row is open, and then the table's sum is that of their amounts. Where no fault was
-- counted each line that extends the chain did, one for each hundred commands from the fifty-first on, until the shelf had no loglet left.
pub record CountsMade (plan : Plan) (count : ℕ) (yard : Shown) (told : Told) (totals : Totals) : Type 0 where
  pub commands : totals.commands ≡ count
  pub acted : any_open told.rows ≡ false → totals.acted ≡ count
  pub sum : any_open told.rows ≡ false → totals.sum ≡ pos (amounts plan.seed count)
  pub segments : IsCalm yard → totals.segments ≡ min (length plan.shelf) (1 + (count + 49) / 100)
