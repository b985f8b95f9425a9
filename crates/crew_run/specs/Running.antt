-- A run over nodes, with the yard that comes back.
use Rattle.std.specs.Prelude.{◌≡◌, ◌<◌, true, List, length, All}
use Rattle.script_text.specs.declared.asks.NamedLine.{NamedLine}
use Rattle.script_text.specs.declared.faults.FaultLine.{FaultLine}
use Rattle.fabric_core.specs.Log.{virtual_tail}
use Rattle.fitting_run.specs.declared.told.Told.{Told}
use Rattle.fitting_run.specs.Yard.{Shown}
use Rattle.fitting_run.specs.Fits.{Fits}
use Rattle.fitting_run.specs.Calm.{IsCalm, all_answered}
use Rattle.crew_run.specs.Telling.{GoesByRows}

-- What is told of these lines, with their fault lines, fits the yard. Where no fault was counted there, each line has its own answer, the run saw the whole
-- log, and the chain goes by what rows tell. Each segment of the chain is a loglet of the shelf.
pub record RunTold (lines : List NamedLine) (faults : List FaultLine) (yard : Shown) (o : Told) : Type 0 where
  pub fits : Fits lines faults o yard
  pub answered : IsCalm yard → all_answered o.rows ≡ true
  pub whole : IsCalm yard → o.end ≡ virtual_tail o.chain yard.cells
  pub extended : IsCalm yard → GoesByRows o.chain o.rows
  pub shelved : All (λ s. s.id < length yard.cells) o.chain.segments
