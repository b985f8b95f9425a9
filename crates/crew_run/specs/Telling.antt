-- What a run tells, whatever yard comes back that is as its journal tells.
use Rattle.std.specs.Prelude.{◌≡◌, ◌+◌, ◌≤◌, true, List, length, count_by, is_some}
use Rattle.legal_journal.specs.Law.{Law}
use Rattle.legal_journal.specs.declared.events.Event.{Event}
use Rattle.legal_journal.specs.Journal.{state_of}
use Rattle.fabric_core.specs.Fabric.{IsRegisterAsTold}
use Rattle.fabric_core.specs.Log.{virtual_tail}
use Rattle.script_text.specs.declared.asks.NamedLine.{NamedLine}
use Rattle.script_text.specs.declared.faults.FaultLine.{FaultLine}
use Rattle.fitting_run.specs.declared.told.Told.{Told}
use Rattle.fitting_run.specs.Yard.{Shown}
use Rattle.fitting_run.specs.Fits.{Fits}
use Rattle.fitting_run.specs.Replacements.{version_told}
use Rattle.fitting_run.specs.Calm.{IsCalm, all_answered}
use Rattle.delos_types.specs.declared.chain.Chain.{Chain}
use Rattle.chain_map.specs.Chain.{last_id}
use Rattle.row_text.specs.declared.row.Row.{Row}
use Rattle.run_ends.specs.Closing.{WorkerEnd, IsGivenBack}

-- The chain goes by what rows tell, where no fault was counted: its last loglet is no further than lines replaced one, or found that
-- another node had; and where nothing is trimmed each loglet up to it has a segment. That it is at least each node's number of those
-- is said of any run that fits.
pub record GoesByRows (chain : Chain) (rows : List Row) : Type 0 where
  pub most : last_id chain ≤ count_by (λ r. is_some (version_told r.outcome)) rows
  pub segments : chain.trim ≡ 0 → length chain.segments ≡ last_id chain + 1

-- It tells the chain that the journal knows; it fits the lines, the fault lines and that yard. Where no fault was counted there, each line has
-- its own answer, the run has seen the whole log, and the chain goes by what rows tell.
pub record FitsGivenBack (law : Law) (lines : List NamedLine) (faults : List FaultLine) (journal : List Event) (workers : List WorkerEnd) (o : Told) : Type 0 where
  pub chain : o.chain ≡ (state_of journal).register.chain
  pub fits : (yard : Shown) → IsGivenBack law journal workers o.chain yard → IsRegisterAsTold (state_of journal).register yard.register → Fits lines faults o yard
  pub calm : (yard : Shown) → IsGivenBack law journal workers o.chain yard → IsRegisterAsTold (state_of journal).register yard.register → IsCalm yard → all_answered o.rows ≡ true
  pub whole : (yard : Shown) → IsGivenBack law journal workers o.chain yard → IsRegisterAsTold (state_of journal).register yard.register → IsCalm yard → o.end ≡ virtual_tail o.chain yard.cells
  pub extended : (yard : Shown) → IsGivenBack law journal workers o.chain yard → IsCalm yard → GoesByRows o.chain o.rows
