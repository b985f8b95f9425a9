-- When what a run tells fits the script and the yard that it gave back.
use Rattle.std.specs.Prelude.{◌≡◌, ◌≤◌, true, false, List, length}
use Rattle.register_api.specs.View.{RegisterView}
use Rattle.chain_map.specs.Chain.{is_chain}
use Rattle.script_text.specs.declared.asks.NamedLine.{NamedLine}
use Rattle.script_text.specs.declared.faults.FaultLine.{FaultLine}
use Rattle.fitting_run.specs.declared.told.Told.{Told}
use Rattle.fitting_run.specs.Answered.{Answered, answered_lines}
use Rattle.fitting_run.specs.Acts.{ActsOnce}
use Rattle.fitting_run.specs.Outcomes.{OneRowEach, KeepsSessionOrder, keeps_barriers}
use Rattle.fitting_run.specs.Reads.{ReadsAreCurrent}
use Rattle.fitting_run.specs.Faults.{FaultsAreCounted}
use Rattle.fitting_run.specs.Replacements.{ReplacementsAgree}
use Rattle.fitting_run.specs.Reports.{ReportsStand, items_of}
use Rattle.fitting_run.specs.Trims.{TrimsStand}
use Rattle.fitting_run.specs.Yard.{Shown}

-- The chain that is told is one that joins, and with its version the last that the register gave: the current one, unless
-- the register is down, which is told then, and was counted.
pub record ChainIsRegistered (o : Told) (r : RegisterView) : Type 0 where
  pub joins : is_chain o.chain ≡ true
  pub version : o.version ≡ r.given
  pub chain : o.chain ≡ r.given_chain
  pub current : r.down ≡ false → (r.version ≡ r.given) × (r.chain ≡ r.given_chain)
  pub down : o.down ≡ r.down
  pub missed : r.down ≡ true → 1 ≤ r.misses

abbrev pub told_of : List NamedLine → Told → List Answered
told_of lines o = answered_lines lines o.rows

-- What a run tells of this script, with its fault lines, fits the yard that it gave back. Nobody waited for a row marked `late`: what is asked in its phase or
-- later may stand below it.
pub record Fits (lines : List NamedLine) (faults : List FaultLine) (o : Told) (yard : Shown) : Type 0 where
  pub one_row_each : OneRowEach lines o.rows
  pub acts_once : ActsOnce lines (told_of lines o) o.chain yard.cells o.end
  pub session_order : KeepsSessionOrder (told_of lines o)
  pub reads_are_current : ReadsAreCurrent (told_of lines o) o.end
  pub barriers : keeps_barriers (told_of lines o) ≡ true
  pub faults_are_counted : FaultsAreCounted (told_of lines o) yard
  pub replacements : ReplacementsAgree lines faults (told_of lines o) o.version o.chain (length yard.cells)
  pub reports : ReportsStand (told_of lines o) o.chain.trim (items_of o.chain yard.cells) o.end
  pub trims : TrimsStand lines (told_of lines o) (length yard.disks) o.chain.trim (items_of o.chain yard.cells) o.end
  pub chain_is_registered : ChainIsRegistered o yard.register
