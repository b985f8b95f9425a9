-- The register is opened again as a run begins to close.
use Rattle.std.specs.Prelude.{◌≡◌, ℕ, ◌≤◌, List, ◌++◌, replicate}
use Rattle.legal_journal.specs.declared.events.Event.{Event}
use Rattle.legal_journal.specs.declared.events.FabricCall.TheVariants.{MendMeta}
use Rattle.legal_journal.specs.FaultCalls.{faults_made, made_by}
use Rattle.fabric_core.specs.Fabric.{FabricView}
use Rattle.node_lines.specs.Workers.{Grows}
use Rattle.last_chain.specs.Last.{OpensOnce}

-- First the chain was read, and the register opened again where it was down, once; whatever else came, came after.
pub record OpensFirst (old new : FabricView) : Type 0 where
  pub opened : FabricView
  pub opens : OpensOnce old opened
  pub later : Grows opened.journal new.journal

-- nobody broke or mended anything, or had an old message come again
abbrev pub MakesNoFaults : List Event → List Event → Type 0
MakesNoFaults old new = faults_made new ≡ faults_made old

-- Number 0, which is no node, opened the register again, with word 0, at most so often; nobody broke or mended anything else, or had an old
-- message come again.
pub record MendsOnly (most : ℕ) (old new : List Event) : Type 0 where
  pub times : ℕ
  pub few : times ≤ most
  pub made : faults_made new ≡ faults_made old ++ made_by 0 (replicate times (MendMeta 0))
