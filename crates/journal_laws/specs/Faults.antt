-- The faults that a journal tells.
use Rattle.std.specs.Prelude.{◌==◌, ℕ, Bool, true, false, List, Option, Some, None, filter_map}
use Rattle.delos_types.specs.declared.cause.Cause.{Cause}
use Rattle.delos_types.specs.declared.cause.Cause.TheVariants as cause
use Rattle.loglet_api.specs.declared.call.Answer.TheVariants as answers
use Rattle.legal_journal.specs.declared.events.Event.{Event}
use Rattle.legal_journal.specs.declared.events.FabricCall.{FabricCall}
use Rattle.legal_journal.specs.declared.events.FabricCall.TheVariants.{Begin, Carry}
use Rattle.legal_journal.specs.declared.events.FabricAnswer.{FabricAnswer}
use Rattle.legal_journal.specs.declared.events.FabricAnswer.TheVariants as fabric

-- the fault that an event tells
abbrev pub fault_of : FabricAnswer → FabricCall → Option Cause
fault_of (fabric.Done (answers.NoQuorum unreached)) (Carry i t word) = Some (cause.NoQuorum i unreached)
fault_of fabric.Full (Begin i op) = Some (cause.Full i)
fault_of fabric.MetaFault call = Some cause.Meta
fault_of fabric.Down call = Some cause.Meta
fault_of answer call = None

-- the faults that these events tell
abbrev pub faults_in : List Event → List Cause
faults_in events = filter_map (λ e. fault_of e.answer e.call) events

-- too few servers of this loglet were reached
abbrev pub is_lack_of : ℕ → Cause → Bool
is_lack_of cell (cause.NoQuorum id unreached) = id == cell
is_lack_of cell other = false

-- this loglet took no more
abbrev pub is_full_of : ℕ → Cause → Bool
is_full_of cell (cause.Full id) = id == cell
is_full_of cell other = false

-- the register failed, or was down
abbrev pub is_meta : Cause → Bool
is_meta cause.Meta = true
is_meta other = false
