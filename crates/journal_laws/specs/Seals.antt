-- The Seals that were begun, one by one.
use Rattle.std.specs.Prelude.{ℕ, List, filter_map, Option, Some, None}
use Rattle.loglet_api.specs.declared.call.Op.TheVariants.{Seal}
use Rattle.legal_journal.specs.declared.events.Event.{Event}
use Rattle.legal_journal.specs.declared.events.FabricCall.{FabricCall}
use Rattle.legal_journal.specs.declared.events.FabricCall.TheVariants.{Begin}

-- the loglet on which the call begins a Seal, whether it finds room or not
abbrev pub seal_of : FabricCall → Option ℕ
seal_of (Begin cell Seal) = Some cell
seal_of call = None

-- the loglets on which Seals were begun, one element for each Seal, in order
abbrev pub seals_in : List Event → List ℕ
seals_in events = filter_map (λ e. seal_of e.call) events
