-- One event of the register.
use Rattle.std.specs.Prelude.{◌≡◌, ◌⊎◌, ℕ, List, [], ◌∷◌, ◌++◌}
use Rattle.register_api.specs.View.{RegisterView, IsSound}
use Rattle.legal_journal.specs.declared.events.FabricCall.{FabricCall}
use Rattle.legal_journal.specs.declared.events.FabricAnswer.{FabricAnswer}
use Rattle.legal_journal.specs.declared.events.FabricAnswer.TheVariants.{Memory}
use Rattle.legal_journal.specs.declared.events.Event.{Event}
use Rattle.fabric_core.specs.Runs.{RegisterDoes, RegisterLacks}

-- The event is recorded as it happened.
pub record RegisterActs (old : RegisterView) (before : List Event) (who : ℕ) (call : FabricCall) (answer : FabricAnswer) (new : RegisterView) (now : List Event) : Type 0 where
  pub sound : IsSound old
  pub does : RegisterDoes old call answer new
  pub recorded : now ≡ before ++ record { who = who; call = call; answer = answer } ∷ []

-- an event, or want of memory
abbrev pub RegisterApplies : RegisterView → List Event → ℕ → FabricCall → FabricAnswer → RegisterView → List Event → Type 0
RegisterApplies old before who call answer new now =
    RegisterActs old before who call answer new now ⊎ ((answer ≡ Memory) × RegisterLacks old call new × (now ≡ before))
