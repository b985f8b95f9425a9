-- A user whom nobody is beside.
use Rattle.std.specs.Prelude.{◌≡◌, ℕ, List, [], ◌∷◌, ◌++◌}
use Rattle.legal_journal.specs.declared.events.Event.{Event}

-- nobody takes turns between those of the user
pub record IsAlone (beside : ℕ → Type 0) : Type 0 where
  pub nobody : (user : ℕ) → beside user → ⊥

-- each event is who's
abbrev pub AreOwn : ℕ → List Event → Type 0
AreOwn who [] = Unit {0}
AreOwn who (e ∷ es) = (e.who ≡ who) × AreOwn who es

-- each event since old is who's
pub record OwnSince (who : ℕ) (old new : List Event) : Type 0 where
  pub more : List Event
  pub seen : new ≡ old ++ more
  pub own : AreOwn who more
