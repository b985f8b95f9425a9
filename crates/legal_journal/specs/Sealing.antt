-- Which events begin a Seal, and whose they are.
use Rattle.std.specs.Prelude.{◌≡◌, ℕ, ◌<◌, ◌==◌, ◌&&◌, Bool, true, false, List, ◌++◌, count_by}
use Rattle.loglet_api.specs.declared.call.Op.TheVariants.{Seal}
use Rattle.legal_journal.specs.declared.events.FabricCall.{FabricCall}
use Rattle.legal_journal.specs.declared.events.FabricCall.TheVariants.{Begin}
use Rattle.legal_journal.specs.declared.events.Event.{Event}

-- the call begins a Seal, whether it finds room or not
abbrev pub is_seal : FabricCall → Bool
is_seal (Begin i Seal) = true
is_seal call = false

-- .. on this cell
abbrev pub is_seal_on : ℕ → FabricCall → Bool
is_seal_on cell (Begin i Seal) = i == cell
is_seal_on cell call = false

abbrev pub begins_seal : Event → Bool
begins_seal e = is_seal e.call

abbrev pub begins_seal_on : ℕ → Event → Bool
begins_seal_on cell e = is_seal_on cell e.call

-- how many Seals who began among these events
abbrev pub own_seals : ℕ → List Event → ℕ
own_seals who events = count_by (λ e. begins_seal e && (e.who == who)) events

-- .. on this cell
abbrev pub own_seals_on : ℕ → ℕ → List Event → ℕ
own_seals_on who cell events = count_by (λ e. begins_seal_on cell e && (e.who == who)) events

-- no Seal was begun since old
pub record Unsealed (old new : List Event) : Type 0 where
  pub more : List Event
  pub seen : new ≡ old ++ more
  pub none : count_by begins_seal more ≡ 0

-- a Seal was begun since old only where it may be
pub record SealsBy (may : Type 0) (old new : List Event) : Type 0 where
  pub more : List Event
  pub seen : new ≡ old ++ more
  pub right : 0 < count_by begins_seal more → may
