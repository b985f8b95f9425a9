-- Which Seals a call begins.
use Rattle.std.specs.Prelude.{◌≡◌, ◌≢◌, ◌⊎◌, ℕ, ◌≤◌, List, [], ◌∷◌, ◌++◌}
use Rattle.delos_types.specs.declared.chain.Chain.{Chain}
use Rattle.chain_map.specs.Chain.{last_segment}
use Rattle.legal_journal.specs.declared.events.Event.{Event}
use Rattle.legal_journal.specs.declared.events.FabricCall.TheVariants.{ReadChain}
use Rattle.legal_journal.specs.declared.events.FabricAnswer.TheVariants.{At}
use Rattle.legal_journal.specs.Turns.{AreOthers}
use Rattle.legal_journal.specs.Sealing.{own_seals, own_seals_on}

-- who began no Seal since old
pub record SealsNone (who : ℕ) (old new : List Event) : Type 0 where
  pub more : List Event
  pub seen : new ≡ old ++ more
  pub none : own_seals who more ≡ 0

-- who began at most one Seal among these events, and none of another loglet than this
pub record SealsOnly (who id : ℕ) (events : List Event) : Type 0 where
  pub once : own_seals who events ≤ 1
  pub elsewhere : (i : ℕ) → i ≢ id → own_seals_on who i events ≡ 0

-- .. since old
pub record SealsAt (who id : ℕ) (old new : List Event) : Type 0 where
  pub more : List Event
  pub seen : new ≡ old ++ more
  pub only : SealsOnly who id more

-- The first own event since old reads the chain. After it who began at most one Seal, of the last loglet of that chain.
pub record SealsAfter (who : ℕ) (old new : List Event) : Type 0 where
  pub others : List Event
  pub apart : AreOthers who others
  pub version : ℕ
  pub chain : Chain
  pub looked : List Event
  pub look : looked ≡ (old ++ others) ++ record { who = who; call = ReadChain; answer = At version chain } ∷ []
  pub rest : List Event
  pub seen : new ≡ looked ++ rest
  pub only : SealsOnly who (last_segment chain).id rest

-- who began no Seal since old, or one of the loglet that its first look had as the last one
abbrev pub SealsLast : ℕ → List Event → List Event → Type 0
SealsLast who old new = SealsNone who old new ⊎ SealsAfter who old new
