-- Users of a fabric beside one another.
use Rattle.std.specs.Prelude.{◌≡◌, ◌⊎◌, ◌<◌, ℕ, false, List, [], ◌∷◌, ◌++◌}
use Rattle.delos_types.specs.declared.entry.Entry.{Entry}
use Rattle.legal_journal.specs.Law.{Law}
use Rattle.legal_journal.specs.declared.events.FabricCall.{FabricCall}
use Rattle.legal_journal.specs.declared.events.FabricAnswer.{FabricAnswer}
use Rattle.legal_journal.specs.declared.events.Event.{Event}
use Rattle.legal_journal.specs.Journal.{state_of, IsLegal, IsFree}
use Rattle.legal_journal.specs.Turns.{MayCall, OwnEvents}
use Rattle.legal_journal.specs.FaultCalls.{is_fault}
use Rattle.legal_journal.specs.Sealing.{own_seals}

-- each event is of one of those beside
abbrev pub AreBeside : (ℕ → Type 0) → List Event → Type 0
AreBeside beside [] = Unit {0}
AreBeside beside (e ∷ es) = beside e.who × AreBeside beside es

-- a call that who may make, whatever legal events of those beside come before it
pub record MayTake (law : Law) (beside : ℕ → Type 0) (who : ℕ) (seen : List Event) (call : FabricCall) : Type 0 where
  pub behind : (others : List Event) → AreBeside beside others → IsLegal law (seen ++ others) → MayCall (state_of (seen ++ others)) law who call

-- what is seen then: what was seen, events of those beside, and the own event
pub record IsTaken (law : Law) (beside : ℕ → Type 0) (who : ℕ) (old : List Event) (call : FabricCall) (answer : FabricAnswer) (new : List Event) : Type 0 where
  pub others : List Event
  pub own : List Event
  pub between : AreBeside beside others
  pub event : OwnEvents who call answer own
  pub seen : new ≡ (old ++ others) ++ own
  pub legal : IsLegal law new

-- each event is who's, and then no fault, or of one of those beside
abbrev pub AreAmong : ℕ → (ℕ → Type 0) → List Event → Type 0
AreAmong who beside [] = Unit {0}
AreAmong who beside (e ∷ es) = (((e.who ≡ who) × (is_fault e.call ≡ false)) ⊎ beside e.who) × AreAmong who beside es

-- so is each event since old
pub record Since (who : ℕ) (beside : ℕ → Type 0) (old new : List Event) : Type 0 where
  pub more : List Event
  pub seen : new ≡ old ++ more
  pub among : AreAmong who beside more

-- who began a Seal since old only where it may
pub record SealsByRight (may : Type 0) (who : ℕ) (old new : List Event) : Type 0 where
  pub more : List Event
  pub seen : new ≡ old ++ more
  pub right : 0 < own_seals who more → may

-- what the scope lets, the law does, over the same cells
pub record IsNarrower (scope law : Law) : Type 0 where
  pub may : (user : ℕ) (e : Entry) → scope.may user e → law.may user e
  pub floor : (log : List Entry) (n : ℕ) → scope.floor log n → law.floor log n
  pub shelf : scope.shelf ≡ law.shelf

-- those beside may append by the scope what they may by the law
abbrev pub OthersMay : (ℕ → Type 0) → Law → Law → Type 0
OthersMay beside law scope = (user : ℕ) (e : Entry) → beside user → law.may user e → scope.may user e

-- if there is anybody beside, the law lets no log be trimmed but where the scope does too, of any journal that the scope allows
abbrev pub OthersTrim : (ℕ → Type 0) → Law → Law → Type 0
OthersTrim beside law scope =
    (user : ℕ) → beside user → (seen : List Event) (n : ℕ) → IsLegal scope seen
    → IsFree (state_of seen).shown law.floor n → IsFree (state_of seen).shown scope.floor n

-- The scope is narrower than the law. It binds nobody beside: what they may do by the law they may by the scope.
pub record Narrows (scope law : Law) (beside : ℕ → Type 0) : Type 0 where
  pub narrower : IsNarrower scope law
  pub others : OthersMay beside law scope
  pub trims : OthersTrim beside law scope

-- by whom the events are, and the journal as far as it was seen
pub record NarrowView : Type 0 where
  pub who : ℕ
  pub seen : List Event

-- The scope is this user's, and narrower than the law. The journal is legal by it; each event since it began is who's or of one of those beside;
-- and who began a Seal since then only where the scope lets it.
pub record IsNarrow (scope law : Law) (beside : ℕ → ℕ → Type 0) (seals : ℕ → Type 0) (whose : ℕ) (since : List Event) (who : ℕ) (seen : List Event) : Type 0 where
  pub who_is : who ≡ whose
  pub narrows : Narrows scope law (beside who)
  pub legal : IsLegal scope seen
  pub since_is : Since who (beside who) since seen
  pub right : SealsByRight (seals who) who since seen
