-- What a truncation says.
use Rattle.std.specs.Prelude.{◌≡◌, ◌⊎◌, ℕ, ◌-◌, ◌<◌, ◌≤◌, min, List, slice_get, Option, None, Some}
use Rattle.delos_types.specs.declared.chain.Segment.{Segment}
use Rattle.delos_types.specs.declared.chain.Chain.{Chain}
use Rattle.chain_map.specs.Step.{dropped_below}
use Rattle.loglet_api.specs.declared.call.Op.TheVariants.{Trim}
use Rattle.loglet_api.specs.declared.call.Answer.TheVariants.{TrimDone}
use Rattle.legal_journal.specs.declared.events.Event.{Event}
use Rattle.legal_journal.specs.declared.events.FabricCall.{FabricCall}
use Rattle.legal_journal.specs.declared.events.FabricCall.TheVariants.{Begin, ReadChain, WriteChain}
use Rattle.legal_journal.specs.declared.events.FabricAnswer.{FabricAnswer}
use Rattle.legal_journal.specs.declared.events.FabricAnswer.TheVariants.{Begun, At, Written, Conflict}
use Rattle.virtual_log.specs.Turning.{HasEvent, IsAnswer, LooksAt}
use Rattle.virtual_log.specs.Writing.{WroteNone}

-- an own write stands under this version: it raises the trim to n, over a chain whose trim was lower
pub record IsRaised (who : ℕ) (old : List Event) (n version : ℕ) (new : List Event) : Type 0 where
  pub expected : ℕ
  pub before : Chain
  pub above : before.trim < n
  pub event : HasEvent old (λ e. e ≡ record { who = who; call = WriteChain expected (dropped_below before n); answer = Written version }) new

-- the register told that this chain stands under this version
abbrev pub Tells : ℕ → Chain → FabricCall → FabricAnswer → Type 0
Tells version chain ReadChain (At v c) = (v ≡ version) × (c ≡ chain)
Tells version chain (WriteChain x asked) (Conflict v c) = (v ≡ version) × (c ≡ chain)
Tells version chain call answer = ⊥

abbrev pub IsTold : ℕ → ℕ → Chain → Event → Type 0
IsTold who version chain e = (e.who ≡ who) × Tells version chain e.call e.answer

-- a chain was told whose trim isn't below n
pub record IsHigh (who : ℕ) (old : List Event) (n version trim : ℕ) (new : List Event) : Type 0 where
  pub chain : Chain
  pub trim_is : trim ≡ chain.trim
  pub event : HasEvent old (IsTold who version chain) new

-- The chain of this version has this trim, which isn't below n: an own write raised it to n, or it stood so.
pub record IsTruncated (who : ℕ) (old : List Event) (n version trim : ℕ) (new : List Event) : Type 0 where
  pub reached : n ≤ trim
  pub how : (IsRaised who old n version new × (trim ≡ n)) ⊎ IsHigh who old n version trim new

-- where what lies below n ends
abbrev pub end_below : ℕ → Option ℕ → ℕ
end_below n None = n
end_below n (Some end) = min end n

-- how much of a segment lies below n
abbrev pub length_below : Segment → ℕ → ℕ
length_below s n = end_below n s.end - s.start

-- the loglet of the segment is asked, under this ticket, to let go of what lies below n
abbrev pub IsTrimOf : ℕ → Segment → ℕ → ℕ → Event → Type 0
IsTrimOf who s n t e = e ≡ record { who = who; call = Begin s.id (Trim (length_below s n)); answer = Begun t }

-- .. and then it answered that it did
pub record LetsGo (who : ℕ) (old : List Event) (s : Segment) (n : ℕ) (new : List Event) : Type 0 where
  pub ticket : ℕ
  pub asked : List Event
  pub begun : HasEvent old (IsTrimOf who s n ticket) asked
  pub answered : HasEvent asked (IsAnswer who s.id ticket TrimDone) new

-- each of these segments that starts below n
abbrev pub AreTrimmed : ℕ → List Event → List Segment → ℕ → List Event → Type 0
AreTrimmed who old ss n new =
    (k : ℕ) (s : Segment) → slice_get ss k ≡ Some s → s.start < n → LetsGo who old s n new

-- The trim was raised, and the loglet of each segment of the chain that was looked at before that starts below n let go.
pub record IsPrefixTrimmed (who : ℕ) (old : List Event) (n trim : ℕ) (new : List Event) : Type 0 where
  pub version : ℕ
  pub chain : Chain
  pub look : HasEvent old (IsTold who version chain) new
  pub written : ℕ
  pub truncated : IsTruncated who old n written trim new
  pub trimmed : AreTrimmed who old chain.segments n new

-- who wrote no chain since old, or its first own event reads a chain whose trim is below n
abbrev pub Spares : ℕ → List Event → ℕ → List Event → Type 0
Spares who old n new = WroteNone who old new ⊎ ((chain : Chain) × LooksAt who old chain new × (chain.trim < n))

-- The first own event since old reads a chain, and after it each segment of that chain that starts below n was trimmed.
pub record TrimsLooked (who : ℕ) (old : List Event) (n : ℕ) (new : List Event) : Type 0 where
  pub chain : Chain
  pub looks : LooksAt who old chain new
  pub trimmed : AreTrimmed who looks.looked chain.segments n new
