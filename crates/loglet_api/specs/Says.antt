-- What one answer says, in words.
use Rattle.std.specs.Prelude.{◌≡◌, ℕ, ◌+◌, ◌-◌, ◌^◌, ◌<◌, ◌≤◌, ◌⊎◌, min, max, false, true, Some, slice_get}
use Rattle.delos_types.specs.declared.entry.Entry.{Entry}
use Rattle.loglet_api.specs.declared.call.Answer.{Answer}
use Rattle.loglet_api.specs.declared.call.Answer.TheVariants.{Placed, SealedTail, Got, Beyond, NoQuorum}
use Rattle.loglet_api.specs.declared.call.Op.TheVariants.{Trim}
use Rattle.loglet_api.specs.declared.call.Task.TheVariants.{Reading}
use Rattle.loglet_api.specs.declared.call.LogletCall.TheVariants.{Begin, Take}
use Rattle.loglet_api.specs.declared.call.LogletAnswer.TheVariants.{Begun, Taken}
use Rattle.loglet_api.specs.View.{LogletView, Operation, operation_at}
use Rattle.loglet_api.specs.Step.{LogletStep}

-- the operation of the ticket is answered so
abbrev pub Answers : LogletView → ℕ → Answer → LogletView → Type 0
Answers old t answer new = LogletStep old (Take t) (Taken (Some answer)) new

-- the operation of the ticket is open, and P holds of it
abbrev pub AtTicket : LogletView → ℕ → (Operation → Type 0) → Type 0
AtTicket v t P = (o : Operation) × (operation_at v.operations t ≡ Some o) × P o

-- servers were down as the operation began, or faults came since
abbrev pub HasCause : LogletView → Operation → Type 0
HasCause v o = (0 < o.down) ⊎ (min (o.faults + 1) (2 ^ 64 - 1) ≤ v.faults)

-- a Read gives the entry that stands at its position
abbrev pub GotIsThere : Type 0
GotIsThere = (old : LogletView) (t : ℕ) (e : Entry) (new : LogletView) → Answers old t (Got e) new
    → AtTicket old t (λ o. (p : ℕ) × (o.task ≡ Reading p) × (old.cut ≤ p) × (slice_get old.log (p - old.cut) ≡ Some e))

-- a position is told to be beyond only where no answer had spoken of it as the Read began
abbrev pub BeyondWasUnspoken : Type 0
BeyondWasUnspoken = (old : LogletView) (t n : ℕ) (new : LogletView) → Answers old t (Beyond n) new
    → AtTicket old t (λ o. (p : ℕ) × (o.task ≡ Reading p) × (o.firm ≤ p) × (n ≡ o.firm))

-- an entry is placed where the log ended as its Append began, which was before the seal
abbrev pub PlacedBeforeSeal : Type 0
PlacedBeforeSeal = (old : LogletView) (t p : ℕ) (new : LogletView) → Answers old t (Placed p) new
    → AtTicket old t (λ o. (p ≡ o.size) × (o.shut ≡ false))

-- a lack of servers has its cause
abbrev pub LackHasCause : Type 0
LackHasCause = (old : LogletView) (t unreached : ℕ) (new : LogletView) → Answers old t (NoQuorum unreached) new
    → AtTicket old t (HasCause old)

-- a sealed tail comes of a sealed loglet, covers all that is acknowledged, and acknowledges nothing
abbrev pub SealedTailCovers : Type 0
SealedTailCovers = (old : LogletView) (t n : ℕ) (new : LogletView) → Answers old t (SealedTail n) new
    → (old.shut ≡ true) × (old.reach ≤ n) × (new.reach ≡ old.reach)

-- a Trim raises the cut as far as it asks, but not past what is acknowledged
abbrev pub TrimStopsAtReach : Type 0
TrimStopsAtReach = (old : LogletView) (t n : ℕ) (new : LogletView) → LogletStep old (Begin (Trim n)) (Begun t) new
    → (new.cut ≡ max old.cut (min n old.reach)) × (new.cut ≤ old.reach)
