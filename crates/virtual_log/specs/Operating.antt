-- Which operations a call leaves open.
use Rattle.std.specs.Prelude.{◌≡◌, ◌≢◌, ◌⊎◌, ℕ, List, [], ◌∷◌, ◌++◌, Option, None, Some, Result, Ok, Err}
use Rattle.legal_journal.specs.declared.events.Event.{Event}
use Rattle.legal_journal.specs.declared.events.FabricCall.{FabricCall}
use Rattle.legal_journal.specs.declared.events.FabricCall.TheVariants.{Begin, Carry, Forget, ReadChain, WriteChain}
use Rattle.legal_journal.specs.declared.events.FabricAnswer.{FabricAnswer}
use Rattle.legal_journal.specs.declared.events.FabricAnswer.TheVariants as fabric
use Rattle.virtual_log.specs.declared.fault.Fault.{Fault}
use Rattle.virtual_log.specs.declared.fault.Fault.TheVariants.{Memory}

-- an operation on a loglet, by the ticket under which it was begun
pub record Operation : Type 0 where
  pub loglet : ℕ
  pub ticket : ℕ

-- Which operation is at hand after an own event: one at most. Each own carry and closing is of the one at hand, and the chain
-- is read and written, and an operation begun, while none is. A carry that is answered Memory may have closed it, which who
-- isn't told, so it is at hand still.
abbrev pub Hands : Option Operation → FabricCall → FabricAnswer → Option Operation → Type 0
Hands None (Begin i op) (fabric.Begun t) next = next ≡ Some (record { loglet = i; ticket = t })
Hands None (Begin i op) answer next = next ≡ None
Hands None ReadChain answer next = next ≡ None
Hands None (WriteChain x c) answer next = next ≡ None
Hands (Some o) (Carry i t word) (fabric.Done a) next = (i ≡ o.loglet) × (t ≡ o.ticket) × (next ≡ None)
Hands (Some o) (Carry i t word) answer next = (i ≡ o.loglet) × (t ≡ o.ticket) × (next ≡ Some o)
Hands (Some o) (Forget i t) answer next = (i ≡ o.loglet) × (t ≡ o.ticket) × (next ≡ None)
Hands before call answer next = ⊥

-- .. after an event, where another's leaves it
abbrev pub HandsBy : ℕ → Option Operation → Event → Option Operation → Type 0
HandsBy who before e next = ((e.who ≡ who) × Hands before e.call e.answer next) ⊎ ((e.who ≢ who) × (next ≡ before))

-- .. after these events
abbrev pub HandsEach : ℕ → Option Operation → List Event → Option Operation → Type 0
HandsEach who before [] last = last ≡ before
HandsEach who before (e ∷ es) last = (next : Option Operation) × HandsBy who before e next × HandsEach who next es last

-- who's operations since old came one after another, from the one that was at hand to the one that is
pub record Operates (who : ℕ) (before last : Option Operation) (old new : List Event) : Type 0 where
  pub more : List Event
  pub seen : new ≡ old ++ more
  pub hands : HandsEach who before more last

-- None that this call began is left open by a fault. Want of memory may leave one, the last: a carry and a closing for which
-- memory is wanting are no events.
abbrev pub LeftBy : ℕ → List Event → Fault → List Event → Type 0
LeftBy who old Memory new = (left : Option Operation) × Operates who None left old new
LeftBy who old fault new = Operates who None None old new

-- each operation of who's since old is one that this call began, and they are closed, but for what want of memory leaves
abbrev pub ClosesOwn : {A : Type 0} → ℕ → List Event → Result A Fault → List Event → Type 0
ClosesOwn who old (Ok a) new = Operates who None None old new
ClosesOwn who old (Err fault) new = LeftBy who old fault new
