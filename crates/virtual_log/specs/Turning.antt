-- What turns bring.
use Rattle.std.specs.Prelude.{◌≡◌, ℕ, Bool, true, false, List, [], ◌∷◌, ◌++◌}
use Rattle.delos_types.specs.declared.chain.Chain.{Chain}
use Rattle.loglet_api.specs.declared.call.Op.{Op}
use Rattle.loglet_api.specs.declared.call.Answer.{Answer}
use Rattle.legal_journal.specs.Law.{Law}
use Rattle.legal_journal.specs.declared.events.Event.{Event}
use Rattle.legal_journal.specs.declared.events.FabricCall.TheVariants.{Begin, Carry, ReadChain}
use Rattle.legal_journal.specs.declared.events.FabricAnswer.{FabricAnswer}
use Rattle.legal_journal.specs.declared.events.FabricAnswer.TheVariants.{Begun, Done, Gone, NoTicket, At, Memory}
use Rattle.legal_journal.specs.Told.{Running, started, MayAnswer, answered}
use Rattle.legal_journal.specs.Moves.{Begins, Answers, OnCell}
use Rattle.legal_journal.specs.Journal.{State, state_of, after, IsOwn, IsLegal, ends_told}
use Rattle.legal_journal.specs.Laws.{Clears}
use Rattle.legal_journal.specs.Turns.{AreOthers}

-- each event is who's
abbrev pub AreOwn : ℕ → List Event → Type 0
AreOwn who [] = Unit {0}
AreOwn who (e ∷ es) = (e.who ≡ who) × AreOwn who es

-- each event since old is who's
pub record OnlyOwn (who : ℕ) (old new : List Event) : Type 0 where
  pub more : List Event
  pub seen : new ≡ old ++ more
  pub own : AreOwn who more

-- the register and what each loglet told are as they were
pub record Still (old new : State) : Type 0 where
  pub register : new.register ≡ old.register
  pub told : (i : ℕ) → (new.cells i).told ≡ (old.cells i).told

-- what was seen before is still seen, and what is seen is legal
pub record Later (law : Law) (old new : List Event) : Type 0 where
  pub more : List Event
  pub seen : new ≡ old ++ more
  pub legal : IsLegal law new

-- the one own event since old is a read, to which the register gave this chain
pub record Looked (who : ℕ) (old : List Event) (version : ℕ) (chain : Chain) (new : List Event) : Type 0 where
  pub others : List Event
  pub apart : AreOthers who others
  pub seen : new ≡ (old ++ others) ++ record { who = who; call = ReadChain; answer = At version chain } ∷ []
  pub version_is : (state_of new).register.version ≡ version
  pub chain_is : (state_of new).register.chain ≡ chain

-- the first own event since old reads this chain
pub record LooksAt (who : ℕ) (old : List Event) (chain : Chain) (new : List Event) : Type 0 where
  pub others : List Event
  pub apart : AreOthers who others
  pub version : ℕ
  pub looked : List Event
  pub look : looked ≡ (old ++ others) ++ record { who = who; call = ReadChain; answer = At version chain } ∷ []
  pub rest : List Event
  pub seen : new ≡ looked ++ rest

-- the first own event since old, with those of others before it
pub record FirstTurn (who : ℕ) (old new : List Event) : Type 0 where
  pub others : List Event
  pub apart : AreOthers who others
  pub event : Event
  pub own : event.who ≡ who
  pub rest : List Event
  pub seen : new ≡ (old ++ others) ++ event ∷ rest

-- an event since old is such
pub record HasEvent (old : List Event) (P : Event → Type 0) (new : List Event) : Type 0 where
  pub event : Event
  pub is : P event
  pub before : List Event
  pub after : List Event
  pub seen : new ≡ (old ++ before) ++ event ∷ after

-- the operation is open and who's; it was begun by the first own event, with what had been told then
pub record Opened (who : ℕ) (old : List Event) (i : ℕ) (op : Op) (t : ℕ) (new : List Event) : Type 0 where
  pub first : FirstTurn who old new
  pub own : IsOwn ((state_of new).cells i) who t (started ((state_of (old ++ first.others)).cells i).told op)
  pub event : HasEvent old (λ e. e ≡ record { who = who; call = Begin i op; answer = Begun t }) new
  pub now : state_of new ≡ after (state_of (old ++ first.others)) who (OnCell i (Begins op t))

-- whether an operation is closed, by the answer to a call that asks for it
abbrev pub IsForgotten : FabricAnswer → Bool → Type 0
IsForgotten Gone closed = closed ≡ true
IsForgotten NoTicket closed = closed ≡ true
IsForgotten Memory closed = closed ≡ false
IsForgotten answer closed = ⊥

-- who's carry of the ticket was answered so
abbrev pub IsAnswer : ℕ → ℕ → ℕ → Answer → Event → Type 0
IsAnswer who i t a e = (word : ℕ) × (e ≡ record { who = who; call = Carry i t word; answer = Done a })

-- the operation r of this ticket was answered so, at a moment since old, and the cell is as the answer leaves it
pub record Answered (who : ℕ) (old : List Event) (i t : ℕ) (r : Running) (a : Answer) (new : List Event) : Type 0 where
  pub moment : List Event
  pub since : (more : List Event) × (moment ≡ old ++ more)
  pub rest : (more : List Event) × (new ≡ moment ++ more)
  pub may : MayAnswer ((state_of moment).cells i).told r r.op a
  pub told : ((state_of new).cells i).told ≡ answered ((state_of moment).cells i).told t r a
  pub ends : ((state_of new).cells i).ends ≡ ends_told ((state_of moment).cells i).ends a
  pub event : HasEvent old (λ e. IsAnswer who i t a e) new
  pub now : state_of new ≡ after (state_of moment) who (OnCell i (Answers t a))
  -- own carries before it change nothing that is told
  pub still : OnlyOwn who old moment → Still (state_of old) (state_of moment)

-- The position is above each position that was answered, and not below any tail that was, before the first own event.
pub record IsAbove (who : ℕ) (old : List Event) (pos : ℕ) (new : List Event) : Type 0 where
  pub first : FirstTurn who old new
  pub clears : Clears (state_of (old ++ first.others)) pos
