-- One turn of a user of a fabric.
use Rattle.std.specs.Prelude.{◌≡◌, ◌≢◌, ℕ, ◌⊎◌, List, [], ◌∷◌, ◌++◌, length, Some}
use Rattle.delos_types.specs.declared.chain.Chain.{Chain}
use Rattle.loglet_api.specs.declared.call.Op.TheVariants.{Seal}
use Rattle.legal_journal.specs.Law.{Law}
use Rattle.legal_journal.specs.declared.events.FabricCall.{FabricCall}
use Rattle.legal_journal.specs.declared.events.FabricCall.TheVariants.{Begin, Carry, Forget, ReadChain, WriteChain, Stop, Mend, Stray, StopMeta, MendMeta}
use Rattle.legal_journal.specs.declared.events.FabricAnswer.{FabricAnswer}
use Rattle.legal_journal.specs.declared.events.FabricAnswer.TheVariants.{Memory}
use Rattle.legal_journal.specs.declared.events.Event.{Event}
use Rattle.legal_journal.specs.Told.{Running}
use Rattle.legal_journal.specs.Journal.{State, state_of, MayBegin, MayFollow, Exists, IsLegal}

-- an operation is carried and closed by the who that began it
abbrev pub IsOwner : State → ℕ → ℕ → ℕ → Type 0
IsOwner w who i t = (r : Running) → (w.cells i).told.ops t ≡ Some r → (w.cells i).owner t ≡ who

-- who may ask for this
abbrev pub MayAsk : State → Law → ℕ → FabricCall → Type 0
MayAsk w law who (Begin i op) = MayBegin w law.may (length law.shelf) who i op
MayAsk w law who (Carry i t word) = IsOwner w who i t
MayAsk w law who (Forget i t) = IsOwner w who i t
MayAsk w law who ReadChain = Unit {0}
MayAsk w law who (WriteChain x c) = (old : Chain) × (w.register.given x ≡ Some old) × MayFollow w law.floor (length law.shelf) old c
MayAsk w law who (Stop i server n) = Unit {0}
MayAsk w law who (Mend i server word) = Unit {0}
MayAsk w law who (Stray i word) = Unit {0}
MayAsk w law who (StopMeta n) = Unit {0}
MayAsk w law who (MendMeta word) = Unit {0}

-- who may make this call
pub record MayCall (w : State) (law : Law) (who : ℕ) (call : FabricCall) : Type 0 where
  pub there : Exists law.shelf call
  pub asks : MayAsk w law who call

-- no event is by who
abbrev pub AreOthers : ℕ → List Event → Type 0
AreOthers who [] = Unit {0}
AreOthers who (e ∷ es) = (e.who ≢ who) × AreOthers who es

-- whatever legal events of others come before it
abbrev pub MayTurn : Law → ℕ → List Event → FabricCall → Type 0
MayTurn law who seen call =
    (others : List Event) → AreOthers who others → IsLegal law (seen ++ others)
    → MayCall (state_of (seen ++ others)) law who call

-- a Seal is begun by who has the right to, and nobody breaks or mends anything, nor has an old message come again
abbrev pub HasRight : (ℕ → Type 0) → ℕ → FabricCall → Type 0
HasRight seals who (Begin i Seal) = seals who
HasRight seals who (Stop i server n) = ⊥
HasRight seals who (Mend i server word) = ⊥
HasRight seals who (Stray i word) = ⊥
HasRight seals who (StopMeta n) = ⊥
HasRight seals who (MendMeta word) = ⊥
HasRight seals who call = Unit {0}

-- the events of a call: one, but none with Memory; a Carry whose entry couldn't be copied is one with Memory
abbrev pub OwnEvents : ℕ → FabricCall → FabricAnswer → List Event → Type 0
OwnEvents who (Carry i t word) Memory own = (own ≡ []) ⊎ (own ≡ record { who = who; call = Carry i t word; answer = Memory } ∷ [])
OwnEvents who call Memory own = own ≡ []
OwnEvents who call answer own = own ≡ record { who = who; call = call; answer = answer } ∷ []

-- what is seen after a turn: what was seen, events of others, and the own event; all of it is legal
pub record IsTurn (law : Law) (who : ℕ) (old : List Event) (call : FabricCall) (answer : FabricAnswer) (new : List Event) : Type 0 where
  pub others : List Event
  pub own : List Event
  pub apart : AreOthers who others
  pub event : OwnEvents who call answer own
  pub seen : new ≡ (old ++ others) ++ own
  pub legal : IsLegal law new
