-- The chain is read a last time.
use Rattle.std.specs.Prelude.{◌≡◌, ◌⊎◌, ◌≤◌, ℕ, true, false, List, [], ◌∷◌, ◌++◌, map, Option, Some, None}
use Rattle.chain_map.specs.Chain.{is_chain}
use Rattle.legal_journal.specs.declared.events.FabricCall.{FabricCall}
use Rattle.legal_journal.specs.declared.events.FabricCall.TheVariants.{ReadChain, MendMeta}
use Rattle.legal_journal.specs.declared.events.FabricAnswer.{FabricAnswer}
use Rattle.legal_journal.specs.declared.events.Event.{Event}
use Rattle.legal_journal.specs.Journal.{state_of}
use Rattle.fabric_core.specs.Fabric.{FabricView}
use Rattle.turn_scopes.specs.Alone.{OwnSince}
use Rattle.last_chain.specs.declared.last.LastChain.{LastChain}
use Rattle.last_chain.specs.Gifts.{misses_in}

-- The chain is one that joins, and with its version the last that the register gave: the current one, unless the register is
-- down, which is told then, and a reopening of it failed. It is the chain that the journal knows.
pub record IsLast (l : LastChain) (f : FabricView) : Type 0 where
  pub joins : is_chain l.chain ≡ true
  pub version : l.version ≡ f.register.given
  pub chain : l.chain ≡ f.register.given_chain
  pub current : f.register.down ≡ false → (f.register.version ≡ f.register.given) × (f.register.chain ≡ f.register.given_chain)
  pub down : l.down ≡ f.register.down
  pub missed : f.register.down ≡ true → 1 ≤ f.register.misses
  pub told : l.chain ≡ (state_of f.journal).register.chain

-- Only who's events came, and all that the journal tells of the loglets stays.
pub record Watches (who : ℕ) (old new : List Event) : Type 0 where
  pub since : OwnSince who old new
  pub cells : (state_of new).cells ≡ (state_of old).cells

-- one event came, of this call
pub record Makes (who : ℕ) (call : FabricCall) (old new : List Event) : Type 0 where
  pub answer : FabricAnswer
  pub added : new ≡ old ++ record { who = who; call = call; answer = answer } ∷ []

-- the calls of these events
abbrev pub calls_of : List Event → List FabricCall
calls_of events = map (λ e. e.call) events

-- The chain was read; or the register was opened again between two reads, once, with word 0.
abbrev pub AskedOnce : List FabricCall → Type 0
AskedOnce calls = (calls ≡ ReadChain ∷ []) ⊎ (calls ≡ ReadChain ∷ MendMeta 0 ∷ ReadChain ∷ [])

pub record AsksOnce (old new : List Event) : Type 0 where
  pub more : List Event
  pub seen : new ≡ old ++ more
  pub calls : AskedOnce (calls_of more)

-- The chain was read, and the register is up; or it was down, and was opened again, once, with word 0.
abbrev pub OpenedOnce : FabricView → List FabricCall → FabricView → Type 0
OpenedOnce old calls new =
    ((calls ≡ ReadChain ∷ []) × (new.register.down ≡ false))
    ⊎ ((calls ≡ ReadChain ∷ MendMeta 0 ∷ []) × (old.register.down ≡ true) × (new.register.down ≡ true → 1 ≤ misses_in new.journal))

pub record OpensOnce (old new : FabricView) : Type 0 where
  pub more : List Event
  pub seen : new.journal ≡ old.journal ++ more
  pub calls : OpenedOnce old (calls_of more) new

-- it is down still
pub record StaysDown (old new : FabricView) : Type 0 where
  pub was : old.register.down ≡ true
  pub now : new.register.down ≡ true

-- what a read of the chain comes to
abbrev pub Asked : FabricView → Option LastChain → FabricView → Type 0
Asked old (Some l) new = IsLast l new × (new.register.down ≡ false)
Asked old None new = StaysDown old new

-- where it is down, that failed
abbrev pub Opened : FabricView → Type 0
Opened f = f.register.down ≡ true → 1 ≤ misses_in f.journal
