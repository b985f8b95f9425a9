-- How a chain comes to have a change.
use Rattle.std.specs.Prelude.{◌≡◌, ℕ, ◌+◌, ◌<◌, ◌≤◌, ◌^◌, List, Contains, Some, length}
use Rattle.delos_types.specs.declared.entry.Entry.{Entry}
use Rattle.delos_types.specs.declared.chain.Chain.{Chain}
use Rattle.chain_map.specs.Chain.{last_segment, last_id}
use Rattle.chain_map.specs.Step.{extended, dropped_below}
use Rattle.legal_journal.specs.declared.events.Event.{Event}
use Rattle.legal_journal.specs.declared.events.FabricCall.TheVariants.{WriteChain}
use Rattle.legal_journal.specs.declared.events.FabricAnswer.{FabricAnswer}
use Rattle.legal_journal.specs.declared.events.FabricAnswer.TheVariants as fabric
use Rattle.legal_journal.specs.Journal.{State, state_of, IsFree}
use Rattle.virtual_log.specs.declared.write.Change.{Change}
use Rattle.virtual_log.specs.declared.write.Change.TheVariants.{Close, Raise}
use Rattle.virtual_log.specs.declared.write.Reply.{Reply}
use Rattle.virtual_log.specs.declared.write.Reply.TheVariants as reply
use Rattle.virtual_log.specs.declared.write.Settled.{Settled}
use Rattle.virtual_log.specs.declared.write.Settled.TheVariants.{Written, Found}
use Rattle.virtual_log.specs.Turning.{HasEvent}
use Rattle.virtual_log.specs.Writing.{WroteNone}

-- the chain with the change
abbrev pub with_change : Change → Chain → Chain
with_change (Close last length) c = extended c length
with_change (Raise n) c = dropped_below c n

-- the chain lacks the change: the segment is its last one; its trim is lower
abbrev pub Lacks : Change → Chain → Type 0
Lacks (Close last length) c = last_segment c ≡ last
Lacks (Raise n) c = c.trim < n

-- the chain has the change: it goes on behind the segment's loglet; its trim isn't lower
abbrev pub Has : Change → Chain → Type 0
Has (Close last length) c = last.id < (last_segment c).id
Has (Raise n) c = n ≤ c.trim

-- the numbers of the chain with the change fit
abbrev pub Admits : Change → Chain → Type 0
Admits (Close last length) c = ((last_segment c).start + length < 2 ^ 64) × (last_id c + 1 < 64)
Admits (Raise n) c = c.trim < n

-- what allows the change: the loglet answered this as its sealed tail; the trim is known, and may be raised so far
abbrev pub IsGranted : (List Entry → ℕ → Type 0) → State → ℕ → Change → Type 0
IsGranted floor w known (Close last length) = Contains (w.cells last.id).ends length
IsGranted floor w known (Raise n) = (n ≤ known) × IsFree w.shown floor n

-- the register's answer to a write
abbrev pub told_by : Reply → FabricAnswer
told_by (reply.Written version) = fabric.Written version
told_by (reply.Conflict version chain) = fabric.Conflict version chain

-- An own write stands under this version, over a chain that the register gave and that lacked the change.
pub record IsMade (who : ℕ) (old : List Event) (change : Change) (version : ℕ) (chain : Chain) (new : List Event) : Type 0 where
  pub expected : ℕ
  pub before : Chain
  pub given : (state_of new).register.given expected ≡ Some before
  pub lacks : Lacks change before
  pub event : HasEvent old (λ e. e ≡ record { who = who; call = WriteChain expected (with_change change before); answer = fabric.Written version }) new
  pub chain_is : chain ≡ with_change change before

-- An own write was refused: this chain stands under this version. No own write stands.
pub record IsLost (who : ℕ) (old : List Event) (version : ℕ) (chain : Chain) (new : List Event) : Type 0 where
  pub expected : ℕ
  pub asked : Chain
  pub event : HasEvent old (λ e. e ≡ record { who = who; call = WriteChain expected asked; answer = fabric.Conflict version chain }) new
  pub quiet : WroteNone who old new

-- how it came that the chain of this version has the change
abbrev pub Settles : ℕ → List Event → Change → ℕ → Chain → List Event → Settled → Type 0
Settles who old change version chain new Written = IsMade who old change version chain new
Settles who old change version chain new Found = IsLost who old version chain new
