-- Appends that were begun and aren't answered.
use Rattle.std.specs.Prelude.{◌≡◌, ◌⊎◌, ℕ, ◌+◌, ◌<◌, ◌≤◌, max, Bool, true, if◌then◌else◌, nat_lt, List, [], ◌∷◌, ◌++◌, Option, None, Some, Contains, Result, Ok, Err}
use Rattle.delos_types.specs.declared.entry.Entry.{Entry}
use Rattle.delos_types.specs.Spelling.{IsSpellable}
use Rattle.delos_types.specs.declared.chain.Segment.{Segment}
use Rattle.delos_types.specs.declared.chain.Chain.{Chain}
use Rattle.chain_map.specs.Chain.{last_segment}
use Rattle.chain_map.specs.Step.{extended}
use Rattle.loglet_api.specs.declared.call.Op.TheVariants.{Append, Tail}
use Rattle.loglet_api.specs.declared.call.Answer.TheVariants.{Placed, SealedTail, Sealed}
use Rattle.legal_journal.specs.Law.{Law}
use Rattle.legal_journal.specs.declared.events.Event.{Event}
use Rattle.legal_journal.specs.declared.events.FabricCall.{FabricCall}
use Rattle.legal_journal.specs.declared.events.FabricCall.TheVariants.{Begin, Carry, Forget, ReadChain, WriteChain}
use Rattle.legal_journal.specs.declared.events.FabricAnswer.{FabricAnswer}
use Rattle.legal_journal.specs.declared.events.FabricAnswer.TheVariants as fabric
use Rattle.legal_journal.specs.Told.{Running, started}
use Rattle.legal_journal.specs.Journal.{state_of, IsOwn}
use Rattle.legal_journal.specs.Laws.{Stands}
use Rattle.legal_journal.specs.Turns.{AreOthers}
use Rattle.virtual_log.specs.declared.calls.Known.{Known}
use Rattle.virtual_log.specs.declared.fault.Fault.{Fault}
use Rattle.virtual_log.specs.declared.fault.Fault.TheVariants.{Memory}
use Rattle.virtual_log.specs.declared.underway.Step.{Step}
use Rattle.virtual_log.specs.declared.underway.Step.TheVariants.{Starting, Appending, Reading, Asking, Finding, Closing, Dropping}
use Rattle.virtual_log.specs.declared.underway.Going.{Going}
use Rattle.virtual_log.specs.Turning.{FirstTurn, IsAbove, Later}
use Rattle.virtual_log.specs.Causes.{HasCause, CalmSince}
use Rattle.virtual_log.specs.Sealing.{SealsNone}
use Rattle.virtual_log.specs.Holding.{Holds}
use Rattle.virtual_log.specs.Log.{GoesBy}

-- What holds while an append is underway.

-- it is the last segment of a chain that the register gave
pub record IsLast (seen : List Event) (s : Segment) : Type 0 where
  pub version : ℕ
  pub chain : Chain
  pub given : (state_of seen).register.given version ≡ Some chain
  pub last_is : s ≡ last_segment chain

-- .. and an answer told its loglet sealed
pub record IsShut (seen : List Event) (s : Segment) : Type 0 where
  pub last : IsLast seen s
  pub sealed : ((state_of seen).cells s.id).told.sealed ≡ true

-- the ticket is open and who's; its append was begun at a moment since front, with what had been told then
pub record IsAppending (who : ℕ) (front seen : List Event) (e : Entry) (s : Segment) (t : ℕ) : Type 0 where
  pub begin : List Event
  pub since : (more : List Event) × (begin ≡ front ++ more)
  pub rest : (more : List Event) × (seen ≡ begin ++ more)
  pub last : IsLast begin s
  pub own : IsOwn ((state_of seen).cells s.id) who t (started ((state_of begin).cells s.id).told (Append e))

-- the ticket is open and who's; it asks for a tail, and was begun when the loglet was told sealed
pub record IsFinding (who : ℕ) (seen : List Event) (s : Segment) (t : ℕ) : Type 0 where
  pub shut : IsShut seen s
  pub running : Running
  pub own : IsOwn ((state_of seen).cells s.id) who t running
  pub asks : running.op ≡ Tail
  pub late : running.sealed ≡ true

-- who began the ticket, and if it is open it may be closed
pub record IsDropping (who : ℕ) (seen : List Event) (i t : ℕ) : Type 0 where
  pub start : ℕ
  pub there : (state_of seen).starts i ≡ Some start
  pub begun : t < ((state_of seen).cells i).told.begun
  pub own : ((state_of seen).cells i).owner t ≡ who

-- what each step rests on; where the append is begun, it was so no earlier than front
abbrev pub IsAt : ℕ → List Event → List Event → Entry → Step → Type 0
IsAt who front seen e Starting = Unit {0}
IsAt who front seen e (Appending s t) = IsAppending who front seen e s t
IsAt who front seen e (Reading s) = IsShut seen s
IsAt who front seen e (Asking s) = IsShut seen s
IsAt who front seen e (Finding s t) = IsFinding who seen s t
IsAt who front seen e (Closing s n) = IsShut seen s × Contains ((state_of seen).cells s.id).ends n
IsAt who front seen e (Dropping i t) = IsDropping who seen i t

-- the loglet that the step is about is no later than the last one of the known chain
abbrev pub IsKnown : ℕ → Step → Type 0
IsKnown last (Appending s t) = s.id ≤ last
IsKnown last (Reading s) = s.id ≤ last
IsKnown last (Asking s) = s.id ≤ last
IsKnown last (Finding s t) = s.id ≤ last
IsKnown last (Closing s n) = s.id ≤ last
IsKnown last step = Unit {0}

-- An append of its entry by who, which was begun after early and can go on in what is seen, by a log that goes by this chain.
pub record IsGoing (may : ℕ → Entry → Type 0) (who : ℕ) (early seen : List Event) (c : Chain) (g : Going) : Type 0 where
  pub allowed : may who g.entry
  pub spelled : IsSpellable g.entry
  pub first : FirstTurn who early seen
  pub at : IsAt who (early ++ first.others) seen g.entry g.step
  pub reached : IsKnown (last_segment c).id g.step

-- Tickets.

-- the step has this ticket of this loglet
abbrev pub HasTicket : Step → ℕ → ℕ → Type 0
HasTicket (Appending s u) i t = (s.id ≡ i) × (u ≡ t)
HasTicket (Finding s u) i t = (s.id ≡ i) × (u ≡ t)
HasTicket (Dropping j u) i t = (j ≡ i) × (u ≡ t)
HasTicket step i t = ⊥

-- they have no ticket in common
abbrev pub AreApart : Going → Going → Type 0
AreApart g other = (i t : ℕ) → HasTicket g.step i t → HasTicket other.step i t → ⊥

-- the call neither carries nor closes the ticket
abbrev pub Leaves : ℕ → ℕ → FabricCall → Type 0
Leaves i t (Carry j u word) = j ≡ i → u ≡ t → ⊥
Leaves i t (Forget j u) = j ≡ i → u ≡ t → ⊥
Leaves i t call = Unit {0}

-- .. no call of who's does
abbrev pub LeaveTicket : ℕ → ℕ → ℕ → List Event → Type 0
LeaveTicket who i t [] = Unit {0}
LeaveTicket who i t (e ∷ es) = (e.who ≡ who → Leaves i t e.call) × LeaveTicket who i t es

-- .. nor any ticket of the step
abbrev pub LeaveStep : ℕ → Step → List Event → Type 0
LeaveStep who step es = (i t : ℕ) → HasTicket step i t → LeaveTicket who i t es

-- other appends that were underway are so still
abbrev pub LeavesOthers : (ℕ → Entry → Type 0) → ℕ → List Event → Chain → Going → List Event → Chain → Going → Type 0
LeavesOthers may who old c g new c' g' =
    (early : List Event) (other : Going) → IsGoing may who early old c other → AreApart g other
    → IsGoing may who early new c' other × AreApart g' other

-- it goes on as it did
abbrev pub StaysGoing : (ℕ → Entry → Type 0) → ℕ → List Event → Chain → Going → List Event → Chain → Going → Type 0
StaysGoing may who old c g new c' g' = (early : List Event) → IsGoing may who early old c g → IsGoing may who early new c' g'

-- no ticket of the step is left behind: it is the next step's, or it is open no more
abbrev pub LeavesNone : Step → List Event → Step → Type 0
LeavesNone before new after = (i t : ℕ) → HasTicket before i t → HasTicket after i t ⊎ (((state_of new).cells i).told.ops t ≡ None)

-- Turns.

-- the one own event since old is such
pub record OneTurn (who : ℕ) (old : List Event) (P : FabricCall → FabricAnswer → Type 0) (new : List Event) : Type 0 where
  pub others : List Event
  pub apart : AreOthers who others
  pub call : FabricCall
  pub answer : FabricAnswer
  pub is : P call answer
  pub seen : new ≡ (old ++ others) ++ record { who = who; call = call; answer = answer } ∷ []

-- The step that is due, where the known chain ends with loglet last: once that is behind a sealed one, the append is begun
-- on it.
abbrev pub due : ℕ → Step → Step
due last (Asking s) = if nat_lt s.id last then Starting else Asking s
due last (Closing s n) = if nat_lt s.id last then Starting else Closing s n
due last step = step

-- Each turn of an append that leaves it undecided, from the step that is due and the known chain, to those after it.
abbrev pub Moves : Entry → ℕ → Chain → Step → ℕ → Chain → Step → FabricCall → FabricAnswer → Type 0
Moves e v c Starting v' c' next (Begin i op) (fabric.Begun t) =
    (i ≡ (last_segment c).id) × (op ≡ Append e) × (next ≡ Appending (last_segment c) t) × (v' ≡ v) × (c' ≡ c)
Moves e v c (Appending s t) v' c' next (Carry i u word) fabric.Going =
    (i ≡ s.id) × (u ≡ t) × (next ≡ Appending s t) × (v' ≡ v) × (c' ≡ c)
Moves e v c (Appending s t) v' c' next (Carry i u word) (fabric.Done Sealed) =
    (i ≡ s.id) × (u ≡ t) × (next ≡ Reading s) × (v' ≡ v) × (c' ≡ c)
Moves e v c (Reading s) v' c' next ReadChain (fabric.At version chain) =
    (next ≡ Asking s) × (v' ≡ version) × (c' ≡ chain)
Moves e v c (Asking s) v' c' next (Begin i op) (fabric.Begun t) =
    (i ≡ s.id) × (op ≡ Tail) × (next ≡ Finding s t) × (v' ≡ v) × (c' ≡ c)
Moves e v c (Finding s t) v' c' next (Carry i u word) fabric.Going =
    (i ≡ s.id) × (u ≡ t) × (next ≡ Finding s t) × (v' ≡ v) × (c' ≡ c)
Moves e v c (Finding s t) v' c' next (Carry i u word) (fabric.Done (SealedTail n)) =
    (i ≡ s.id) × (u ≡ t) × (next ≡ Closing s n) × (v' ≡ v) × (c' ≡ c)
Moves e v c (Closing s n) v' c' next (WriteChain x asked) (fabric.Written version) =
    (x ≡ v) × (asked ≡ extended c n) × (next ≡ Reading s) × (v' ≡ v) × (c' ≡ c)
Moves e v c (Closing s n) v' c' next (WriteChain x asked) (fabric.Conflict version chain) =
    (x ≡ v) × (asked ≡ extended c n) × (next ≡ Closing s n) × (v' ≡ version) × (c' ≡ chain)
Moves e v c step v' c' next call answer = ⊥

-- the ticket is open no more
abbrev pub ClosesTicket : ℕ → ℕ → FabricCall → FabricAnswer → Type 0
ClosesTicket i t (Forget j u) fabric.Gone = (j ≡ i) × (u ≡ t)
ClosesTicket i t (Forget j u) fabric.NoTicket = (j ≡ i) × (u ≡ t)
ClosesTicket i t call answer = ⊥

-- One turn left the append undecided; before it a ticket was closed that want of memory had left.
abbrev pub LeavesOpen : ℕ → List Event → Entry → ℕ → Chain → Step → List Event → ℕ → Chain → Step → Type 0
LeavesOpen who old e v c (Dropping i t) new v' c' next =
    (mid : List Event) × OneTurn who old (ClosesTicket i t) mid × OneTurn who mid (Moves e v c Starting v' c' next) new
LeavesOpen who old e v c step new v' c' next = OneTurn who old (Moves e v c step v' c' next) new

-- the append's own carry was answered by the place of this position
abbrev pub Places : Step → ℕ → FabricCall → FabricAnswer → Type 0
Places (Appending s t) pos (Carry i u word) (fabric.Done (Placed p)) = (i ≡ s.id) × (u ≡ t) × (pos ≡ s.start + p)
Places step pos call answer = ⊥

-- what is left to do once it was asked that a ticket be closed
abbrev pub Forgets : ℕ → ℕ → FabricAnswer → Step → Type 0
Forgets i t fabric.Gone step = step ≡ Starting
Forgets i t fabric.NoTicket step = step ≡ Starting
Forgets i t fabric.Memory step = step ≡ Dropping i t
Forgets i t answer step = ⊥

-- What one turn comes to.
abbrev pub Outcome : (ℕ → Entry → Type 0) → ℕ → List Event → Known → Going → List Event → Known → Going → Result (Option ℕ) Fault → Type 0
Outcome may who old k g new k' g' (Ok None) =
    (k'.tail ≡ k.tail) × CalmSince who old new × LeavesOpen who old g.entry k.version k.chain g.step new k'.version k'.chain g'.step
    × StaysGoing may who old k.chain g new k'.chain g'
Outcome may who old k g new k' g' (Ok (Some pos)) =
    (k'.tail ≡ max k.tail (pos + 1)) × CalmSince who old new × OneTurn who old (Places g.step pos) new
    × Stands (state_of new) pos g.entry × Holds new pos g.entry
    × ((early : List Event) → IsGoing may who early old k.chain g → IsAbove who early pos new)
Outcome may who old k g new k' g' (Err Memory) =
    (k'.tail ≡ k.tail) × CalmSince who old new × StaysGoing may who old k.chain g new k'.chain g'
Outcome may who old k g new k' g' (Err fault) = (k'.tail ≡ k.tail) × HasCause who old fault new

-- what one turn owes, from what was seen, what is known of the log, and the append, to those after it
pub record Went (law : Law) (who : ℕ) (old : List Event) (k : Known) (g : Going) (new : List Event) (k' : Known) (g' : Going) (answer : Result (Option ℕ) Fault) : Type 0 where
  pub later : Later law old new
  pub goes_by : GoesBy (state_of new) k'.version k'.chain k'.tail
  pub unsealed : SealsNone who old new
  pub entry : g'.entry ≡ g.entry
  pub left : LeavesNone g.step new g'.step
  pub others : LeavesOthers law.may who old k.chain g new k'.chain g'
  pub outcome : Outcome law.may who old k g new k' g' answer
