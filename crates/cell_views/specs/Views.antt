-- What clients see of a cell, in the terms of every loglet.
use Rattle.std.specs.Prelude.{◌≡◌, ℕ, suc, ◌+◌, ◌-◌, ◌*◌, ◌^◌, ◌<◌, ◌≤◌, min, true, false, not, ◌&&◌, nat_lt, if◌then◌else◌, List, [], ◌∷◌, ◌++◌, length, drop, slice_get, option_map, Option, Some, None, ⊤}
use Rattle.delos_types.specs.declared.entry.Entry.{Entry}
use Rattle.delos_types.specs.Spelling.{IsSpellable}
use Rattle.loglet_api.specs.declared.call.Kind.{Kind}
use Rattle.loglet_api.specs.declared.call.Op.{Op}
use Rattle.loglet_api.specs.declared.call.Op.TheVariants.{Append, Settle, Tail, Seal, Read, Trim}
use Rattle.loglet_api.specs.declared.call.Answer.{Answer}
use Rattle.loglet_api.specs.declared.call.Answer.TheVariants.{Placed, Settled, OpenTail as TailOpen, SealedTail as TailSealed, SealDone, Got, CutAt, Beyond as PastFirm, TrimDone as Trimmed, Sealed, NoQuorum as Lacking}
use Rattle.loglet_api.specs.declared.call.Refused.TheVariants.{Full}
use Rattle.loglet_api.specs.declared.call.LogletCall.{LogletCall}
use Rattle.loglet_api.specs.declared.call.LogletCall.TheVariants.{Begin as CallBegin, Take as CallTake, Forget as CallForget, Stray as CallStray, Restart as CallRestart}
use Rattle.loglet_api.specs.declared.call.LogletAnswer.{LogletAnswer}
use Rattle.loglet_api.specs.declared.call.LogletAnswer.TheVariants.{Begun, Refusal, Taken, Forgotten, Strayed, Restarted}
use Rattle.loglet_api.specs.Step.{task_of, IsAtMost}
use Rattle.loglet_api.specs.View.{LogletView, Operation as OpenOperation}
use Rattle.quorum_cell.specs.declared.operation.Aim.{Aim}
use Rattle.quorum_cell.specs.declared.operation.Aim.TheVariants.{Append as AimAppend, Settle as AimSettle, Tail as AimTail, Seal as AimSeal, Read as AimRead, Trim as AimTrim}
use Rattle.quorum_cell.specs.declared.operation.Outcome.{Outcome}
use Rattle.quorum_cell.specs.declared.operation.Outcome.TheVariants.{Reached, OpenTail, SealedTail, Shut, Found, Gone, Beyond, TrimDone, NoQuorum}
use Rattle.quorum_cell.specs.declared.operation.CellStep.{CellStep}
use Rattle.quorum_cell.specs.declared.operation.CellStep.TheVariants.{Begin, Take, Forget, Restart, RestartFails}
use Rattle.majority_rule.specs.Majority.{majority, is_majority, votes_below}
use Rattle.quorum_cell.specs.Servers.{is_sealed}
use Rattle.quorum_cell.specs.Cells.{Cell, Operation, server, operation, server_before, is_shut, down, seals, lacks}
use Rattle.quorum_cell.specs.Tallies.{entry_heard}
use Rattle.quorum_cell.specs.Steps.{cell_step, is_full, given_outcome}

-- what a loglet tells that its cell does not know: its kind, its rounds, and how much is left to do of each operation that is undecided
pub record Manner : Type 0 where
  pub kind : Kind
  pub rounds : ℕ
  pub left : ℕ → ℕ × ℕ

-- something is left to do of each operation, within the bounds for n servers
pub record IsManner (n : ℕ) (m : Manner) : Type 0 where
  pub rounds : m.rounds < 2 ^ 32
  pub undecided : (t : ℕ) → 0 < (m.left t).0 + (m.left t).1
  pub first : (t : ℕ) → (m.left t).0 ≤ m.rounds
  pub second : (t : ℕ) → (m.left t).1 < 2 ^ 53 * n

-- a count in a word of 64 bits, which stands still at its end
abbrev pub counted : ℕ → ℕ
counted n = min n (2 ^ 64 - 1)

abbrev pub op_of : Aim → Op
op_of (AimAppend e) = Append e
op_of (AimSettle n) = Settle n
op_of AimTail = Tail
op_of AimSeal = Seal
op_of (AimRead p) = Read p
op_of (AimTrim n) = Trim n

abbrev pub left_of : Option Outcome → ℕ × ℕ → ℕ × ℕ
left_of None left = left
left_of (Some a) left = (0, 0)

abbrev pub operation_view : ℕ → Operation → ℕ × ℕ → OpenOperation
operation_view n o left = record {
  task = task_of (op_of o.aim);
  size = o.size_before;
  reach = o.reach_before;
  firm = o.firm_before;
  shut = is_majority n (λ i. is_sealed (server_before o i));
  faults = counted o.faults_before;
  down = votes_below n (λ i. not (server_before o i).up);
  left = left_of o.decided left;
}

-- the open ones of the operations whose first has ticket t
abbrev pub open_from : ℕ → (ℕ → ℕ × ℕ) → ℕ → List Operation → List (ℕ × OpenOperation)
open_from n left t [] = []
open_from n left t (o ∷ os) = if o.closed then open_from n left (suc t) os else (t, operation_view n o (left t)) ∷ open_from n left (suc t) os

abbrev pub cell_view : Manner → Cell → LogletView
cell_view m c = record {
  kind = m.kind;
  servers = length c.servers;
  quorum = majority (length c.servers);
  room = c.room;
  rounds = m.rounds;
  limit = c.limit;
  cut = c.cut;
  log = drop c.cut c.entries;
  reach = c.reach;
  cap = c.cap;
  firm = c.firm;
  shut = is_shut c;
  operations = open_from (length c.servers) m.left 0 c.operations;
  faults = counted (length c.faults);
  down = down c;
  begun = length c.operations;
  seals = seals c;
  lacks = lacks c;
}

-- what the client of an operation that came to this is told
abbrev pub answer_of : ℕ → Operation → Aim → Outcome → Option Answer
answer_of cut o (AimAppend e) Reached = Some (Placed o.size_before)
answer_of cut o aim Reached = Some Settled
answer_of cut o aim (OpenTail t) = Some (TailOpen t)
answer_of cut o aim (SealedTail t) = Some (TailSealed t)
answer_of cut o AimSeal Shut = Some SealDone
answer_of cut o aim Shut = Some Sealed
answer_of cut o (AimRead p) Found = option_map (λ e. Got e) (entry_heard p o.heard)
answer_of cut o aim Found = None
answer_of cut o aim Gone = Some (CutAt cut)
answer_of cut o aim Beyond = Some (PastFirm o.firm_before)
answer_of cut o aim TrimDone = Some Trimmed
answer_of cut o aim (NoQuorum u) = Some (Lacking u)

-- and while it is undecided nothing
abbrev pub taken : ℕ → Operation → Option Outcome → Option Answer
taken cut o None = None
taken cut o (Some a) = answer_of cut o o.aim (given_outcome cut o.aim a)

-- the call of a loglet that a step of its cell is, with its answer; a step that is not possible may be none
abbrev pub calls : Cell → CellStep → List (LogletCall × LogletAnswer)
calls c (Begin aim) = (CallBegin (op_of aim), if is_full c aim then Refusal Full else Begun (length c.operations)) ∷ []
calls c (Take t) = if (operation c t).closed then [] else (CallTake t, Taken (taken c.cut (operation c t) (operation c t).decided)) ∷ []
calls c (Forget t) = if (operation c t).closed then [] else (CallForget t, Forgotten) ∷ []
calls c (Restart i kept) = if nat_lt i (length c.servers) then (CallRestart i 0, Restarted true) ∷ [] else []
calls c (RestartFails i) = if nat_lt i (length c.servers) && not (server c i).up then (CallRestart i 0, Restarted false) ∷ [] else []
-- what servers do, what messages do and what operations decide is nobody's call: a stray's, if any
calls c _ = (CallStray 0, Strayed) ∷ []

-- of each step of a list
abbrev pub calls_of : List CellStep → Cell → List (LogletCall × LogletAnswer)
calls_of [] c = []
calls_of (step ∷ steps) c = calls c step ++ calls_of steps (cell_step c step)

-- some bytes spell each entry of the cell
abbrev pub IsSpelled : Cell → Type 0
IsSpelled c = (i : ℕ) (e : Entry) → slice_get c.entries i ≡ Some e → IsSpellable e

-- some bytes spell the entry that the step brings
abbrev pub BringsSpelled : CellStep → Type 0
BringsSpelled (Begin (AimAppend e)) = IsSpellable e
BringsSpelled _ = ⊤

-- no more is left of each than was
abbrev pub IsNearer : (ℕ → ℕ × ℕ) → (ℕ → ℕ × ℕ) → Type 0
IsNearer left next = (t : ℕ) → IsAtMost (next t) (left t)

-- steps that are nobody's call
abbrev pub IsStray : CellStep → Type 0
IsStray (Begin aim) = ⊥
IsStray (Take t) = ⊥
IsStray (Forget t) = ⊥
IsStray _ = Unit {0}
