-- What a file loglet keeps of its open operations.
use Rattle.std.specs.Prelude.{◌≡◌, ℕ, ◌+◌, ◌-◌, ◌<◌, ◌≤◌, nat_eq, nat_lt, if◌then◌else◌, min, true, false, Option, None, Some, unwrap_or, List, slice_get}
use Rattle.std.specs.HashMap.{HashMap, get, Updates, hash_map_len}
use Rattle.std.specs.Map.{lookup}
use Rattle.std.specs.declared.hash.FoldHasher.{FoldHasher}
use Rattle.std.specs.declared.hash.BuildHasherDefault.{BuildHasherDefault}
use Rattle.delos_types.specs.declared.entry.Entry.{Entry}
use Rattle.loglet_api.specs.declared.call.Answer.{Answer}
use Rattle.loglet_api.specs.declared.call.Answer.TheVariants.{Placed, Settled, OpenTail, SealedTail, SealDone, Got, CutAt, TrimDone, Sealed}
use Rattle.loglet_api.specs.declared.call.Task.{Task}
use Rattle.loglet_api.specs.declared.call.Task.TheVariants.{Placing, Settling, Finding, Sealing, Reading, Trimming}
use Rattle.loglet_api.specs.View.{Operation}
use Rattle.quorum_cell.specs.Servers.{Server, length_of, is_sealed}
use Rattle.file_loglet.specs.declared.pending.Pending.{Pending}
use Rattle.file_loglet.specs.declared.pending.Decided.{Decided}

-- the open operations, by ticket
abbrev pub PendingMap : Type 0
PendingMap = HashMap ℕ Pending (BuildHasherDefault FoldHasher)

-- one carry decides an operation
abbrev pub left_of : Option Answer → ℕ × ℕ
left_of None = (1, 0)
left_of (Some answer) = (0, 0)

-- the operation as the loglet shows it
abbrev pub operation_of : Pending → Operation
operation_of p =
    record { task = p.task; size = p.size; reach = p.reach; firm = p.firm; shut = p.shut; faults = p.faults; down = p.down; left = left_of p.answer }

abbrev pub shown : ℕ × Pending → ℕ × Operation
shown e = (e.0, operation_of e.1)

-- its answer as the loglet shows it, where it is decided
abbrev pub shown_answer : ℕ × Pending → ℕ × Option Answer
shown_answer e = (e.0, e.1.answer)

-- the answer that a ticket's operation has, where it is decided
abbrev pub answer_at : List (ℕ × Option Answer) → ℕ → Option Answer
answer_at answers t = unwrap_or (lookup (nat_eq t) answers) None

-- this ticket has this answer now, or none, and each other what it had
abbrev pub PutsAnswer : List (ℕ × Option Answer) → ℕ → Option Answer → List (ℕ × Option Answer) → Type 0
PutsAnswer old t answer new = (q : ℕ) → answer_at new q ≡ (if nat_eq t q then answer else answer_at old q)

-- What a server that is up answers an operation once it has done what was asked, where the log has these entries from the
-- cut on. An open tail is its very length, and a trim has let go of all below the cut.
abbrev pub Answers : List Entry → ℕ → Server → Operation → Task → Answer → Type 0
Answers log cut s o Placing (Placed q) = (is_sealed s ≡ false) × (q ≡ o.size) × (q < length_of s)
Answers log cut s o Placing Sealed = is_sealed s ≡ true
Answers log cut s o (Settling n) Settled = (is_sealed s ≡ false) × (min n o.size ≤ length_of s)
Answers log cut s o (Settling n) Sealed = is_sealed s ≡ true
Answers log cut s o Finding (OpenTail n) = (is_sealed s ≡ false) × (n ≡ length_of s)
Answers log cut s o Finding (SealedTail n) = (is_sealed s ≡ true) × (n ≡ length_of s)
Answers log cut s o Sealing SealDone = is_sealed s ≡ true
Answers log cut s o (Reading q) (Got e) = cut ≤ q → slice_get log (q - cut) ≡ Some e
Answers log cut s o (Trimming n) TrimDone = cut ≤ s.base
Answers log cut s o task answer = ⊥

-- a Read of a position of which no answer had spoken as it began
abbrev pub IsUnspoken : Task → ℕ → Type 0
IsUnspoken (Reading q) firm = firm ≤ q
IsUnspoken Placing firm = ⊥
IsUnspoken (Settling n) firm = ⊥
IsUnspoken Finding firm = ⊥
IsUnspoken Sealing firm = ⊥
IsUnspoken (Trimming n) firm = ⊥

-- what an operation is told where the cut is here: a position below it is trimmed
abbrev pub told_at : Task → ℕ → Answer → Answer
told_at (Reading q) cut answer = if nat_lt q cut then CutAt cut else answer
told_at task cut answer = answer

-- the operation of the ticket has this answer now
pub record SetsAnswer (old : PendingMap) (t : ℕ) (answer : Answer) (new : PendingMap) : Type 0 where
  pub answered : (p : Pending) → get nat_eq old t ≡ Some p → Updates nat_eq old new t (Some (record p { answer = Some answer }))
  pub as_many : hash_map_len new ≡ hash_map_len old

-- the operation of the ticket has no answer yet
abbrev pub Waits : PendingMap → ℕ → Type 0
Waits pending t = (p : Pending) → get nat_eq pending t ≡ Some p → p.answer ≡ None

-- the operation of the ticket is taken out, with its answer
pub record TakesOut (old : PendingMap) (t : ℕ) (decided : Decided) (new : PendingMap) : Type 0 where
  pub p : Pending
  pub was : get nat_eq old t ≡ Some p
  pub task : p.task ≡ decided.task
  pub size : p.size ≡ decided.size
  pub answer : p.answer ≡ Some decided.answer
  pub rest : Updates nat_eq old new t None
  pub fewer : hash_map_len new + 1 ≡ hash_map_len old
