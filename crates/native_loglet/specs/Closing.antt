-- How an operation is taken, and what it is answered.
use Rattle.std.specs.Prelude.{◌≡◌, ℕ, nat_lt, Bool, false, if◌then◌else◌, Option, None, Some, option_map}
use Rattle.native_loglet.specs.Natives.{UpdatesAt}
use Rattle.delos_types.specs.declared.entry.Entry.{Entry}
use Rattle.loglet_api.specs.declared.call.Answer.{Answer}
use Rattle.loglet_api.specs.declared.call.Answer.TheVariants.{Placed, Settled, OpenTail as TailOpen, SealedTail as TailSealed, SealDone, Got, CutAt, Beyond as PastFirm, TrimDone as Trimmed, Sealed, NoQuorum as Lacking}
use Rattle.loglet_api.specs.declared.call.Task.{Task}
use Rattle.loglet_api.specs.declared.call.Task.TheVariants.{Placing, Sealing, Reading}
use Rattle.quorum_cell.specs.declared.operation.Outcome.{Outcome}
use Rattle.quorum_cell.specs.declared.operation.Outcome.TheVariants.{Reached, OpenTail, SealedTail, Shut, Found, Gone, Beyond, TrimDone, NoQuorum}
use Rattle.native_plan.specs.declared.pending.Pending.{Pending}
use Rattle.native_loglet.specs.declared.closing.Decided.{Decided}
use Rattle.native_loglet.specs.Natives.{PendingList, look_in}

-- the operation of the ticket is taken out, with what it came to
pub record TakesOut (old : PendingList) (t : ℕ) (decided : Decided) (new : PendingList) : Type 0 where
  pub p : Pending
  pub was : look_in old t ≡ Some p
  pub task : p.task ≡ decided.task
  pub size : p.size ≡ decided.size
  pub firm : p.firm ≡ decided.firm
  pub got : p.got ≡ decided.got
  pub outcome : p.outcome ≡ Some decided.outcome
  pub rest : UpdatesAt old new t None

-- the operation of the ticket isn't decided
abbrev pub Waits : PendingList → ℕ → Type 0
Waits pending t = (p : Pending) → look_in pending t ≡ Some p → p.outcome ≡ None

abbrev pub placed_for : Task → ℕ → Answer
placed_for Placing size = Placed size
placed_for task size = Settled

abbrev pub sealed_for : Task → Answer
sealed_for Sealing = SealDone
sealed_for task = Sealed

abbrev pub answer_by : ℕ → Task → ℕ → ℕ → Option Entry → Outcome → Option Answer
answer_by cut task size firm got Reached = Some (placed_for task size)
answer_by cut task size firm got (OpenTail t) = Some (TailOpen t)
answer_by cut task size firm got (SealedTail t) = Some (TailSealed t)
answer_by cut task size firm got Shut = Some (sealed_for task)
answer_by cut task size firm got Found = option_map (λ e. Got e) got
answer_by cut task size firm got Gone = Some (CutAt cut)
answer_by cut task size firm got Beyond = Some (PastFirm firm)
answer_by cut task size firm got TrimDone = Some Trimmed
answer_by cut task size firm got (NoQuorum u) = Some (Lacking u)

-- whether it is a Read of a position that is trimmed
abbrev pub is_cut : Task → ℕ → Bool
is_cut (Reading q) cut = nat_lt q cut
is_cut task cut = false

abbrev pub answer_for : ℕ → Decided → Option Answer
answer_for cut d = if is_cut d.task cut then Some (CutAt cut) else answer_by cut d.task d.size d.firm d.got d.outcome
