-- What an open operation shows, and how it goes on.
use Rattle.std.specs.Prelude.{◌≡◌, ℕ, false, ◌==◌, List, get_or, set, Option, Some, None, is_some, sum_by}
use Rattle.delos_types.specs.declared.entry.Entry.{Entry}
use Rattle.quorum_cell.specs.declared.operation.Outcome.{Outcome}
use Rattle.native_plan.specs.declared.aims.Aims.{Aims}
use Rattle.native_plan.specs.declared.member.Member.{Member}
use Rattle.native_plan.specs.declared.pending.Pending.{Pending}
use Rattle.native_plan.specs.declared.pending.Start.{Start}
use Rattle.native_plan.specs.declared.message.Errand.{Errand}
use Rattle.native_plan.specs.declared.message.Message.TheVariants.{Told as Answered}
use Rattle.quorum_cell.specs.declared.message.Told.{Told}
use Rattle.loglet_api.specs.declared.call.Op.{Op}
use Rattle.loglet_api.specs.Step.{task_of}
use Rattle.native_plan.specs.declared.judge.Verdict.{Verdict}
use Rattle.native_plan.specs.declared.judge.Verdict.TheVariants.{Done, Go}
use Rattle.native_plan.specs.Members.{no_member, left_to, got_of, heard_by, tried}
use Rattle.native_plan.specs.Plans.{first_phase, place_of, end_of, rank_of, Resends, judged}

abbrev pub newer_of : Option Entry → Option Entry → Option Entry
newer_of None before = before
newer_of (Some x) before = Some x

abbrev pub aims_of : ℕ → Pending → Aims
aims_of cut p = record { phase = p.phase; want = p.want; cut = cut; place = place_of p.task; firm = p.firm }

-- what is left to do while it is undecided
abbrev pub plan_left : Pending → ℕ × ℕ
plan_left p = (rank_of p.phase, sum_by (left_to (end_of p.phase p.want)) p.members.items)

abbrev pub left_by : Option Outcome → ℕ × ℕ → ℕ × ℕ
left_by None left = left
left_by (Some a) left = (0, 0)

abbrev pub left_now : Pending → ℕ × ℕ
left_now p = left_by p.outcome (plan_left p)

abbrev pub verdict_of : ℕ → Pending → Verdict
verdict_of cut p = judged p.phase p.want cut p.firm (place_of p.task) (is_some p.got) p.members.items

-- it is decided, or goes on and sends what is to be sent
abbrev pub Settles : ℕ → Pending → Verdict → Pending → Type 0
Settles cut old (Done a) new = new ≡ record old { outcome = Some a }
Settles cut old (Go phase) new = (new ≡ record old { phase = phase; members = new.members }) × Resends phase cut old.want (place_of old.task) (rank_of phase == rank_of old.phase) old.members.items new.members.items

-- server i has answered
pub record Answers (i : ℕ) (e : Errand) (told : Told) (old new : Pending) : Type 0 where
  pub rest : new ≡ record old { members = new.members }
  pub members : new.members.items ≡ set old.members.items i (record (get_or old.members.items i no_member) { message = Some (Answered e told) })

-- the answer of server i is noted
pub record Notes (i : ℕ) (e : Errand) (told : Told) (old new : Pending) : Type 0 where
  pub rest : new ≡ record old { members = new.members; got = newer_of (got_of told) old.got }
  pub members : new.members.items ≡ set old.members.items i (heard_by old.want e told (get_or old.members.items i no_member))

-- its message is lost once more
pub record NotesLoss (i : ℕ) (old new : Pending) : Type 0 where
  pub rest : new ≡ record old { members = new.members }
  pub members : new.members.items ≡ set old.members.items i (tried (get_or old.members.items i no_member))

-- and then it comes to what it comes to
pub record Hears (cut i : ℕ) (e : Errand) (told : Told) (old new : Pending) : Type 0 where
  pub between : Pending
  pub notes : Notes i e told old between
  pub settles : Settles cut between (verdict_of cut between) new

pub record Loses (cut i : ℕ) (old new : Pending) : Type 0 where
  pub between : Pending
  pub notes : NotesLoss i old between
  pub settles : Settles cut between (verdict_of cut between) new

-- it begins
pub record Begins (op : Op) (start : Start) (cut : ℕ) (known : List Member) (p : Pending) : Type 0 where
  pub task : p.task ≡ task_of op
  pub size : p.size ≡ start.size
  pub reach : p.reach ≡ start.reach
  pub firm : p.firm ≡ start.firm
  pub shut : p.shut ≡ start.shut
  pub faults : p.faults ≡ start.faults
  pub down : p.down ≡ start.down
  pub want : p.want ≡ start.want
  pub phase : p.phase ≡ first_phase op
  pub got : p.got ≡ None
  pub outcome : p.outcome ≡ None
  pub members : Resends (first_phase op) cut start.want (place_of (task_of op)) false known p.members.items
