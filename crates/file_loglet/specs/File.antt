-- What a file loglet shows, and what holds of it.
use Rattle.std.specs.Prelude.{◌≡◌, ℕ, ◌+◌, ◌-◌, ◌^◌, ◌≤◌, ◌⊎◌, min, if◌then◌else◌, Bool, true, false, Option, Some, None, List, [], ◌∷◌, map, drop, slice_get, Result, Ok, Err}
use Rattle.delos_types.specs.declared.entry.Entry.{Entry}
use Rattle.disk_model.specs.Disk.{DiskView}
use Rattle.journal_core.specs.Journal.{LeavesRecords}
use Rattle.loglet_api.specs.declared.call.Answer.{Answer}
use Rattle.loglet_api.specs.declared.call.Answer.TheVariants.{Beyond, NoQuorum}
use Rattle.loglet_api.specs.declared.call.Kind.TheVariants.{File}
use Rattle.loglet_api.specs.declared.call.Refused.{Refused}
use Rattle.loglet_api.specs.declared.call.Refused.TheVariants.{Full}
use Rattle.loglet_api.specs.View.{LogletView, Operation, operation_at, IsDecided}
use Rattle.loglet_api.specs.Servers.{ServerState, ServersView}
use Rattle.loglet_api.specs.Step.{bumped}
use Rattle.quorum_cell.specs.Servers.{Server, length_of, is_sealed, restarted}
use Rattle.server_records.specs.Spelled.{server_of}
use Rattle.file_loglet.specs.declared.marks.Asked.{Asked}
use Rattle.file_loglet.specs.declared.marks.Marks.{Marks}
use Rattle.file_loglet.specs.Held.{Held}
use Rattle.file_loglet.specs.Pending.{PendingMap, IsUnspoken, shown, shown_answer, answer_at, PutsAnswer, Answers, told_at}
use Rattle.file_loglet.specs.Asking.{asks, Obeys}

-- the faults of a disk and the refusals, in a word of 64 bits that stands still at its end
abbrev pub counted : ℕ → ℕ → ℕ
counted faults refusals = min (faults + refusals) (2 ^ 64 - 1)

abbrev pub down_of : Bool → ℕ
down_of up = if up then 0 else 1

-- what every loglet shows
abbrev pub loglet_of : ℕ → List Entry → Held → Marks → PendingMap → LogletView
loglet_of room entries held marks pending = record {
  kind = File;
  servers = 1;
  quorum = 1;
  room = room;
  rounds = 1;
  limit = 2 ^ 62;
  cut = marks.cut;
  log = drop marks.cut entries;
  reach = marks.reach;
  cap = marks.cap;
  firm = marks.firm;
  shut = is_sealed held.server;
  operations = map shown pending.entries;
  faults = counted held.disk.faults marks.refusals;
  down = down_of held.server.up;
  begun = marks.begun;
  seals = marks.seals;
  lacks = marks.lacks;
}

-- A file loglet: what every loglet shows, what its open operations were answered, by ticket, its server, its disk, how many
-- operations it refused as full, and what was asked of its server.
pub record FileView : Type 0 where
  pub loglet : LogletView
  pub answers : List (ℕ × Option Answer)
  pub server : Server
  pub disk : DiskView
  pub refusals : ℕ
  pub asked : Asked

abbrev pub file_view : ℕ → List Entry → Held → Marks → PendingMap → FileView
file_view room entries held marks pending =
    record { loglet = loglet_of room entries held marks pending; answers = map shown_answer pending.entries; server = held.server; disk = held.disk; refusals = marks.refusals; asked = marks.asked }

abbrev pub held_in : FileView → Held
held_in v = record { server = v.server; disk = v.disk }

-- what is seen of the server, and of what was asked of it
abbrev pub state_in : Held → Asked → ServerState
state_in h asked = record {
  up = h.server.up;
  armed = if h.server.up then h.disk.armed else 0;
  word = h.disk.word;
  faults = h.disk.faults;
  stops = asked.stops;
  restarts = asked.restarts;
}

-- a server on a fresh disk: it is up, nothing is to stop or failed, and nothing was asked
abbrev pub new_state : ServerState
new_state = record { up = true; armed = 0; word = 0; faults = 0; stops = 0; restarts = 0 }

abbrev pub serving_of : FileView → ServersView
serving_of v = record { states = state_in (held_in v) v.asked ∷ []; told = v.asked.told; carries = v.asked.carries; strays = v.asked.strays }

-- What ties the parts of a file loglet together, at every moment.
pub record IsServed (v : FileView) : Type 0 where
  -- a crash leaves records that spell the server, with its torn write or without
  pub left : LeavesRecords v.disk (λ found. (kept : Bool) × (server_of found ≡ Some (restarted v.server kept v.server.torn)))
  -- the disk of a server that is up isn't stopped
  pub running : v.server.up ≡ true → v.disk.stopped ≡ false
  -- the loglet is shut where the server is sealed, and has it down where it is down
  pub shut : v.loglet.shut ≡ is_sealed v.server
  pub down : v.loglet.down ≡ down_of v.server.up
  pub faults : v.loglet.faults ≡ counted v.disk.faults v.refusals
  -- the server stores all that an answer spoke of, and lets go of nothing above the cut
  pub firm : v.loglet.firm ≤ length_of v.server
  pub base : v.server.base ≤ v.loglet.cut
  -- what it stores is the log
  pub entries : (p : ℕ) (e : Entry) → v.loglet.cut ≤ p → slice_get v.server.entries (p - v.server.base) ≡ Some e → slice_get v.loglet.log (p - v.loglet.cut) ≡ Some e

-- A carry decides its operation at once. Nothing failed; or the disk failed, which counts one fault, and the server that was up is down.
pub record IsDecidedAtOnce (old : LogletView) (t : ℕ) (new : LogletView) : Type 0 where
  pub operation : Operation
  pub is : operation_at new.operations t ≡ Some operation
  pub decided : IsDecided operation
  pub failed : ((new.faults ≡ old.faults) × (new.down ≡ old.down)) ⊎ ((old.down ≡ 0) × (new.down ≡ 1) × (new.faults ≡ bumped old.faults))

-- A carry answers its operation, and no other. A Read of a position of which no answer had spoken as it began needs no
-- server. Any other operation is out of reach where the server is down as the carry ends, and only there; else the answer
-- is that of the server, as it is then.
pub record IsAnswered (old : FileView) (t : ℕ) (new : FileView) : Type 0 where
  pub operation : Operation
  pub is : operation_at old.loglet.operations t ≡ Some operation
  pub answer : Answer
  pub was : answer_at old.answers t ≡ None
  pub puts : PutsAnswer old.answers t (Some answer) new.answers
  pub unspoken : IsUnspoken operation.task operation.firm → answer ≡ Beyond operation.firm
  pub down : ¬ IsUnspoken operation.task operation.firm → new.server.up ≡ false → answer ≡ NoQuorum 1
  pub up : ¬ IsUnspoken operation.task operation.firm → new.server.up ≡ true → Answers new.loglet.log new.loglet.cut new.server operation operation.task answer

-- A carry sends its operation's requests to the server, in turn, and nothing else. One that is down goes on by none, and a
-- Read of a position of which no answer had spoken sends none.
pub record IsCarried {U E : Type 0} (old : FileView) (t : ℕ) (result : Result U E) (new : FileView) : Type 0 where
  pub operation : Operation
  pub is : operation_at old.loglet.operations t ≡ Some operation
  pub idle : old.server.up ≡ false → held_in new ≡ held_in old
  pub unasked : IsUnspoken operation.task operation.firm → held_in new ≡ held_in old
  pub obeys : ¬ IsUnspoken operation.task operation.firm → old.server.up ≡ true → Obeys old.server (asks old.loglet.log old.loglet.cut old.server operation.size operation.task) result new.server

-- An answer that is taken is the one that was decided, unless the position of a Read is trimmed by now; the others stay.
pub record IsTaken (old : FileView) (t : ℕ) (answer : Answer) (new : FileView) : Type 0 where
  pub operation : Operation
  pub is : operation_at old.loglet.operations t ≡ Some operation
  pub decided : Answer
  pub was : answer_at old.answers t ≡ Some decided
  pub told : answer ≡ told_at operation.task old.loglet.cut decided
  pub puts : PutsAnswer old.answers t None new.answers

abbrev pub Takes : FileView → ℕ → Option Answer → FileView → Type 0
Takes old t None new = (answer_at old.answers t ≡ None) × (new.answers ≡ old.answers)
Takes old t (Some answer) new = IsTaken old t answer new

-- A begin counts a refusal as full, and that alone; it leaves the server and its disk, and answers nothing.
abbrev pub Counts : {U : Type 0} → FileView → Result U Refused → FileView → Type 0
Counts old (Ok u) new = (new ≡ record old { loglet = new.loglet; answers = new.answers }) × ((t : ℕ) → answer_at new.answers t ≡ answer_at old.answers t)
Counts old (Err Full) new = new ≡ record old { loglet = new.loglet; refusals = bumped old.refusals }
Counts old (Err refused) new = new ≡ old
