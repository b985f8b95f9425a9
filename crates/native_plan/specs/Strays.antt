-- What an operation learns from an answer that comes again, or that it didn't wait for.
use Rattle.std.specs.Prelude.{◌≡◌, ℕ, Bool, true, false, not, ◌&&◌, ◌||◌, ◌==◌, nat_le, if◌then◌else◌, get_or, set, Option, Some, None}
use Rattle.delos_types.specs.declared.entry.Entry.{Entry}
use Rattle.quorum_cell.specs.declared.message.Ask.{Ask}
use Rattle.quorum_cell.specs.declared.message.Ask.TheVariants as ask
use Rattle.native_plan.specs.declared.message.Errand.{Errand}
use Rattle.native_plan.specs.declared.message.Errand.TheVariants.{Store, Seal, Tail, Repair, Read, Trim}
use Rattle.quorum_cell.specs.declared.message.Told.{Told}
use Rattle.quorum_cell.specs.declared.message.Told.TheVariants as told
use Rattle.native_plan.specs.declared.member.Member.{Member}
use Rattle.native_plan.specs.declared.message.Phase.{Phase}
use Rattle.native_plan.specs.declared.message.Phase.TheVariants.{Filling, Asking, Opening, Mending, Reading, Trimming}
use Rattle.native_plan.specs.declared.pending.Pending.{Pending}
use Rattle.native_plan.specs.declared.stray.News.{News}
use Rattle.native_plan.specs.declared.stray.News.TheVariants.{Failed, Sealed, Opened, Mended, LetGo, Missed, Nothing}
use Rattle.native_plan.specs.Members.{no_member, is_found_sealed}
use Rattle.native_plan.specs.Plans.{is_done, place_of}
use Rattle.native_plan.specs.Pendings.{newer_of, verdict_of, Settles}

---- what an answer tells

-- what a server is asked, without the entry and the position of a trim
abbrev pub errand_in : Ask → Errand
errand_in (ask.Store p e) = Store p
errand_in ask.Seal = Seal
errand_in ask.Tail = Tail
errand_in (ask.Repair p e) = Repair p
errand_in (ask.Read p) = Read p
errand_in (ask.Trim n) = Trim

-- a server that took an entry and is this long
abbrev pub taken_news : Errand → ℕ → News
taken_news (Store p) n = Opened n
taken_news (Repair p) n = Mended n
taken_news e n = Nothing

abbrev pub is_read_at : ℕ → Errand → Bool
is_read_at place (Read p) = place == p
is_read_at place e = false

-- an answer to this, where a Read wants the entry at this place
abbrev pub news_of : ℕ → Errand → Told → News
news_of place e told.Down = Failed
news_of place e told.DiskFault = Failed
news_of place e (told.Sealed n) = Sealed n
news_of place e (told.Unsealed n) = Opened n
news_of place e (told.Ack n) = taken_news e n
news_of place e (told.Trimmed n) = LetGo n
news_of place e (told.Short n) = if is_read_at place e then Missed else Nothing
news_of place e z = Nothing

-- the entry that it gives to such a Read
abbrev pub given_to : ℕ → Errand → Told → Option Entry
given_to place e (told.Got x) = if is_read_at place e then Some x else None
given_to place e z = None

abbrev pub entry_of : Phase → ℕ → Errand → Told → Option Entry
entry_of (Reading j) place e z = given_to place e z
entry_of phase place e z = None

---- what counts of it

-- news that an operation in this phase counts
abbrev pub bears : Phase → News → Bool
bears phase Failed = true
bears (Reading j) (Sealed n) = false
bears Trimming (Sealed n) = false
bears phase (Sealed n) = true
bears Filling (Opened n) = true
bears Asking (Opened n) = true
bears (Opening t) (Opened n) = true
bears (Mending t) (Mended n) = true
bears Trimming (LetGo n) = true
bears (Reading j) Missed = true
bears phase news = false

-- a Read asks the servers in turn, and has asked those up to this one
abbrev pub is_asked : Phase → ℕ → Bool
is_asked (Reading j) i = nat_le i j
is_asked phase i = true

-- what is known of a server only grows: a shorter length than is known tells nothing, nor does that a server was open which is sealed
abbrev pub learned : ℕ → News → Member → Member
learned want Failed m = record m { unreached = true }
learned want (Sealed n) m = if nat_le m.at n then record m { sealed = Some n; at = n } else m
learned want (Opened n) m = if not (is_found_sealed m) && nat_le m.at n then record m { opened = Some n; at = n } else m
learned want (Mended n) m = if is_found_sealed m && nat_le m.at n then record m { at = n } else m
learned want (LetGo n) m = record m { passed = m.passed || nat_le want n }
learned want Missed m = record m { passed = true }
learned want Nothing m = m

abbrev pub learned_in : Phase → ℕ → News → Member → Member
learned_in phase want news m = if bears phase news then learned want news m else m

-- the message on its way to or from server i is wanted still, and says what it said: no more is known of how long the server is, and whether it is sealed
abbrev pub is_due : Phase → ℕ → ℕ → Member → Member → Bool
is_due phase want i old new = not (is_done phase want i new) && ((new.at == old.at) && (is_found_sealed old || not (is_found_sealed new)))

-- another message is given up for what is known now
abbrev pub heard_anew : Phase → ℕ → ℕ → News → Member → Member
heard_anew phase want i news m = let now = learned_in phase want news m in if is_due phase want i m now then now else record now { message = None }

---- the operation

-- an answer of server i to this is noted
pub record NotesAgain (i : ℕ) (e : Errand) (z : Told) (old new : Pending) : Type 0 where
  pub rest : new ≡ record old { members = new.members; got = newer_of (entry_of old.phase (place_of old.task) e z) old.got }
  pub members : new.members.items ≡ set old.members.items i (heard_anew old.phase old.want i (news_of (place_of old.task) e z) (get_or old.members.items i no_member))

-- and then it comes to what it comes to
pub record HearsNews (cut i : ℕ) (e : Errand) (z : Told) (old new : Pending) : Type 0 where
  pub between : Pending
  pub notes : NotesAgain i e z old between
  pub settles : Settles cut between (verdict_of cut between) new

abbrev pub HearsIf : Bool → ℕ → ℕ → Errand → Told → Pending → Pending → Type 0
HearsIf true cut i e z old new = HearsNews cut i e z old new
HearsIf false cut i e z old new = new ≡ old

-- an answer of server i to this comes, whatever the operation waits for
abbrev pub HearsAgain : ℕ → ℕ → Errand → Told → Pending → Pending → Type 0
HearsAgain cut i e z old new = HearsIf (is_asked old.phase i) cut i e z old new
