-- How an open operation begins, and goes on by one message.
use Rattle.std.specs.Prelude.{◌≡◌, ◌⊎◌, ℕ, ◌^◌, ◌<◌, ◌≤◌, Bool, true, false, List, length, count_by, get_or, set, Some, slice_get, map}
use Rattle.delos_types.specs.declared.entry.Entry.{Entry}
use Rattle.fate_words.specs.declared.fates.Fate.{Fate}
use Rattle.fate_words.specs.declared.fates.Fate.TheVariants.{Lose}
use Rattle.fate_words.specs.Words.{fate_of, pick_of}
use Rattle.loglet_api.specs.declared.call.Op.{Op}
use Rattle.quorum_cell.specs.declared.message.Ask.{Ask}
use Rattle.quorum_cell.specs.declared.message.Told.{Told}
use Rattle.quorum_cell.specs.declared.message.Told.TheVariants.{DiskFault}
use Rattle.quorum_cell.specs.Servers.{Server, length_of}
use Rattle.quorum_cell.specs.Cells.{no_server}
use Rattle.log_server.specs.View.{View}
use Rattle.log_server.specs.Answers.{Answers as ServerAnswers}
use Rattle.native_plan.specs.declared.member.Member.{Member}
use Rattle.native_plan.specs.declared.pending.Pending.{Pending}
use Rattle.native_plan.specs.declared.pending.Start.{Start}
use Rattle.native_plan.specs.declared.message.Errand.{Errand}
use Rattle.native_plan.specs.declared.message.Message.TheVariants.{Asked, Told as Answered}
use Rattle.native_plan.specs.declared.message.Phase.TheVariants.{Reading}
use Rattle.native_plan.specs.Members.{no_member, new_member, is_out, nth_out, due_of}
use Rattle.native_plan.specs.Pendings.{Answers, Hears, Loses, Begins}
use Rattle.native_ties.specs.Parts.{asked_by}
use Rattle.native_loglet.specs.Natives.{server_in, PendingList, look_in}

---- it begins

-- a server is known to have this length
abbrev pub Has : Server → Member → Type 0
Has s m = (at : ℕ) × (m ≡ new_member at) × (at ≤ length_of s)

-- the servers of the views, by number
abbrev pub server_at : List View → ℕ → Server
server_at vs i = get_or (map server_in vs) i no_server

pub record AreOf (vs : List View) (ms : List Member) : Type 0 where
  pub all : length ms ≡ length vs
  pub each : (i : ℕ) → i < length vs → Has (server_at vs i) (get_or ms i no_member)

pub record BeginsOn (vs : List View) (op : Op) (start : Start) (cut : ℕ) (p : Pending) : Type 0 where
  pub known : List Member
  pub are : AreOf vs known
  pub begins : Begins op start cut known p

---- it goes on

-- some message is on its way, and each may be asked, where these entries are kept from the cut on
pub record CanMove (entries : List Entry) (cut n : ℕ) (p : Pending) : Type 0 where
  pub members : length p.members.items ≡ n
  pub few : n ≤ 7
  pub some : 0 < count_by is_out p.members.items
  pub losses : (i : ℕ) → is_out (get_or p.members.items i no_member) ≡ true → (get_or p.members.items i no_member).losses < 8
  pub asks : (i : ℕ) (e : Errand) → (get_or p.members.items i no_member).message ≡ Some (Asked e) → (ask : Ask) × (asked_by entries cut (due_of cut e) ≡ Some ask)
  pub turns : (j : ℕ) → p.phase ≡ Reading j → j < 2 ^ 32

-- a message is lost by this fate and no other
abbrev pub LosesAs : Fate → Bool → Type 0
LosesAs Lose lost = lost ≡ true
LosesAs fate lost = lost ≡ false

-- a fault came just where the server's disk failed
abbrev pub FailsAs : Told → Bool → Type 0
FailsAs DiskFault failed = failed ≡ true
FailsAs told failed = failed ≡ false

-- a message to server i was lost
pub record MovesByLoss (cut i : ℕ) (old new : Pending) (before after : List View) (failed : Bool) : Type 0 where
  pub out : is_out (get_or old.members.items i no_member) ≡ true
  pub loses : Loses cut i old new
  pub servers : after ≡ before
  pub fault : failed ≡ true

-- a server answers the errand of an operation
pub record AnswersFor (entries : List Entry) (cut i : ℕ) (errand : Errand) (old new : Pending) (before after : View) (failed : Bool) : Type 0 where
  pub told : Told
  pub answers : Answers i errand told old new
  pub tells : (ask : Ask) → asked_by entries cut errand ≡ Some ask → ServerAnswers before ask told after
  pub fault : FailsAs told failed

-- a request came to server i; in place of an entry below the cut it lets go
pub record MovesByRequest (entries : List Entry) (cut i : ℕ) (old new : Pending) (before after : List View) (failed : Bool) : Type 0 where
  pub errand : Errand
  pub was : View
  pub is : View
  pub asked : (get_or old.members.items i no_member).message ≡ Some (Asked errand)
  pub there : slice_get before i ≡ Some was
  pub answers : AnswersFor entries cut i (due_of cut errand) old new was is failed
  pub servers : after ≡ set before i is

-- an answer of server i came
pub record MovesByAnswer (cut i : ℕ) (old new : Pending) (before after : List View) (failed : Bool) : Type 0 where
  pub errand : Errand
  pub told : Told
  pub was_told : (get_or old.members.items i no_member).message ≡ Some (Answered errand told)
  pub hears : Hears cut i errand told old new
  pub servers : after ≡ before
  pub fault : failed ≡ false

-- the server whose message the word picks, of those that have one on its way
abbrev pub picked_by : ℕ → Pending → ℕ
picked_by word p = nth_out (pick_of word (count_by is_out p.members.items)) p.members.items

-- by this fate it is lost, and by each other it comes
abbrev pub MovesBy : Fate → List Entry → ℕ → ℕ → Pending → Pending → List View → List View → Bool → Type 0
MovesBy Lose entries cut i old new before after failed = MovesByLoss cut i old new before after failed
MovesBy fate entries cut i old new before after failed = MovesByRequest entries cut i old new before after failed ⊎ MovesByAnswer cut i old new before after failed

-- the message that the word picks moves, and the word says its fate
pub record Moves (entries : List Entry) (cut word : ℕ) (old new : Pending) (before after : List View) (failed : Bool) : Type 0 where
  pub server : ℕ
  pub picked : server ≡ picked_by word old
  pub here : server < length old.members.items
  pub moves : MovesBy (fate_of word) entries cut server old new before after failed

-- the operation of the ticket goes on by the message that the word picks, and no other
pub record CarriesAt (entries : List Entry) (cut t word : ℕ) (p : Pending) (old new : PendingList) (before after : List View) (failed : Bool) : Type 0 where
  pub next : Pending
  pub moves : Moves entries cut word p next before after failed
  pub is : look_in new t ≡ Some next
  pub others : (q : ℕ) → (q ≡ t → ⊥) → look_in new q ≡ look_in old q
