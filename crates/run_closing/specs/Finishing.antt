-- The nodes of a run, whose lines are all played, and how much of the log they have played.
use Rattle.std.specs.Prelude.{◌≡◌, ◌≢◌, ℕ, ◌+◌, ◌<◌, ◌≤◌, ◌⊎◌, Bool, true, false, List, [], length, slice_get, slice_set, Option, Some}
use Rattle.legal_journal.specs.Law.{Law}
use Rattle.legal_journal.specs.declared.events.Event.{Event}
use Rattle.legal_journal.specs.Journal.{state_of, tail_of}
use Rattle.journal_laws.specs.Faults.{faults_in}
use Rattle.engine_steps.specs.Layout.{has_left_in}
use Rattle.replica_api.specs.Replica.{Meaning}
use Rattle.script_text.specs.declared.asks.NamedLine.{NamedLine}
use Rattle.script_text.specs.declared.faults.FaultLine.{FaultLine}
use Rattle.turn_scopes.specs.Seats.{SeatView, node_of}
use Rattle.node_lines.specs.declared.desk.Desk.{Desk}
use Rattle.node_lines.specs.declared.lines.Looked.{Looked}
use Rattle.node_lines.specs.declared.lines.Looked.TheVariants as looked
use Rattle.node_lines.specs.Workers.{Grows}
use Rattle.node_course.specs.Played.{Came}
use Rattle.node_crew.specs.Crews.{CrewRests}
use Rattle.run_closing.specs.declared.last.Calls.{Calls}
use Rattle.run_closing.specs.declared.last.Calls.TheVariants.{OfMembers, OfAny}
use Rattle.run_closing.specs.declared.last.Reach.{Reach}
use Rattle.run_closing.specs.Ending.{Finishes, PlaysOut}

-- all lines were played, and each node rests
abbrev pub HasPlayed : {A : Type 0} → Law → Meaning → List NamedLine → List FaultLine → List Event → List (Option Looked) → (A → SeatView) → (A → List Desk) → List A → Type 0
HasPlayed {A} law meaning lines faults journal looks seat desks workers = (phase : ℕ) × CrewRests law meaning lines faults (length lines) phase journal looks seat desks workers

-- a line of node n came to its leaving
abbrev pub HasLeave : List NamedLine → List (Option Looked) → ℕ → Type 0
HasLeave lines looks n = (i : ℕ) × ((l : NamedLine) × Came lines looks n i l looked.Left)

-- no line of node n did
abbrev pub HasNoLeave : List NamedLine → List (Option Looked) → ℕ → Type 0
HasNoLeave lines looks n = (i : ℕ) (l : NamedLine) → Came lines looks n i l looked.Left → ⊥

-- whose last calls node n's are: any node's, as the last ones of all, or a member's, by what its lines came to
abbrev pub AreCalls : List NamedLine → List (Option Looked) → ℕ → Bool → Calls → Type 0
AreCalls lines looks n last (OfMembers left) = (last ≡ false) × (left ≡ true → HasLeave lines looks n) × (left ≡ false → HasNoLeave lines looks n)
AreCalls lines looks n last OfAny = last ≡ true

-- The node at index k was passed by, as it has left, or it has played so much of the log. The others are as they were.
pub record HasFinished {A : Type 0} (lines : List NamedLine) (looks : List (Option Looked)) (last : Bool) (journal journal' : List Event) (seat : A → SeatView) (old new : List A) (k : ℕ) (reach : Reach) : Type 0 where
  pub was : A
  pub was_at : slice_get old k ≡ Some was
  pub now : A
  pub is : new ≡ slice_set old k now
  pub at : (seat now).node.replica.cursor ≡ reach.cursor
  pub forward : (seat was).node.replica.cursor ≤ reach.cursor
  pub calls : Calls
  pub calls_are : AreCalls lines looks (k + 1) last calls
  pub does : Finishes calls (k + 1) reach.passed (node_of (seat was) journal) (node_of (seat now) journal')

-- the node at index j is as it was
pub record StaysAsItWas {A : Type 0} (seat : A → SeatView) (old : A) (new : List A) (j : ℕ) : Type 0 where
  pub now : A
  pub is : slice_get new j ≡ Some now
  pub same : node_of (seat now) [] ≡ node_of (seat old) []

-- node n had left, by a line of its own, or as its state tells
abbrev pub HasLeft : List NamedLine → List (Option Looked) → ℕ → SeatView → Type 0
HasLeft lines looks n s = HasLeave lines looks n ⊎ (has_left_in s.node.replica.contents n ≡ true)

-- all nodes had left
abbrev pub AllLeft : {A : Type 0} → List NamedLine → List (Option Looked) → (A → SeatView) → List A → Type 0
AllLeft {A} lines looks seat workers = (j : ℕ) (w : A) → slice_get workers j ≡ Some w → HasLeft lines looks (j + 1) (seat w)

-- each node that had left is as it was
abbrev pub PassesBy : {A : Type 0} → List NamedLine → List (Option Looked) → (A → SeatView) → List A → List A → Type 0
PassesBy {A} lines looks seat old new = (j : ℕ) (w : A) → slice_get old j ≡ Some w → HasLeft lines looks (j + 1) (seat w) → StaysAsItWas seat w new j

-- Of the first k nodes the one at index `node` has played most of the log, and so much of it. Before the first one it is the
-- first one, with nothing.
pub record HasMost {A : Type 0} (seat : A → SeatView) (workers : List A) (k node cursor : ℕ) : Type 0 where
  pub there : node < length workers
  pub start : k ≡ 0 → (node ≡ 0) × (cursor ≡ 0)
  pub low : 0 < k → node < k
  pub at : 0 < k → (w : A) → slice_get workers node ≡ Some w → (seat w).node.replica.cursor ≡ cursor
  pub most : (j : ℕ) (w : A) → j < k → slice_get workers j ≡ Some w → (seat w).node.replica.cursor ≤ cursor

-- .. but for the node at this index
abbrev pub PassesBut : {A : Type 0} → ℕ → List NamedLine → List (Option Looked) → (A → SeatView) → List A → List A → Type 0
PassesBut {A} node lines looks seat old new = (j : ℕ) (w : A) → j ≢ node → slice_get old j ≡ Some w → HasLeft lines looks (j + 1) (seat w) → StaysAsItWas seat w new j

-- at some moment a node opened its store again where it was down, and played the log to a tail, or the log or the disk failed
pub record HasPlayedOn (journal journal' : List Event) (old new : SeatView) : Type 0 where
  pub early : List Event
  pub late : List Event
  pub since : Grows journal early
  pub upto : Grows late journal'
  pub plays : PlaysOut (node_of old early) (node_of new late)

-- the node at index j played on
pub record PlaysAt {A : Type 0} (journal journal' : List Event) (seat : A → SeatView) (old : A) (new : List A) (j : ℕ) : Type 0 where
  pub now : A
  pub is : slice_get new j ≡ Some now
  pub plays : HasPlayedOn journal journal' (seat old) (seat now)

-- so each node did that hadn't left before
abbrev pub MembersPlay : {A : Type 0} → List NamedLine → List (Option Looked) → List Event → List Event → (A → SeatView) → List A → List A → Type 0
MembersPlay {A} lines looks journal journal' seat old new = (j : ℕ) (w : A) → slice_get old j ≡ Some w → (HasLeft lines looks (j + 1) (seat w) → ⊥) → PlaysAt journal journal' seat w new j

-- .. and so did the one at this index
abbrev pub PlaysLast : {A : Type 0} → ℕ → List Event → List Event → (A → SeatView) → List A → List A → Type 0
PlaysLast {A} node journal journal' seat old new = (w : A) → slice_get old node ≡ Some w → PlaysAt journal journal' seat w new node

-- no node has played more than the one at this index
abbrev pub IsMost : {A : Type 0} → (A → SeatView) → List A → ℕ → Type 0
IsMost {A} seat workers node = (v : A) → slice_get workers node ≡ Some v → (j : ℕ) (w : A) → slice_get workers j ≡ Some w → (seat w).node.replica.cursor ≤ (seat v).node.replica.cursor

-- the journal tells no fault, and no node's disk counted one
pub record HasNoFault {A : Type 0} (journal : List Event) (seat : A → SeatView) (workers : List A) : Type 0 where
  pub told : faults_in journal ≡ []
  pub disks : (j : ℕ) (w : A) → slice_get workers j ≡ Some w → (seat w).node.replica.faults ≡ 0

-- some node has applied the log as far as this
pub record HasReached {A : Type 0} (seat : A → SeatView) (workers : List A) (end : ℕ) : Type 0 where
  pub at : ℕ
  pub one : A
  pub is : slice_get workers at ≡ Some one
  pub upto : end ≤ (seat one).node.replica.cursor

-- where no fault came, some node has played the whole log
abbrev pub IsPlayedWhole : {A : Type 0} → List Event → (A → SeatView) → List A → Type 0
IsPlayedWhole journal seat workers = HasNoFault journal seat workers → HasReached seat workers (tail_of (state_of journal))

-- where no fault came, the log ends there
abbrev pub SeesAll : {A : Type 0} → List Event → (A → SeatView) → List A → ℕ → Type 0
SeesAll journal seat workers end = HasNoFault journal seat workers → tail_of (state_of journal) ≤ end
