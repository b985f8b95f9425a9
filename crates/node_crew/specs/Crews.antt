-- All nodes of a run.
use Rattle.std.specs.Prelude.{◌≡◌, ◌⊎◌, ℕ, ◌+◌, ◌≤◌, true, List, ◌++◌, length, get_or, Contains, slice_get, Option, Some}
use Rattle.legal_journal.specs.Law.{Law}
use Rattle.legal_journal.specs.declared.events.Event.{Event}
use Rattle.legal_journal.specs.Sealing.{begins_seal}
use Rattle.replica_api.specs.Replica.{Meaning}
use Rattle.script_text.specs.declared.asks.NamedLine.{NamedLine}
use Rattle.script_text.specs.declared.faults.FaultLine.{FaultLine}
use Rattle.turn_scopes.specs.Seats.{SeatView, SeatOk}
use Rattle.node_lines.specs.declared.desk.Desk.{Desk}
use Rattle.node_lines.specs.declared.lines.Looked.{Looked}
use Rattle.node_course.specs.Script.{AreLines, BeginsAt}
use Rattle.node_course.specs.FaultLines.{IsOutside, HasPartIn}
use Rattle.node_course.specs.Moments.{NodeCourse}
use Rattle.node_course.specs.Telling.{AreBehind}
use Rattle.node_course.specs.Workers.{Rests}

-- each event since then is of number 0, or of a node with a part in the phase
pub record AreAtWork (lines : List NamedLine) (faults : List FaultLine) (phase : ℕ) (old new : List Event) : Type 0 where
  pub more : List Event
  pub seen : new ≡ old ++ more
  pub each : (e : Event) → Contains more e → IsOutside e ⊎ HasPartIn lines faults phase e.who

-- So it is of each phase with lines that has begun: `begins` are the journals as phases began; of a phase that hasn't, the present one is
-- meant.
abbrev pub AreOfPhases : List NamedLine → List FaultLine → ℕ → List (List Event) → List Event → Type 0
AreOfPhases lines faults phase begins journal = (i : ℕ) (l : NamedLine) → slice_get lines i ≡ Some l → l.phase ≤ phase → AreAtWork lines faults l.phase (get_or begins l.phase journal) (get_or begins (l.phase + 1) journal)

-- nobody but nodes began a Seal
abbrev pub SealsOfNodes : ℕ → List Event → Type 0
SealsOfNodes nodes journal = (e : Event) → Contains journal e → begins_seal e ≡ true → (1 ≤ e.who) × (e.who ≤ nodes)

-- A node has seen all of a run: it is in the present phase, its phases began as the run's did, and it knows each event.
pub record HasSeenAll (phase : ℕ) (begins : List (List Event)) (journal : List Event) (c : NodeCourse) : Type 0 where
  pub phase_is : c.phase ≡ phase
  pub begins_are : c.begins ≡ begins
  pub seen_is : c.seen ≡ journal

-- Between two phases: the lines of `phase` and of later ones begin at `from`. Each node has a course of its own, by its number, and
-- has seen all of the run. A worker is seen by its seat and its desks; the nodes are numbered from 1.
pub record CrewRests {A : Type 0} (law : Law) (meaning : Meaning) (lines : List NamedLine) (faults : List FaultLine) (from phase : ℕ) (journal : List Event) (looks : List (Option Looked)) (seat : A → SeatView) (desks : A → List Desk) (workers : List A) : Type 0 where
  pub home : ℕ → ℕ
  pub courses : ℕ → NodeCourse
  pub begins : List (List Event)
  pub lines_are : AreLines lines home (length workers)
  pub ends : BeginsAt lines from phase
  pub long : length begins ≡ phase + 1
  pub made : AreOfPhases lines faults phase begins journal
  pub seals : SealsOfNodes (length workers) journal
  pub behind : AreBehind journal
  pub seen : (n : ℕ) → 1 ≤ n → n ≤ length workers → HasSeenAll phase begins journal (courses n)
  pub each : (j : ℕ) (w : A) → slice_get workers j ≡ Some w → Rests law meaning lines home (length workers) (courses (j + 1)) looks (j + 1) from phase (seat w) (desks w)

-- each node can take the fabric with this journal
abbrev pub CrewStands : {A : Type 0} → Law → Meaning → List Event → (A → SeatView) → List A → Type 0
CrewStands {A} law meaning journal seat workers = (j : ℕ) (w : A) → slice_get workers j ≡ Some w → SeatOk law meaning journal (seat w)
