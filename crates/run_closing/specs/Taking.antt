-- The nodes of a run, as the answers of their sessions are taken.
use Rattle.std.specs.Prelude.{◌≡◌, ℕ, ◌+◌, ◌<◌, ◌≤◌, List, length, slice_get, Option, Some}
use Rattle.delos_types.specs.declared.entry.Entry.{Entry}
use Rattle.legal_journal.specs.Law.{Law}
use Rattle.legal_journal.specs.declared.events.Event.{Event}
use Rattle.replica_api.specs.Replica.{Meaning}
use Rattle.virtual_log.specs.Holding.{Holds}
use Rattle.base_engine.specs.Reading.{IsFront}
use Rattle.script_text.specs.declared.asks.NamedLine.{NamedLine}
use Rattle.script_text.specs.declared.faults.FaultLine.{FaultLine}
use Rattle.turn_scopes.specs.Seats.{SeatView}
use Rattle.node_lines.specs.declared.desk.Desk.{Desk}
use Rattle.node_lines.specs.declared.lines.Looked.{Looked}
use Rattle.node_course.specs.Script.{AreLines}
use Rattle.node_course.specs.Moments.{NodeCourse}
use Rattle.node_course.specs.Joined.{AreJoined}
use Rattle.node_course.specs.Telling.{AreBehind}
use Rattle.node_course.specs.Workers.{Rests}
use Rattle.node_crew.specs.Crews.{AreOfPhases, SealsOfNodes}
use Rattle.run_ends.specs.Closing.{WorkerClosed}
use Rattle.run_closing.specs.Finishing.{SeesAll}

-- a node that rests behind the last line, and hasn't played the log further than `log`
pub record WaitsToTake (law : Law) (meaning : Meaning) (lines : List NamedLine) (home : ℕ → ℕ) (nodes : ℕ) (c : NodeCourse) (looks : List (Option Looked)) (log : List Entry) (n : ℕ) (seat : SeatView) (desks : List Desk) : Type 0 where
  pub rests : Rests law meaning lines home nodes c looks n (length lines) c.phase seat desks
  pub short : seat.node.replica.cursor ≤ length log

-- The node at index `node` has played most of the log, just `log`, which has so many entries as `cursor` says. The answers of
-- the first k nodes' sessions were taken there.
pub record CrewTakes {A : Type 0} (law : Law) (meaning : Meaning) (lines : List NamedLine) (faults : List FaultLine) (node cursor k : ℕ) (journal : List Event) (looks : List (Option Looked)) (seat : A → SeatView) (desks : A → List Desk) (workers : List A) : Type 0 where
  pub home : ℕ → ℕ
  pub run : NodeCourse
  pub courses : ℕ → NodeCourse
  pub seen_is : run.seen ≡ journal
  pub lines_are : AreLines lines home (length workers)
  pub joined : AreJoined law lines home (length workers) run looks courses
  pub over : (i : ℕ) (l : NamedLine) → slice_get lines i ≡ Some l → l.phase < run.phase
  pub made : AreOfPhases lines faults run.phase run.begins journal
  pub seals : SealsOfNodes (length workers) journal
  pub behind : AreBehind journal
  pub log : List Entry
  pub size : length log ≡ cursor
  pub front : IsFront Holds journal log
  pub sees : SeesAll journal seat workers cursor
  pub there : node < length workers
  pub most : (w : A) → slice_get workers node ≡ Some w → (seat w).node.replica.cursor ≡ cursor
  pub taken : (j : ℕ) (w : A) → j < k → slice_get workers j ≡ Some w → WorkerClosed law meaning lines home (length workers) (courses (j + 1)) looks log (j + 1) (record { seat = seat w; desks = desks w })
  pub waits : (j : ℕ) (w : A) → k ≤ j → slice_get workers j ≡ Some w → WaitsToTake law meaning lines home (length workers) (courses (j + 1)) looks log (j + 1) (seat w) (desks w)
