-- The phases of a run.
use Rattle.std.specs.Prelude.{◌≡◌, ◌⊎◌, ℕ, ◌+◌, ◌<◌, ◌≤◌, List, ◌++◌, Contains, slice_get, Option, Some}
use Rattle.legal_journal.specs.Law.{Law}
use Rattle.legal_journal.specs.declared.events.Event.{Event}
use Rattle.replica_api.specs.Replica.{Meaning}
use Rattle.script_text.specs.declared.asks.NamedLine.{NamedLine}
use Rattle.script_text.specs.declared.faults.FaultLine.{FaultLine}
use Rattle.turn_scopes.specs.Seats.{SeatView}
use Rattle.node_lines.specs.declared.desk.Desk.{Desk}
use Rattle.node_lines.specs.declared.lines.Looked.{Looked}
use Rattle.node_course.specs.Script.{BeginsAt}
use Rattle.node_course.specs.FaultLines.{HasPartIn, IsOutside}
use Rattle.node_crew.specs.Crews.{CrewRests}

-- the lines from `from` up to `to` aren't of a later phase, and the next one is
pub record EndsPhase (lines : List NamedLine) (from to phase : ℕ) : Type 0 where
  pub inside : (i : ℕ) (l : NamedLine) → from ≤ i → i < to → slice_get lines i ≡ Some l → l.phase ≤ phase
  pub next : (l : NamedLine) → slice_get lines to ≡ Some l → phase < l.phase

-- the fault lines from `next` up to `until` aren't of a later phase, and the next one is
pub record EndsFaults (faults : List FaultLine) (next until phase : ℕ) : Type 0 where
  pub inside : (i : ℕ) (f : FaultLine) → next ≤ i → i < until → slice_get faults i ≡ Some f → f.phase ≤ phase
  pub behind : (f : FaultLine) → slice_get faults until ≡ Some f → phase < f.phase

-- The phase is that of the line at `from` or of the fault line at `next`, of whichever comes first.
pub record IsNextPhase (lines : List NamedLine) (from : ℕ) (faults : List FaultLine) (next phase : ℕ) : Type 0 where
  pub line : (l : NamedLine) → slice_get lines from ≡ Some l → phase ≤ l.phase
  pub fault : (f : FaultLine) → slice_get faults next ≡ Some f → phase ≤ f.phase
  pub one : ((l : NamedLine) × (slice_get lines from ≡ Some l) × (l.phase ≡ phase)) ⊎ ((f : FaultLine) × (slice_get faults next ≡ Some f) × (f.phase ≡ phase))

-- All nodes rest before a phase, whose lines are those from `from` up to `to`.
pub record BeginsPhase {A : Type 0} (law : Law) (meaning : Meaning) (lines : List NamedLine) (faults : List FaultLine) (phase from to : ℕ) (journal : List Event) (looks : List (Option Looked)) (seat : A → SeatView) (desks : A → List Desk) (workers : List A) : Type 0 where
  pub ends : BeginsAt lines to (phase + 1)
  pub rests : CrewRests law meaning lines faults from phase journal looks seat desks workers

-- the journal goes on, and each later event is of number 0, which is no node, or of one of the nodes, which has a part in the phase
pub record WentOn (lines : List NamedLine) (faults : List FaultLine) (phase nodes : ℕ) (begins journal : List Event) : Type 0 where
  pub later : List Event
  pub is : journal ≡ begins ++ later
  pub each : (e : Event) → Contains later e → IsOutside e ⊎ ((1 ≤ e.who) × (e.who ≤ nodes) × HasPartIn lines faults phase e.who)
