-- A node's turn in a phase.
use Rattle.std.specs.Prelude.{◌≡◌, ◌⊎◌, ℕ, ◌+◌, ◌<◌, ◌≤◌, ◌==◌, false, List, slice_get, Option, Some}
use Rattle.delos_types.specs.declared.entry.Entry.{Entry}
use Rattle.legal_journal.specs.Law.{Law}
use Rattle.legal_journal.specs.declared.events.Event.{Event}
use Rattle.replica_api.specs.Replica.{Meaning}
use Rattle.script_text.specs.declared.asks.NamedLine.{NamedLine}
use Rattle.script_text.specs.declared.faults.FaultLine.{FaultLine}
use Rattle.turn_scopes.specs.Seats.{SeatView, node_of}
use Rattle.node_lines.specs.declared.desk.Desk.{Desk}
use Rattle.node_lines.specs.declared.lines.Looked.{Looked}
use Rattle.node_lines.specs.Turns.{AllAnswered}
use Rattle.node_lines.specs.Workers.{IsKept}
use Rattle.node_course.specs.Script.{AreLines, BeginsAt}
use Rattle.node_course.specs.FaultLines.{HasPartIn}
use Rattle.node_course.specs.Moments.{NodeCourse}
use Rattle.node_course.specs.Workers.{CanSend, NodeAt}

-- each node may append what its lines log
abbrev pub MaySendAll : (ℕ → Entry → Type 0) → List NamedLine → Type 0
MaySendAll may lines = (i : ℕ) (l : NamedLine) → slice_get lines i ≡ Some l → CanSend may l.node l.asks

-- none of the lines from `from` up to `to` is node n's
abbrev pub HasNone : List NamedLine → ℕ → ℕ → ℕ → Type 0
HasNone lines from to n = (i : ℕ) (l : NamedLine) → from ≤ i → i < to → slice_get lines i ≡ Some l → (l.node == n) ≡ false

-- a line from `from` up to `to` is node n's
pub record HasOne (lines : List NamedLine) (from to n : ℕ) : Type 0 where
  pub at : ℕ
  pub line : NamedLine
  pub is : slice_get lines at ≡ Some line
  pub behind : from ≤ at
  pub within : at < to
  pub node : line.node ≡ n

-- It is the turn of node n, whose lines up to `at` were played, by its own course; those of the present phase begin at `from`.
pub record IsUnderWay (law : Law) (meaning : Meaning) (lines : List NamedLine) (home : ℕ → ℕ) (nodes : ℕ) (c : NodeCourse) (looks : List (Option Looked)) (n from at : ℕ) (journal : List Event) (seat : SeatView) (desks : List Desk) : Type 0 where
  pub seen_is : c.seen ≡ journal
  pub lines_are : AreLines lines home nodes
  pub begins : BeginsAt lines from c.phase
  pub node : NodeAt law meaning lines home nodes c looks n from at c.phase seat desks

-- It is the turn of node n in a phase, whose lines are those from `from` up to `to`. None of them was played, and one is the node's, or a
-- stop of the phase is.
pub record IsPlaying (law : Law) (meaning : Meaning) (lines : List NamedLine) (faults : List FaultLine) (looks : List (Option Looked)) (n from to : ℕ) (journal : List Event) (seat : SeatView) (desks : List Desk) : Type 0 where
  pub home : ℕ → ℕ
  pub nodes : ℕ
  pub course : NodeCourse
  pub ends : BeginsAt lines to (course.phase + 1)
  pub one : HasPartIn lines faults course.phase n
  pub now : IsUnderWay law meaning lines home nodes course looks n from from journal seat desks

-- The phase can end at the node: the log is kept from where it is, or the answers of all its sessions were taken.
abbrev pub CanEnd : (ℕ → ℕ → Type 0) → (List Entry → ℕ → Type 0) → List Event → SeatView → List Desk → Type 0
CanEnd beside floor journal seat desks = IsKept beside floor seat journal ⊎ AllAnswered (node_of seat journal) desks
