-- A node's part in a phase, whose lines are those from `from` up to `to`.
use Rattle.std.specs.Prelude.{◌≡◌, ◌⊎◌, ℕ, ◌+◌, Bool, true, List, Option}
use Rattle.legal_journal.specs.Law.{Law}
use Rattle.legal_journal.specs.declared.events.Event.{Event}
use Rattle.legal_journal.specs.FaultCalls.{MakesNone}
use Rattle.replica_api.specs.Replica.{Meaning}
use Rattle.script_text.specs.declared.asks.NamedLine.{NamedLine}
use Rattle.script_text.specs.declared.faults.FaultLine.{FaultLine}
use Rattle.turn_scopes.specs.Floors.{FloorIs}
use Rattle.turn_scopes.specs.Seats.{SeatView, SeatOk}
use Rattle.node_lines.specs.declared.desk.Desk.{Desk}
use Rattle.node_lines.specs.declared.lines.Looked.{Looked}
use Rattle.node_lines.specs.Workers.{Grows}
use Rattle.node_course.specs.Script.{AreLines, BeginsAt}
use Rattle.node_course.specs.FaultLines.{AreFaultLines, ArmedBy, HasPartIn, stops_in}
use Rattle.node_course.specs.Moments.{NodeCourse}
use Rattle.node_course.specs.Workers.{HasRested, Rests}
use Rattle.node_crew.specs.declared.note.Note.{Note}
use Rattle.node_crew.specs.Notes.{AreNotesOf, noted}

-- Node n rests before the phase, by a course of its own, and has seen this journal.
pub record CanTakePart (law : Law) (meaning : Meaning) (lines : List NamedLine) (faults : List FaultLine) (phase from to n : ℕ) (journal : List Event) (seat : SeatView) (desks : List Desk) : Type 0 where
  pub home : ℕ → ℕ
  pub nodes : ℕ
  pub course : NodeCourse
  pub looks : List (Option Looked)
  pub floor : FloorIs law.floor nodes
  pub lines_are : AreLines lines home nodes
  pub faults_are : AreFaultLines lines faults law.shelf nodes
  pub phase_is : course.phase ≡ phase
  pub starts : BeginsAt lines from course.phase
  pub ends : BeginsAt lines to (course.phase + 1)
  pub seen_is : course.seen ≡ journal
  pub rests : Rests law meaning lines home nodes course looks n from course.phase seat desks

-- Whatever course it rested by, it went on to where the node rests behind the phase; what its lines came to is noted.
abbrev pub PartGoes : Law → Meaning → List NamedLine → ℕ → ℕ → ℕ → List Event → SeatView → List Desk → List Event → SeatView → List Desk → List Note → Type 0
PartGoes law meaning lines from to n journal seat desks journal' seat' desks' notes =
    (home : ℕ → ℕ) (nodes : ℕ) (c : NodeCourse) (looks : List (Option Looked)) → AreLines lines home nodes → BeginsAt lines from c.phase → BeginsAt lines to (c.phase + 1) → c.seen ≡ journal
    → Rests law meaning lines home nodes c looks n from c.phase seat desks
    → HasRested law meaning lines home nodes c (noted looks notes) n to (c.phase + 1) journal' seat' desks'

-- Node n took its part. It had events only if it has a line in the phase, or a stop, and broke or mended nothing. Where memory sufficed, its course
-- went on, and the phase's stops of it, and nothing else, armed its disk.
pub record TookPart (law : Law) (meaning : Meaning) (lines : List NamedLine) (faults : List FaultLine) (phase from to n : ℕ) (journal : List Event) (seat : SeatView) (desks : List Desk) (journal' : List Event) (seat' : SeatView) (desks' : List Desk) (notes : List Note) (sufficed : Bool) : Type 0 where
  pub who_is : seat'.who ≡ n
  pub stands : SeatOk law meaning journal' seat'
  pub grows : Grows journal journal'
  pub quiet : MakesNone n journal journal'
  pub own : AreNotesOf lines n notes
  pub works : HasPartIn lines faults phase n ⊎ (journal' ≡ journal)
  pub goes : sufficed ≡ true → PartGoes law meaning lines from to n journal seat desks journal' seat' desks' notes
  pub armed : sufficed ≡ true → ArmedBy (stops_in n phase faults) seat.node.replica seat'.node.replica
