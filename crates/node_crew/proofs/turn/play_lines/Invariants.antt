use Rattle.std.proofs.Common.{◌≡◌, ◌≤◌, ◌+◌, ℕ, List, Option}
use Rattle.turn_scopes.specs.Beside.{Since}
use Rattle.node_course.specs.Script.{BeginsAt}
use Rattle.node_course.specs.FaultLines.{ArmedBy}
use Rattle.node_course.specs.Moments.{NodeCourse}
use Rattle.node_course.specs.Workers.{LineWent}
use Rattle.node_lines.specs.declared.lines.Looked.{Looked}
use Rattle.node_crew.specs.Notes.{AreNotesOf, noted}
use Rattle.node_crew.specs.Stops.{stops_between}
use Rattle.node_crew.specs.Turns.{CanEnd, IsUnderWay}
use Rattle.node_crew.proofs.turn.play_lines.Given as goal

abbrev pub invariant-loop-i : goal.invariant-loop-i
invariant-loop-i g l = record {
  low : l.fn.from ≤ l.i;
  high : l.i ≤ l.fn.to;
  begun : l.fn.faults.from ≤ l.next;
  within : l.next ≤ l.fn.faults.to;
  who : l.worker.seat.who ≡ l.node;
  whose : g.A.Access.who l.access ≡ l.node;
  since : Since l.initial.worker.seat.who (g.A.Access.beside l.initial.worker.seat.who) (g.A.Access.seen l.initial.access) (g.A.Access.seen l.access);
  -- the stops that it came across, and nothing else, armed the disk
  armed : ArmedBy (stops_between l.node l.fn.faults.from l.next l.fn.faults.lines.now) l.initial.worker.seat.node.replica l.worker.seat.node.replica;
  own : AreNotesOf l.lines l.node l.notes.items;
  ends : CanEnd g.A.Access.beside g.A.Law.Rules.law.floor (g.A.Access.seen l.access) l.worker.seat l.worker.desks.items;
  goes : (home : ℕ → ℕ) (nodes : ℕ) (c : NodeCourse) (looks : List (Option Looked))
      → IsUnderWay g.A.Law.Rules.law g.S.Replica.meaning l.lines home nodes c (noted looks l.initial.notes.items) l.node l.fn.from l.fn.from (g.A.Access.seen l.initial.access) l.initial.worker.seat l.initial.worker.desks.items → BeginsAt l.lines l.fn.to (c.phase + 1)
      → LineWent g.A.Law.Rules.law g.S.Replica.meaning l.lines home nodes c (noted looks l.notes.items) l.node l.fn.from l.i (g.A.Access.seen l.access) l.worker.seat l.worker.desks.items;
}
