use Rattle.std.proofs.Common.{◌≡◌, ◌≤◌, ◌-◌, ◌+◌, ℕ, length}
use Rattle.legal_journal.specs.FaultCalls.{faults_made, made_by}
use Rattle.node_course.specs.FaultLines.{FaultsBeginAt, acts_before, stops_before}
use Rattle.node_crew.specs.Arming.{AreArmed}
use Rattle.node_crew.specs.Crews.{CrewRests, CrewStands}
use Rattle.node_threads.specs.Passes.{IsRested, journal_of}
use Rattle.node_threads.proofs.phases.play_in.Given as goal

abbrev pub invariant-loop-from : goal.invariant-loop-from
invariant-loop-from g l = record {
  high : l.from ≤ length l.lines;
  high_faults : l.next ≤ length l.faults;
  size : length l.workers.items ≡ length l.initial.workers.items;
  rested : IsRested g.B.Room.lock l.main;
  phase : ℕ;
  rests : CrewRests g.P.Rules.law g.S.Replica.meaning l.lines l.faults l.from phase (journal_of l.main) l.looks.items (λ w. w.seat) (λ w. w.desks.items) l.workers.items;
  stands : CrewStands g.P.Rules.law g.S.Replica.meaning (journal_of l.main) (λ w. w.seat) l.workers.items;
  begins : FaultsBeginAt l.faults l.next phase;
  acted : faults_made (journal_of l.main) ≡ made_by 0 (acts_before l.cells l.faults phase);
  armed : AreArmed (λ n. stops_before n l.faults phase) (λ w. w.seat.node.replica) l.initial.workers.items l.workers.items;
}

abbrev pub decreases-loop-from : goal.decreases-loop-from
decreases-loop-from g l = length l.lines + length l.faults - (l.from + l.next)
