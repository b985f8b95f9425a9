use Rattle.std.proofs.Common.{◌≡◌, ◌≤◌, ◌++◌, List, drop}
use Rattle.legal_journal.specs.declared.events.FabricCall.{FabricCall}
use Rattle.node_course.specs.FaultLines.{calls_in}
use Rattle.node_threads.specs.Outset.{GoesOutside, MakesCalls}
use Rattle.node_threads.specs.Passes.{IsRested, journal_of}
use Rattle.node_threads.proofs.outset.begin_phase.Given as goal

abbrev pub invariant-loop-i : goal.invariant-loop-i
invariant-loop-i g l = record {
  low : l.faults.from ≤ l.i;
  high : l.i ≤ l.faults.to;
  rested : IsRested l.lock l.main;
  calls : List FabricCall;
  left : calls ++ calls_in l.faults.phase (drop l.i l.faults.lines.now) ≡ calls_in l.faults.phase l.faults.lines.now;
  made : MakesCalls calls (journal_of l.initial.main) (journal_of l.main);
  goes : GoesOutside g.P.Rules.law (journal_of l.initial.main) (journal_of l.main);
}
