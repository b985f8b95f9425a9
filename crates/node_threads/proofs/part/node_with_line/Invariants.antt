use Rattle.std.proofs.Common.{◌≤◌}
use Rattle.node_crew.specs.Turns.{HasNone}
use Rattle.node_threads.proofs.part.node_with_line.Given as goal

abbrev pub invariant-loop-i : goal.invariant-loop-i
invariant-loop-i l = record {
  low : l.fn.from ≤ l.i;
  high : l.i ≤ l.fn.to;
  none : HasNone l.lines l.fn.from l.i l.who;
}
