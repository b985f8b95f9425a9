use Rattle.std.proofs.Common.{◌≡◌, ◌≤◌, []}
use Rattle.node_crew.specs.Stops.{stops_between}
use Rattle.node_threads.proofs.part.node_with_stop.Given as goal

abbrev pub invariant-loop-k : goal.invariant-loop-k
invariant-loop-k l = record {
  low : l.fn.faults.from ≤ l.k;
  high : l.k ≤ l.fn.faults.to;
  none : stops_between l.who l.fn.faults.from l.k l.fn.faults.lines.now ≡ [];
}
