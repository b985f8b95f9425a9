use Rattle.std.proofs.Common.{◌≡◌, ◌≤◌}
use Rattle.node_crew.specs.Stops.{armed_all, stops_between}
use Rattle.node_crew.proofs.stops.arm_between.Given as goal

abbrev pub invariant-loop-k : goal.invariant-loop-k
invariant-loop-k g l = record {
  low : l.fn.from ≤ l.k;
  high : l.k ≤ l.fn.to;
  so_far : l.seat ≡ armed_all l.initial.seat (stops_between l.node l.fn.from l.k l.faults);
}
