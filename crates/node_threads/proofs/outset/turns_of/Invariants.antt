use Rattle.std.proofs.Common.{◌≡◌, ◌≤◌, ◌+◌, ◌*◌, drop}
use Rattle.node_course.specs.FaultLines.{turns_in}
use Rattle.node_threads.proofs.outset.turns_of.Given as goal

abbrev pub invariant-loop-i : goal.invariant-loop-i
invariant-loop-i l = record {
  low : l.faults.from ≤ l.i;
  high : l.i ≤ l.faults.to;
  few : l.turns ≤ 1000000 * l.i;
  left : l.turns + turns_in l.faults.phase (drop l.i l.faults.lines.now) ≡ turns_in l.faults.phase l.faults.lines.now;
}
