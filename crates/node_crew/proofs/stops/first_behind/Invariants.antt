use Rattle.std.proofs.Common.{◌≡◌, ◌<◌, ◌≤◌, ℕ, Some}
use Rattle.std.specs.Prelude.{slice_get}
use Rattle.script_text.specs.declared.faults.FaultLine.{FaultLine}
use Rattle.node_crew.proofs.stops.first_behind.Given as goal

abbrev pub invariant-loop-k : goal.invariant-loop-k
invariant-loop-k l = record {
  low : l.fn.next ≤ l.k;
  high : l.k ≤ l.fn.faults.to;
  above : (k : ℕ) (f : FaultLine) → slice_get l.fn.faults.lines.now k ≡ Some f → l.fn.next ≤ k → k < l.k → f.before ≤ l.fn.i;
}
