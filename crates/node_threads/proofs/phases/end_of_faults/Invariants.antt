use Rattle.std.proofs.Common.{◌≡◌, ◌≤◌, ◌<◌, ℕ, length, Some}
use Rattle.std.specs.Prelude.{slice_get}
use Rattle.script_text.specs.declared.faults.FaultLine.{FaultLine}
use Rattle.node_threads.proofs.phases.end_of_faults.Given as goal

abbrev pub invariant-loop-i : goal.invariant-loop-i
invariant-loop-i l = record {
  low : l.next ≤ l.i;
  high : l.i ≤ length l.faults;
  inside : (j : ℕ) (f : FaultLine) → l.next ≤ j → j < l.i → slice_get l.faults j ≡ Some f → f.phase ≤ l.phase;
}
