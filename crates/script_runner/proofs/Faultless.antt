-- No lines that break or mend anything are fault lines of any run.
use Rattle.std.proofs.Common.{◌≡◌, ℕ, List, [], Some, slice_get, lit≤}
use Rattle.script_text.specs.declared.asks.NamedLine.{NamedLine}
use Rattle.script_text.specs.declared.faults.FaultLine.{FaultLine}
use Rattle.node_course.specs.FaultLines.{AreFaultLines}

none : (i : ℕ) (f : FaultLine) → slice_get [] i ≡ Some f → ⊥
none i f is = cc

pub no_fault_lines : (lines : List NamedLine) (shelf : List ℕ) (nodes : ℕ) → AreFaultLines lines [] shelf nodes
no_fault_lines lines shelf nodes = record {
  few = lit≤ tt;
  rise = λ i j f g at there less. absurd (none i f at);
  among = λ i f at. absurd (none i f at);
  there = λ i f at. absurd (none i f at);
  stay = λ i f at. absurd (none i f at);
}
