use Rattle.std.proofs.Common.{◌≡◌, ◌≤◌, ◌<◌, ℕ, length, Some}
use Rattle.std.specs.Prelude.{slice_get}
use Rattle.script_text.specs.declared.asks.NamedLine.{NamedLine}
use Rattle.node_threads.proofs.phases.end_of_phase.Given as goal

abbrev pub invariant-loop-i : goal.invariant-loop-i
invariant-loop-i l = record {
  low : l.fn.from ≤ l.i;
  high : l.i ≤ length l.lines;
  inside : (j : ℕ) (line : NamedLine) → l.fn.from ≤ j → j < l.i → slice_get l.lines j ≡ Some line → line.phase ≤ l.phase;
}
