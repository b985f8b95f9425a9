use Rattle.std.proofs.Common.{◌≤◌, ◌<◌, ℕ, length}
use Rattle.script_text.specs.declared.asks.NamedLine.{NamedLine}
use Rattle.node_lines.specs.declared.lines.Looked.TheVariants as looked
use Rattle.node_course.specs.Played.{Came}
use Rattle.run_closing.proofs.finish.left_by_line.Given as goal

abbrev pub invariant-loop-i : goal.invariant-loop-i
invariant-loop-i l = record {
  high : l.i ≤ length l.lines;
  stays : (j : ℕ) (line : NamedLine) → j < l.i → Came l.lines l.looks l.node j line looked.Left → ⊥;
}
