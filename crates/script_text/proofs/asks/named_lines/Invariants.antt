use Rattle.std.proofs.Common.{◌≡◌}
use Rattle.script_text.specs.Lines.{lines_of}
use Rattle.script_text.proofs.Walking.{IsPast}
use Rattle.script_text.proofs.asks.named_lines.Given as goal

abbrev pub invariant-loop-line : goal.invariant-loop-line
invariant-loop-line l = record {
  past : IsPast l.yielded l.walk;
  named : l.items.items ≡ lines_of l.yielded;
}
