-- Scripts that can be played by so many nodes.
use Rattle.std.specs.Prelude.{ℕ, List}
use Rattle.std.specs.List.{AllByRecursion}
use Rattle.script_text.specs.declared.asks.NamedLine.{NamedLine}
use Rattle.fitting_run.specs.Lines.{CanLog}
use Rattle.node_course.specs.Script.{AreLines}

-- each session's lines are at one of the nodes, and an entry may hold each command
pub record CanPlay (nodes : ℕ) (lines : List NamedLine) : Type 0 where
  pub home : ℕ → ℕ
  pub lines_are : AreLines lines home nodes
  pub spelled : AllByRecursion (λ l. CanLog l.asks) lines
