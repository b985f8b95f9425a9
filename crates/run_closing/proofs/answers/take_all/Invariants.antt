use Rattle.std.proofs.Common.{◌≡◌, ℕ, ◌<◌, ◌≤◌, length, Some}
use Rattle.std.specs.Prelude.{slice_get}
use Rattle.node_lines.specs.declared.desk.Desk.{Desk}
use Rattle.run_closing.specs.Collecting.{TakesOne}
use Rattle.run_closing.proofs.answers.take_all.Given as goal

abbrev pub invariant-loop-desk : goal.invariant-loop-desk
invariant-loop-desk g l = record {
  len : length l.desks ≡ length l.initial.desks;
  done : (s : ℕ) (d : Desk) → s < l.desk-index → slice_get l.initial.desks s ≡ Some d → TakesOne l.node d l.desks s;
  left : (s : ℕ) → l.desk-index ≤ s → slice_get l.desks s ≡ slice_get l.initial.desks s;
}
