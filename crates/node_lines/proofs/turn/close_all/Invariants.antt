use Rattle.std.proofs.Common.{◌≡◌, ℕ, ◌<◌, ◌≤◌, length, Some}
use Rattle.std.specs.Prelude.{slice_get}
use Rattle.node_lines.specs.declared.desk.Desk.{Desk}
use Rattle.node_lines.specs.Desks.{DesksOk}
use Rattle.node_lines.specs.Turns.{ClosesIt}
use Rattle.node_lines.proofs.turn.close_all.Given as goal

abbrev pub invariant-loop-desk : goal.invariant-loop-desk
invariant-loop-desk g l = record {
  len : length l.desks ≡ length l.initial.desks;
  ok : DesksOk l.node l.desks;
  done : (s : ℕ) (d : Desk) → s < l.desk-index → slice_get l.initial.desks s ≡ Some d → (x : Desk) × (slice_get l.desks s ≡ Some x) × ClosesIt l.node l.failed d x;
  left : (s : ℕ) → l.desk-index ≤ s → slice_get l.desks s ≡ slice_get l.initial.desks s;
}
