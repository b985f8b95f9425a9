use Rattle.std.proofs.Common.{◌≡◌, map, length}
use Rattle.run_closing.proofs.First.{AreFirst}
use Rattle.run_closing.proofs.rows.rows_of.Given as goal

abbrev pub invariant-loop-i : goal.invariant-loop-i
invariant-loop-i g l = record {
  size : length l.rows.items ≡ l.i;
  first : AreFirst l.lines (map (λ w. record { seat = w.seat; desks = w.desks.items }) l.workers) l.looks l.rows.items;
}
