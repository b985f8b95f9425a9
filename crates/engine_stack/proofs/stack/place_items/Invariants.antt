use Rattle.std.proofs.Common.{◌≡◌, ◌≤◌, ◌++◌, length, vec_len}
use Rattle.log_laws.specs.Rises.{placed_items}
use Rattle.engine_stack.proofs.stack.place_items.Given as goal

abbrev pub invariant-loop-item : goal.invariant-loop-item
invariant-loop-item l = record {
  few : length l.items.items ≤ 16;
  placed : placed_items l.pos 0 l.items.items ++ l.rising.items ≡ placed_items l.pos 0 l.fn.items;
}

abbrev pub decreases-loop-item : goal.decreases-loop-item
decreases-loop-item l = vec_len l.items
