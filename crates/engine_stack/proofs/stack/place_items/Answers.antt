use Rattle.std.proofs.Common.{arith}
use Rattle.engine_stack.proofs.SoFar.{placed_more}
use Rattle.engine_stack.proofs.stack.place_items.Goals as goal

pub loop-item-preserved : goal.loop-item-preserved
loop-item-preserved c = record {
  few = omega (arith, c.in-Some.ensures.cases, c.loop-item.items.ok, c.pop.new.self.ok, c.loop-item.invariant.few);
  placed = rw c.in_ok-push_front.ensures.items (placed_more _ _ _ _ _ _ _ c.in-Some.ensures.items (omega (arith, c.len-sub.ensures, c.pop.new.self.ok)) c.loop-item.invariant.placed);
}
