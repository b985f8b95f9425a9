use Rattle.std.proofs.Common.{◌∙◌}
use Rattle.engine_stack.proofs.SoFar.{heard_more, next_of}
use Rattle.engine_stack.proofs.level.hear.Goals as goal

pub loop-t-preserved : goal.loop-t-preserved
loop-t-preserved g c =
    let inv = c.loop-t.invariant in
    (c.in_ok-back_at.ensures.kind ∙ inv.0, c.in_ok-back_at.ensures.kept ∙ inv.1, heard_more _ _ _ _ _ _ _ _ (next_of _ _ _ c.loop-t-test.true c.t-item.is) inv.2 (rw inv.0 at c.in_ok-back_at.ensures.step), c.in_ok-back_at.ensures.beginning ∙ inv.3, c.in_ok-back_at.ensures.known, λ places p. c.in_ok-back_at.ensures.posted places (inv.5 places p))
