use Rattle.std.proofs.Common.{◌++◌, ◌∙◌, arith}
use Rattle.log_laws.specs.Rises.{answered}
use Rattle.engine_stack.proofs.SoFar.{passed_more, passed_all, told_more, no_items}
use Rattle.engine_stack.proofs.level.level.Goals as goal

pub loop-x-preserved : goal.loop-x-preserved
loop-x-preserved g c =
    let inv = c.loop-x.invariant in
    let e = c.in_ok-up_one.ensures.step in
    (c.in_ok-up_one.ensures.kind ∙ inv.0, c.in_ok-up_one.ensures.kept ∙ inv.1, (inv.2.0 ++ answered c.in-Some.x e.0, told_more _ _ _ _ _ inv.2.1 e.3, passed_more _ _ _ _ _ _ _ _ _ _ _ e.0 c.in-Some.ensures.items inv.2.2 (rw inv.0 at e.1) e.2), c.in_ok-up_one.ensures.beginning ∙ inv.3, c.in_ok-up_one.ensures.known, λ places p. c.in_ok-up_one.ensures.posted places (inv.5 places p))

pub returns-clause-step : goal.returns-clause-step
returns-clause-step g c =
    let inv = c.loop-x.invariant in
    (inv.2.0, passed_all _ _ _ _ _ _ _ (no_items _ (omega (arith, c.loop-x.items.ok, c.in_default.ensures.cases))) inv.2.2, inv.2.1)
