use Rattle.std.proofs.Common.{◌≡◌, ◌<◌, ◌≤◌, ◌∙◌, length, arith}
use Rattle.engine_stack.proofs.SoFar.{map_set_same, same_length}
use Rattle.engine_stack.proofs.Known.{kept_set, each_told, each_all}
use Rattle.engine_stack.proofs.stack.post_all.Goals as goal

pub loop-k-preserved : goal.loop-k-preserved
loop-k-preserved g c =
    let same : length c.loop-k.engines.items ≡ length c.args.engines.now.items = same_length _ _ _ c.loop-k.invariant.0 in
    let lt : c.loop-k.k < length c.loop-k.engines.items = omega (arith, c.len-k-end.ensures, c.args.engines.now.ok.0) in
    (map_set_same _ _ _ _ _ lt c.index_mut.ensures.value c.post_at.ensures.kind ∙ c.loop-k.invariant.0, map_set_same _ _ _ _ _ lt c.index_mut.ensures.value c.post_at.ensures.kept ∙ c.loop-k.invariant.1, λ space h. kept_set _ (λ e m. (goal.Engine-dyn g (e.vtable, e.value)).knows e.value m) _ _ _ _ _ (c.loop-k.invariant.2 space h) lt c.index_mut.ensures.value c.post_at.ensures.kind c.post_at.ensures.known, λ told h. each_told _ _ _ _ _ _ _ lt c.index_mut.ensures.value c.post_at.ensures.posted (c.loop-k.invariant.3 told h))

pub returns-clause-posted : goal.returns-clause-posted
returns-clause-posted g c = λ told h.
    let same : length c.loop-k.engines.items ≡ length c.args.engines.now.items = same_length _ _ _ c.loop-k.invariant.0 in
    let most : length c.loop-k.engines.items ≤ c.loop-k.k = omega (arith, c.len-k-end.ensures, c.args.engines.now.ok.0) in
    each_all _ _ _ _ _ most (c.loop-k.invariant.3 told h)
