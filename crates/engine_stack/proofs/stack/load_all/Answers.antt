use Rattle.std.proofs.Common.{◌≡◌, ◌<◌, ◌≤◌, ◌∙◌, length, arith}
use Rattle.engine_stack.proofs.SoFar.{map_set_same, same_length}
use Rattle.engine_stack.proofs.Known.{first_set, first_all, before_set, behind_set, loaded_below, each_set}
use Rattle.engine_stack.proofs.stack.load_all.Goals as goal

pub returns-in_err-load_at-clause-kinds : goal.returns-in_err-load_at-clause-kinds
returns-in_err-load_at-clause-kinds g c =
    let same : length c.loop-k.engines.items ≡ length c.args.engines.now.items = same_length _ _ _ c.loop-k.invariant.0 in
    let lt : c.loop-k.k < length c.loop-k.engines.items = omega (arith, c.len-k-end.ensures, c.args.engines.now.ok.0) in
    map_set_same _ _ _ _ _ lt c.index_mut.ensures.value c.in_err-load_at.ensures.kind ∙ c.loop-k.invariant.0

pub returns-in_err-load_at-clause-kept : goal.returns-in_err-load_at-clause-kept
returns-in_err-load_at-clause-kept g c =
    let same : length c.loop-k.engines.items ≡ length c.args.engines.now.items = same_length _ _ _ c.loop-k.invariant.0 in
    let lt : c.loop-k.k < length c.loop-k.engines.items = omega (arith, c.len-k-end.ensures, c.args.engines.now.ok.0) in
    map_set_same _ _ _ _ _ lt c.index_mut.ensures.value c.in_err-load_at.ensures.kept ∙ c.loop-k.invariant.1

pub loop-k-preserved : goal.loop-k-preserved
loop-k-preserved g c =
    let same : length c.loop-k.engines.items ≡ length c.args.engines.now.items = same_length _ _ _ c.loop-k.invariant.0 in
    let lt : c.loop-k.k < length c.loop-k.engines.items = omega (arith, c.len-k-end.ensures, c.args.engines.now.ok.0) in
    (map_set_same _ _ _ _ _ lt c.index_mut.ensures.value c.in_ok-load_at.ensures.kind ∙ c.loop-k.invariant.0, map_set_same _ _ _ _ _ lt c.index_mut.ensures.value c.in_ok-load_at.ensures.kept ∙ c.loop-k.invariant.1, first_set _ c.loop-k.engines.items c.loop-k.k _ c.loop-k.invariant.2 c.in_ok-load_at.ensures.known, λ told h. each_set _ _ _ _ _ _ lt c.index_mut.ensures.value c.in_ok-load_at.ensures.posted (c.loop-k.invariant.3 told h), behind_set c.loop-k.engines.items _ c.loop-k.k _ c.loop-k.invariant.4)

pub returns-in_err-load_at-clause-posted : goal.returns-in_err-load_at-clause-posted
returns-in_err-load_at-clause-posted g c = λ told h.
    let same : length c.loop-k.engines.items ≡ length c.args.engines.now.items = same_length _ _ _ c.loop-k.invariant.0 in
    let lt : c.loop-k.k < length c.loop-k.engines.items = omega (arith, c.len-k-end.ensures, c.args.engines.now.ok.0) in
    each_set _ _ _ _ _ _ lt c.index_mut.ensures.value c.in_err-load_at.ensures.posted (c.loop-k.invariant.3 told h)

pub returns-clause-known : goal.returns-clause-known
returns-clause-known g c =
    let same : length c.loop-k.engines.items ≡ length c.args.engines.now.items = same_length _ _ _ c.loop-k.invariant.0 in
    let most : length c.loop-k.engines.items ≤ c.loop-k.k = omega (arith, c.len-k-end.ensures, c.args.engines.now.ok.0) in
    first_all _ _ _ most c.loop-k.invariant.2

pub returns-in_err-load_at-clause-lowest_first : goal.returns-in_err-load_at-clause-lowest_first
returns-in_err-load_at-clause-lowest_first g c =
    loaded_below c.from_residual.result _ _ _ c.loop-k.k (before_set _ c.loop-k.engines.items c.loop-k.k _ c.loop-k.invariant.2) (behind_set c.loop-k.engines.items _ c.loop-k.k _ c.loop-k.invariant.4)
