use Rattle.std.proofs.Common.{◌≡◌, ◌≤◌, ◌∙◌, ◌<◌, length, sym, arith, subst}
use Rattle.std.proofs.lemmas.List.{drop_all, length-map}
use Rattle.engine_stack.proofs.SoFar.{map_set_same, next_map, risen_more, risen_all, same_length}
use Rattle.engine_stack.proofs.SoFar.{seen_at}
use Rattle.engine_stack.proofs.Apart.{level_own}
use Rattle.engine_stack.proofs.Known.{all_at, known_set, rise_by, of_five, each_set}
use Rattle.engine_stack.proofs.stack.rise.Goals as goal

pub returns-in_err-items-clause-kinds : goal.returns-in_err-items-clause-kinds
returns-in_err-items-clause-kinds g c =
    let same : length c.loop-k.engines.items ≡ length c.args.engines.now.items = same_length _ _ _ c.loop-k.invariant.0 in
    let lt : c.loop-k.k < length c.loop-k.engines.items = omega (arith, c.len-k-end.ensures, c.args.engines.now.ok.0) in
    map_set_same _ _ _ _ _ lt c.index_mut.ensures.value c.in_err-items.ensures.kind ∙ c.loop-k.invariant.0

pub returns-in_err-items-clause-kept : goal.returns-in_err-items-clause-kept
returns-in_err-items-clause-kept g c =
    let same : length c.loop-k.engines.items ≡ length c.args.engines.now.items = same_length _ _ _ c.loop-k.invariant.0 in
    let lt : c.loop-k.k < length c.loop-k.engines.items = omega (arith, c.len-k-end.ensures, c.args.engines.now.ok.0) in
    map_set_same _ _ _ _ _ lt c.index_mut.ensures.value c.in_err-items.ensures.kept ∙ c.loop-k.invariant.1

pub loop-k-preserved : goal.loop-k-preserved
loop-k-preserved g c =
    let inv = c.loop-k.invariant in
    let e = c.in_ok-items.ensures.step in
    let same : length c.loop-k.engines.items ≡ length c.args.engines.now.items = same_length _ _ _ c.loop-k.invariant.0 in
    let lt : c.loop-k.k < length c.loop-k.engines.items = omega (arith, c.len-k-end.ensures, c.args.engines.now.ok.0) in
    let kind = of_five _ (inv.0 ∙ c.requires.kinds) c.loop-k.k (simp length-map lt) _ (seen_at _ _ _ 0 _ lt c.index_mut.ensures.value) in
    (map_set_same _ _ _ _ _ lt c.index_mut.ensures.value c.in_ok-items.ensures.kind ∙ inv.0, map_set_same _ _ _ _ _ lt c.index_mut.ensures.value c.in_ok-items.ensures.kept ∙ inv.1, rw e.2 (risen_more _ _ _ _ _ _ _ _ _ _ _ _ (next_map _ _ _ _ _ inv.0 lt c.index_mut.ensures.value) inv.2 e.1), c.in_ok-items.ensures.beginning ∙ inv.3, known_set _ (λ e m. (goal.Engine-dyn g (e.vtable, e.value)).knows e.value m) _ _ _ 1 _ _ _ (rise_by _ (inv.0 ∙ c.requires.kinds)) inv.4 lt c.index_mut.ensures.value (λ j ne. level_own _ kind.0 kind.1 j ne _ _ _ _ _ e.1) c.in_ok-items.ensures.known, λ told h. each_set _ _ _ _ _ _ lt c.index_mut.ensures.value c.in_ok-items.ensures.posted (inv.5 told h))

pub returns-clause-step : goal.returns-clause-step
returns-clause-step g c =
    let inv = c.loop-k.invariant in
    let le : length c.args.engines.now.items ≤ c.loop-k.k = omega (arith, c.len-k-end.ensures, c.args.engines.now.ok.0) in
    risen_all _ _ _ _ _ _ _ (drop_all _ _ (subst (λ n. n ≤ c.loop-k.k) (sym (length-map c.args.engines.now.items _)) le)) inv.2

pub level-requires : goal.level-requires
level-requires g c =
    let same : length c.loop-k.engines.items ≡ length c.args.engines.now.items = same_length _ _ _ c.loop-k.invariant.0 in
    let lt : c.loop-k.k < length c.loop-k.engines.items = omega (arith, c.len-k-end.ensures, c.args.engines.now.ok.0) in
    record { known = all_at _ _ _ _ c.loop-k.invariant.4 lt c.index_mut.ensures.value }

pub returns-in_err-items-clause-posted : goal.returns-in_err-items-clause-posted
returns-in_err-items-clause-posted g c = λ told h.
    let same : length c.loop-k.engines.items ≡ length c.args.engines.now.items = same_length _ _ _ c.loop-k.invariant.0 in
    let lt : c.loop-k.k < length c.loop-k.engines.items = omega (arith, c.len-k-end.ensures, c.args.engines.now.ok.0) in
    each_set _ _ _ _ _ _ lt c.index_mut.ensures.value c.in_err-items.ensures.posted (c.loop-k.invariant.5 told h)
