use Rattle.std.proofs.Common.{◌-◌, ◌∙◌, ◌<◌, length, arith}
use Rattle.std.proofs.lemmas.List.{length-map}
use Rattle.std.proofs.Math.ListN.{length-set}
use Rattle.engine_stack.proofs.SoFar.{map_set_same, seen_at, not_lowest}
use Rattle.engine_stack.proofs.Known.{kept_set, each_set}
use Rattle.engine_stack.proofs.stack.descend.Goals as goal

pub through-requires-clause-kind : goal.through-requires-clause-kind
through-requires-clause-kind g c =
    let inv = c.loop-k.invariant in
    let lt : c.loop-k.k - 1 < length c.loop-k.engines.items = omega arith in
    not_lowest _ (c.loop-k.k - 1) (inv.1 ∙ c.requires.kinds) (omega arith) (simp length-map (omega arith)) _ (seen_at _ _ _ 0 _ lt c.index_mut.ensures.value)

pub returns-in_err-item-clause-kinds : goal.returns-in_err-item-clause-kinds
returns-in_err-item-clause-kinds g c =
    let lt : c.loop-k.k - 1 < length c.loop-k.engines.items = omega arith in
    map_set_same _ _ _ _ _ lt c.index_mut.ensures.value c.in_err-item.ensures.kind ∙ c.loop-k.invariant.1

pub returns-in_err-item-clause-kept : goal.returns-in_err-item-clause-kept
returns-in_err-item-clause-kept g c =
    let lt : c.loop-k.k - 1 < length c.loop-k.engines.items = omega arith in
    map_set_same _ _ _ _ _ lt c.index_mut.ensures.value c.in_err-item.ensures.kept ∙ c.loop-k.invariant.2

pub loop-k-preserved : goal.loop-k-preserved
loop-k-preserved g c =
    let inv = c.loop-k.invariant in
    let lt : c.loop-k.k - 1 < length c.loop-k.engines.items = omega arith in (
      simp length-set (omega arith),
      map_set_same _ _ _ _ _ lt c.index_mut.ensures.value c.in_ok-item.ensures.kind ∙ inv.1,
      map_set_same _ _ _ _ _ lt c.index_mut.ensures.value c.in_ok-item.ensures.kept ∙ inv.2,
      c.in_ok-item.ensures.item ∙ inv.3,
      λ space h. kept_set _ (λ e m. (goal.Engine-dyn g (e.vtable, e.value)).knows e.value m) _ _ _ _ _ (inv.4 space h) lt c.index_mut.ensures.value c.in_ok-item.ensures.kind c.in_ok-item.ensures.known,
      λ told h. each_set _ _ _ _ _ _ lt c.index_mut.ensures.value c.in_ok-item.ensures.posted (inv.5 told h),
    )

pub returns-in_err-item-clause-known : goal.returns-in_err-item-clause-known
returns-in_err-item-clause-known g c = λ space h.
    let lt : c.loop-k.k - 1 < length c.loop-k.engines.items = omega arith in
    kept_set _ (λ e m. (goal.Engine-dyn g (e.vtable, e.value)).knows e.value m) _ _ _ _ _ (c.loop-k.invariant.4 space h) lt c.index_mut.ensures.value c.in_err-item.ensures.kind c.in_err-item.ensures.known

pub returns-in_err-item-clause-posted : goal.returns-in_err-item-clause-posted
returns-in_err-item-clause-posted g c = λ told h.
    let lt : c.loop-k.k - 1 < length c.loop-k.engines.items = omega arith in
    each_set _ _ _ _ _ _ lt c.index_mut.ensures.value c.in_err-item.ensures.posted (c.loop-k.invariant.5 told h)
