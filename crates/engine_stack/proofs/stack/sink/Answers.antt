use Rattle.std.proofs.Common.{◌-◌, ◌∙◌, ◌<◌, length, arith}
use Rattle.std.proofs.Math.ListN.{length-set}
use Rattle.engine_stack.proofs.SoFar.{map_set_same, next_down, sunk_more}
use Rattle.engine_stack.proofs.Apart.{hears_own}
use Rattle.engine_stack.proofs.Known.{all_at, known_set, rise_by, each_set}
use Rattle.engine_stack.proofs.stack.sink.Goals as goal

pub returns-in_err-hear-clause-kinds : goal.returns-in_err-hear-clause-kinds
returns-in_err-hear-clause-kinds g c =
    let lt : c.loop-k.k - 1 < length c.loop-k.engines.items = omega arith in
    map_set_same _ _ _ _ _ lt c.index_mut.ensures.value c.in_err-hear.ensures.kind ∙ c.loop-k.invariant.1

pub returns-in_err-hear-clause-kept : goal.returns-in_err-hear-clause-kept
returns-in_err-hear-clause-kept g c =
    let lt : c.loop-k.k - 1 < length c.loop-k.engines.items = omega arith in
    map_set_same _ _ _ _ _ lt c.index_mut.ensures.value c.in_err-hear.ensures.kept ∙ c.loop-k.invariant.2

pub loop-k-preserved : goal.loop-k-preserved
loop-k-preserved g c =
    let inv = c.loop-k.invariant in
    let lt : c.loop-k.k - 1 < length c.loop-k.engines.items = omega arith in (
      simp length-set (omega arith),
      map_set_same _ _ _ _ _ lt c.index_mut.ensures.value c.in_ok-hear.ensures.kind ∙ inv.1,
      map_set_same _ _ _ _ _ lt c.index_mut.ensures.value c.in_ok-hear.ensures.kept ∙ inv.2,
      sunk_more _ _ _ _ _ _ _ (next_down _ _ _ _ _ inv.1 (omega arith) lt c.index_mut.ensures.value) inv.3 c.in_ok-hear.ensures.step,
      c.in_ok-hear.ensures.beginning ∙ inv.4,
      known_set _ (λ e m. (goal.Engine-dyn g (e.vtable, e.value)).knows e.value m) _ _ _ 1 _ _ _ (rise_by _ (inv.1 ∙ c.requires.kinds)) inv.5 lt c.index_mut.ensures.value (λ j ne. hears_own _ j ne _ _ _ c.in_ok-hear.ensures.step) c.in_ok-hear.ensures.known,
      λ told h. each_set _ _ _ _ _ _ lt c.index_mut.ensures.value c.in_ok-hear.ensures.posted (inv.6 told h),
    )

pub hear-requires : goal.hear-requires
hear-requires g c =
    let lt : c.loop-k.k - 1 < length c.loop-k.engines.items = omega arith in
    record { known = all_at _ _ _ _ c.loop-k.invariant.5 lt c.index_mut.ensures.value }

pub returns-in_err-hear-clause-posted : goal.returns-in_err-hear-clause-posted
returns-in_err-hear-clause-posted g c = λ told h.
    let lt : c.loop-k.k - 1 < length c.loop-k.engines.items = omega arith in
    each_set _ _ _ _ _ _ lt c.index_mut.ensures.value c.in_err-hear.ensures.posted (c.loop-k.invariant.6 told h)
