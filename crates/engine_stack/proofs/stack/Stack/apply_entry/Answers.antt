use Rattle.std.proofs.Common.{◌<◌, ◌∙◌, length, arith}
use Rattle.engine_stack.proofs.SoFar.{map_set_same, has_first, applies_by, applied_grows}
use Rattle.engine_stack.proofs.Known.{kept_set, each_set}
use Rattle.engine_stack.proofs.Standing.{in_order}
use Rattle.engine_stack.proofs.stack.Stack.apply_entry.Goals as goal

pub returns-clause-step : goal.returns-clause-step
returns-clause-step g c =
    let lt : 0 < length c.args.self.now.engines.items = has_first _ _ _ _ c.requires.kinds in
    applies_by _ _ _ _ _ _ _ _ _ _ _ _ (map_set_same _ _ 0 _ _ lt c.index_mut.ensures.value c.in_ok-items.ensures.kind ∙ c.requires.kinds) c.in_ok-told.ensures.kinds c.in_ok-items.ensures.items c.in_ok-rising.ensures c.as_slice.ensures.value c.in_ok-told.ensures.step c.in_ok-sink.ensures.step c.in_ok-out.ensures

pub returns-clause-grows : goal.returns-clause-grows
returns-clause-grows g c = applied_grows _ _ _ _ _ (omega (arith, c.ranges.pos)) (returns-clause-step g c)

pub returns-clause-in_order : goal.returns-clause-in_order
returns-clause-in_order g c = in_order _ _ _ _ _ (returns-clause-step g c)

pub rise-requires-clause-kinds : goal.rise-requires-clause-kinds
rise-requires-clause-kinds g c =
    let lt : 0 < length c.args.self.now.engines.items = has_first _ _ _ _ c.requires.kinds in
    map_set_same _ _ 0 _ _ lt c.index_mut.ensures.value c.in_ok-items.ensures.kind ∙ c.requires.kinds

pub rise-requires-clause-known : goal.rise-requires-clause-known
rise-requires-clause-known g c =
    let lt : 0 < length c.args.self.now.engines.items = has_first _ _ _ _ c.requires.kinds in
    kept_set _ (λ e m. (goal.Engine-dyn g (e.vtable, e.value)).knows e.value m) _ _ 0 _ _ c.requires.known lt c.index_mut.ensures.value c.in_ok-items.ensures.kind c.in_ok-items.ensures.known

pub sink-requires-clause-kinds : goal.sink-requires-clause-kinds
sink-requires-clause-kinds g c =
    let lt : 0 < length c.args.self.now.engines.items = has_first _ _ _ _ c.requires.kinds in
    c.in_ok-told.ensures.kinds ∙ map_set_same _ _ 0 _ _ lt c.index_mut.ensures.value c.in_ok-items.ensures.kind ∙ c.requires.kinds

pub returns-in_err-items-clause-posted : goal.returns-in_err-items-clause-posted
returns-in_err-items-clause-posted g c = λ told h.
    let lt : 0 < length c.args.self.now.engines.items = has_first _ _ _ _ c.requires.kinds in
    each_set _ _ _ 0 _ _ lt c.index_mut.ensures.value c.in_err-items.ensures.posted h

pub returns-in_err-rising-clause-posted : goal.returns-in_err-rising-clause-posted
returns-in_err-rising-clause-posted g c = λ told h.
    let lt : 0 < length c.args.self.now.engines.items = has_first _ _ _ _ c.requires.kinds in
    each_set _ _ _ 0 _ _ lt c.index_mut.ensures.value c.in_ok-items.ensures.posted h

pub returns-in_err-told-clause-posted : goal.returns-in_err-told-clause-posted
returns-in_err-told-clause-posted g c = λ told h.
    let lt : 0 < length c.args.self.now.engines.items = has_first _ _ _ _ c.requires.kinds in
    c.in_err-told.ensures.posted told (each_set _ _ _ 0 _ _ lt c.index_mut.ensures.value c.in_ok-items.ensures.posted h)

pub returns-in_err-sink-clause-posted : goal.returns-in_err-sink-clause-posted
returns-in_err-sink-clause-posted g c = λ told h.
    let lt : 0 < length c.args.self.now.engines.items = has_first _ _ _ _ c.requires.kinds in
    c.in_err-sink.ensures.posted told (c.in_ok-told.ensures.posted told (each_set _ _ _ 0 _ _ lt c.index_mut.ensures.value c.in_ok-items.ensures.posted h))

pub returns-in_err-out-clause-posted : goal.returns-in_err-out-clause-posted
returns-in_err-out-clause-posted g c = λ told h.
    let lt : 0 < length c.args.self.now.engines.items = has_first _ _ _ _ c.requires.kinds in
    c.in_ok-sink.ensures.posted told (c.in_ok-told.ensures.posted told (each_set _ _ _ 0 _ _ lt c.index_mut.ensures.value c.in_ok-items.ensures.posted h))

pub returns-clause-posted : goal.returns-clause-posted
returns-clause-posted g c = λ told h.
    let lt : 0 < length c.args.self.now.engines.items = has_first _ _ _ _ c.requires.kinds in
    c.in_ok-sink.ensures.posted told (c.in_ok-told.ensures.posted told (each_set _ _ _ 0 _ _ lt c.index_mut.ensures.value c.in_ok-items.ensures.posted h))
