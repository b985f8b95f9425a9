use Rattle.engine_stack.proofs.SoFar.{has_first}
use Rattle.engine_stack.proofs.Known.{kept_set, each_set}
use Rattle.engine_stack.proofs.stack.Stack.flush_items.Goals as goal

pub returns-clause-known : goal.returns-clause-known
returns-clause-known g c = λ space h.
    kept_set _ (λ e m. (goal.Engine-dyn g (e.vtable, e.value)).knows e.value m) _ _ 0 _ _ h (has_first _ _ _ _ c.requires.kinds) c.index_mut.ensures.value c.flush_at.ensures.kind c.flush_at.ensures.known

pub returns-clause-posted : goal.returns-clause-posted
returns-clause-posted g c = λ told h.
    each_set _ _ _ 0 _ _ (has_first _ _ _ _ c.requires.kinds) c.index_mut.ensures.value c.flush_at.ensures.posted h
