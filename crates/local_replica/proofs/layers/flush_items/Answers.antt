use Rattle.std.proofs.Common.{ap, ◌∙◌}
use Rattle.std.specs.List.{list_all}
use Rattle.engine_steps.specs.Hearing.{own}
use Rattle.local_replica.proofs.layers.flush_items.Goals as goal

pub returns-clause-known : goal.returns-clause-known
returns-clause-known g c = λ space h.
    ap (λ v. list_all (λ e. (goal.Engine-dyn g (e.vtable, e.value)).knows e.value (own ((goal.Engine-dyn g (e.vtable, e.value)).kind_of e.value) space)) v.items) c.into_engines.ensures
    ∙ c.flush_items-packed.ensures.known space (ap (λ v. list_all (λ e. (goal.Engine-dyn g (e.vtable, e.value)).knows e.value (own ((goal.Engine-dyn g (e.vtable, e.value)).kind_of e.value) space)) v.items) (c.new-stack.ensures.engines ∙ c.replace.ensures.value) ∙ h)
