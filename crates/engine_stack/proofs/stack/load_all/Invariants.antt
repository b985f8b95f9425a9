use Rattle.std.proofs.Common.{◌≡◌, List, true, drop, map, take}
use Rattle.std.specs.List.{list_all}
use Rattle.delos_types.specs.declared.place.Place.{Place}
use Rattle.engine_steps.specs.Hearing.{own, Each}
use Rattle.engine_stack.proofs.stack.load_all.Given as goal

abbrev pub invariant-loop-k : goal.invariant-loop-k
invariant-loop-k g l =
    (map (λ e. (goal.Engine-dyn g (e.vtable, e.value)).kind_of e.value) l.engines.items ≡ map (λ e. (goal.Engine-dyn g (e.vtable, e.value)).kind_of e.value) l.fn.engines.items)
    × (map (λ e. (goal.Engine-dyn g (e.vtable, e.value)).kept e.value) l.engines.items ≡ map (λ e. (goal.Engine-dyn g (e.vtable, e.value)).kept e.value) l.fn.engines.items)
    × (list_all (λ e. (goal.Engine-dyn g (e.vtable, e.value)).knows e.value (own ((goal.Engine-dyn g (e.vtable, e.value)).kind_of e.value) ((goal.Space-dyn g l.fn.space.now).contents l.fn.space.now.1))) (take l.k l.engines.items) ≡ true)
    × ((told : List (List Place)) → Each (λ e places. (goal.Engine-dyn g (e.vtable, e.value)).posted e.value places) l.fn.engines.items told → Each (λ e places. (goal.Engine-dyn g (e.vtable, e.value)).posted e.value places) l.engines.items told)
    × (drop l.k l.engines.items ≡ drop l.k l.fn.engines.items)
