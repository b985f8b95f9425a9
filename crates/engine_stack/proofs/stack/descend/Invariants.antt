use Rattle.std.proofs.Common.{◌≡◌, List, true, ◌≤◌, map, length}
use Rattle.std.specs.List.{list_all}
use Rattle.delos_types.specs.Spaces.{SpaceMap}
use Rattle.delos_types.specs.declared.place.Place.{Place}
use Rattle.engine_steps.specs.Hearing.{own, Each}
use Rattle.engine_stack.proofs.stack.descend.Given as goal

abbrev pub invariant-loop-k : goal.invariant-loop-k
invariant-loop-k g l =
    (l.k ≤ length l.engines.items)
    × (map (λ e. (goal.Engine-dyn g (e.vtable, e.value)).kind_of e.value) l.engines.items ≡ map (λ e. (goal.Engine-dyn g (e.vtable, e.value)).kind_of e.value) l.fn.engines.items)
    × (map (λ e. (goal.Engine-dyn g (e.vtable, e.value)).kept e.value) l.engines.items ≡ map (λ e. (goal.Engine-dyn g (e.vtable, e.value)).kept e.value) l.fn.engines.items)
    × (l.item ≡ l.fn.item)
    × ((space : SpaceMap) → list_all (λ e. (goal.Engine-dyn g (e.vtable, e.value)).knows e.value (own ((goal.Engine-dyn g (e.vtable, e.value)).kind_of e.value) space)) l.fn.engines.items ≡ true → list_all (λ e. (goal.Engine-dyn g (e.vtable, e.value)).knows e.value (own ((goal.Engine-dyn g (e.vtable, e.value)).kind_of e.value) space)) l.engines.items ≡ true)
    × ((told : List (List Place)) → Each (λ e places. (goal.Engine-dyn g (e.vtable, e.value)).posted e.value places) l.fn.engines.items told → Each (λ e places. (goal.Engine-dyn g (e.vtable, e.value)).posted e.value places) l.engines.items told)

abbrev pub decreases-loop-k : goal.decreases-loop-k
decreases-loop-k g l = l.k
