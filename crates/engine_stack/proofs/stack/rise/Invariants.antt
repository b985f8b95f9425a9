use Rattle.std.proofs.Common.{◌≡◌, List, true, drop, map}
use Rattle.std.specs.List.{list_all}
use Rattle.delos_types.specs.declared.place.Place.{Place}
use Rattle.engine_steps.specs.Hearing.{own, Each}
use Rattle.engine_stack.proofs.SoFar.{RisenSoFar}
use Rattle.engine_stack.proofs.stack.rise.Given as goal

abbrev pub invariant-loop-k : goal.invariant-loop-k
invariant-loop-k g l =
    let kinds = map (λ e. (goal.Engine-dyn g (e.vtable, e.value)).kind_of e.value) l.fn.engines.items in
    let now = (goal.Space-dyn g l.space.now).contents l.space.now.1 in
    let start = (goal.Space-dyn g l.fn.space.now).contents l.fn.space.now.1 in
    let beginning = (goal.Space-dyn g l.fn.space.now).beginning l.fn.space.now.1 in
    (map (λ e. (goal.Engine-dyn g (e.vtable, e.value)).kind_of e.value) l.engines.items ≡ kinds)
    × (map (λ e. (goal.Engine-dyn g (e.vtable, e.value)).kept e.value) l.engines.items ≡ map (λ e. (goal.Engine-dyn g (e.vtable, e.value)).kept e.value) l.fn.engines.items)
    × RisenSoFar (drop 1 kinds) start l.fn.items.items (drop l.k kinds) l.items.items l.told.items now
    × ((goal.Space-dyn g l.space.now).beginning l.space.now.1 ≡ beginning)
    × (list_all (λ e. (goal.Engine-dyn g (e.vtable, e.value)).knows e.value (own ((goal.Engine-dyn g (e.vtable, e.value)).kind_of e.value) now)) l.engines.items ≡ true)
    × ((told : List (List Place)) → Each (λ e places. (goal.Engine-dyn g (e.vtable, e.value)).posted e.value places) l.fn.engines.items told → Each (λ e places. (goal.Engine-dyn g (e.vtable, e.value)).posted e.value places) l.engines.items told)
