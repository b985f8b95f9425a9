use Rattle.std.proofs.Common.{◌≡◌, drop, List, true}
use Rattle.delos_types.specs.declared.place.Place.{Place}
use Rattle.engine_steps.specs.Hearing.{own}
use Rattle.engine_stack.proofs.SoFar.{HeardSoFar}
use Rattle.engine_stack.proofs.level.hear.Given as goal

abbrev pub invariant-loop-t : goal.invariant-loop-t
invariant-loop-t g l =
    let kind = (goal.Engine-dyn g (l.fn.engine.vtable, l.fn.engine.value)).kind_of l.fn.engine.value in
    let kept = (goal.Engine-dyn g (l.fn.engine.vtable, l.fn.engine.value)).kept l.fn.engine.value in
    let now = (goal.Space-dyn g l.space.now).contents l.space.now.1 in
    let start = (goal.Space-dyn g l.fn.space.now).contents l.fn.space.now.1 in
    let beginning = (goal.Space-dyn g l.fn.space.now).beginning l.fn.space.now.1 in
    ((goal.Engine-dyn g (l.engine.vtable, l.engine.value)).kind_of l.engine.value ≡ kind)
    × ((goal.Engine-dyn g (l.engine.vtable, l.engine.value)).kept l.engine.value ≡ kept)
    × HeardSoFar kind start l.told (drop l.t-index l.told) now
    × ((goal.Space-dyn g l.space.now).beginning l.space.now.1 ≡ beginning)
    × ((goal.Engine-dyn g (l.engine.vtable, l.engine.value)).knows l.engine.value (own ((goal.Engine-dyn g (l.engine.vtable, l.engine.value)).kind_of l.engine.value) now) ≡ true)
    × ((places : List Place) → (goal.Engine-dyn g (l.fn.engine.vtable, l.fn.engine.value)).posted l.fn.engine.value places → (goal.Engine-dyn g (l.engine.vtable, l.engine.value)).posted l.engine.value places)
