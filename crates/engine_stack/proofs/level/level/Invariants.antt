use Rattle.std.proofs.Common.{◌≡◌, ◌++◌, List, true}
use Rattle.delos_types.specs.declared.place.Place.{Place}
use Rattle.engine_steps.specs.Hearing.{own}
use Rattle.std.specs.VecDeque.{deque_len}
use Rattle.log_laws.specs.declared.rising.Told.{Told}
use Rattle.engine_stack.proofs.SoFar.{PassedSoFar}
use Rattle.engine_stack.proofs.level.level.Given as goal

abbrev pub invariant-loop-x : goal.invariant-loop-x
invariant-loop-x g l =
    let kind = (goal.Engine-dyn g (l.fn.engine.vtable, l.fn.engine.value)).kind_of l.fn.engine.value in
    let kept = (goal.Engine-dyn g (l.fn.engine.vtable, l.fn.engine.value)).kept l.fn.engine.value in
    let now = (goal.Space-dyn g l.space.now).contents l.space.now.1 in
    let start = (goal.Space-dyn g l.fn.space.now).contents l.fn.space.now.1 in
    let beginning = (goal.Space-dyn g l.fn.space.now).beginning l.fn.space.now.1 in
    ((goal.Engine-dyn g (l.engine.vtable, l.engine.value)).kind_of l.engine.value ≡ kind)
    × ((goal.Engine-dyn g (l.engine.vtable, l.engine.value)).kept l.engine.value ≡ kept)
    × ((more : List Told) × (l.told.items ≡ l.fn.told.items ++ more) × PassedSoFar kind start l.fn.items.items l.items.items l.outs.items more now)
    × ((goal.Space-dyn g l.space.now).beginning l.space.now.1 ≡ beginning)
    × ((goal.Engine-dyn g (l.engine.vtable, l.engine.value)).knows l.engine.value (own ((goal.Engine-dyn g (l.engine.vtable, l.engine.value)).kind_of l.engine.value) now) ≡ true)
    × ((places : List Place) → (goal.Engine-dyn g (l.fn.engine.vtable, l.fn.engine.value)).posted l.fn.engine.value places → (goal.Engine-dyn g (l.engine.vtable, l.engine.value)).posted l.engine.value places)

abbrev pub decreases-loop-x : goal.decreases-loop-x
decreases-loop-x g l = deque_len l.items
