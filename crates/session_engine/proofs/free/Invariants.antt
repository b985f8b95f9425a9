-- What was freed so far, and what is still to be freed.
use Rattle.std.proofs.Common.{◌≡◌, ◌-◌, List}
use Rattle.delos_types.specs.declared.item.Item.{Item}
use Rattle.session_engine.proofs.free.Given as goal
use Rattle.session_engine.proofs.FreesSoFar.{FreedSoFar}

abbrev pub invariant-loop-last : goal.invariant-loop-last
invariant-loop-last g l =
    let now = goal.Space-dyn g l.space.now in
    let start = goal.Space-dyn g l.fn.space.now in
    ((freed : List Item) × FreedSoFar (start.contents l.fn.space.now.1) l.session l.rank l.fn.out freed (now.contents l.space.now.1) l.last l.out)
    × (now.beginning l.space.now.1 ≡ start.beginning l.fn.space.now.1)

abbrev pub decreases-loop-last : goal.decreases-loop-last
decreases-loop-last g l = 18446744073709551615 - l.last
