use Rattle.std.proofs.Common.{◌≡◌}
use Rattle.std.specs.Vec.{vec_capacity}
use Rattle.crew_making.specs.Fresh.{AreDesksUpTo}
use Rattle.crew_making.proofs.berth.new_desks.Given as goal

abbrev pub invariant-loop-number : goal.invariant-loop-number
invariant-loop-number l = record {
  so_far : AreDesksUpTo l.number l.desks.items;
  room : vec_capacity l.desks ≡ 64;
}
