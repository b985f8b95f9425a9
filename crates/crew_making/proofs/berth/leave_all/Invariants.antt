use Rattle.std.proofs.Common.{◌≡◌, ◌≤◌, ◌+◌, ◌++◌, map, length}
use Rattle.std.specs.List.{AllByRecursion}
use Rattle.std.specs.Vec.{vec_capacity}
use Rattle.crew_making.specs.Fresh.{IsFreshLog}
use Rattle.crew_making.proofs.berth.leave_all.Given as goal

abbrev pub invariant-loop-berths : goal.invariant-loop-berths
invariant-loop-berths g l = record {
  logs : AllByRecursion (λ b. IsFreshLog (length g.K.Terms.law.shelf) b.log) l.berths.items;
  room : length l.berths.items + length l.nodes.items ≤ vec_capacity l.nodes;
  kept : vec_capacity l.initial.nodes ≤ vec_capacity l.nodes;
  same : map (λ b. b.replica) l.berths.items ++ map (λ n. n.replica) l.nodes.items ≡ map (λ b. b.replica) l.initial.berths.items ++ map (λ n. n.replica) l.initial.nodes.items;
}

abbrev pub decreases-loop-berths : goal.decreases-loop-berths
decreases-loop-berths g l = length l.berths.items
