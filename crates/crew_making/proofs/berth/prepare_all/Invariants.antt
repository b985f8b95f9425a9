use Rattle.std.proofs.Common.{◌≡◌, ◌≤◌, ◌+◌, ◌++◌, map, length}
use Rattle.std.specs.List.{AllByRecursion}
use Rattle.std.specs.Vec.{vec_capacity}
use Rattle.crew_making.specs.Fresh.{IsFreshLog, AreFreshDesks}
use Rattle.crew_making.proofs.berth.prepare_all.Given as goal

abbrev pub invariant-loop-k : goal.invariant-loop-k
invariant-loop-k g l = record {
  logs : AllByRecursion (λ b. IsFreshLog (length g.K.Terms.law.shelf) b.log) l.berths.items;
  desks : AllByRecursion (λ b. AreFreshDesks b.desks.items) l.berths.items;
  count : l.count ≡ length l.initial.nodes.items;
  done : length l.berths.items ≡ l.k;
  left : length l.nodes.items + l.k ≡ length l.initial.nodes.items;
  room : length l.initial.nodes.items ≤ vec_capacity l.nodes;
  berths_room : vec_capacity l.berths ≡ length l.initial.nodes.items;
  same : map (λ b. b.replica) l.berths.items ++ map (λ n. n.replica) l.nodes.items ≡ map (λ n. n.replica) l.initial.nodes.items;
}
