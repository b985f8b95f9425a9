use Rattle.std.proofs.Common.{◌≡◌, ◌≤◌, ◌+◌, ◌++◌, [], map, length}
use Rattle.std.specs.List.{AllByRecursion}
use Rattle.std.specs.Vec.{vec_capacity}
use Rattle.node_lines.specs.Workers.{Sends}
use Rattle.crew_making.specs.Fresh.{AreFreshFrom, AreFreshDesks, IsFreshLog, AreNewWorkers}
use Rattle.crew_making.proofs.make.seat_all.Given as goal

abbrev pub invariant-loop-k : goal.invariant-loop-k
invariant-loop-k g l = record {
  logs : AllByRecursion (λ b. IsFreshLog (length g.K.Terms.law.shelf) b.log) l.berths.items;
  desks : AllByRecursion (λ b. AreFreshDesks b.desks.items) l.berths.items;
  fresh : AreFreshFrom g.S.Replica.meaning (l.k + 1) (map (λ b. g.S.Replica.shows b.replica) l.berths.items);
  left : length l.berths.items + l.k ≡ l.nodes;
  done : length l.workers.items ≡ l.k;
  room : l.nodes ≤ vec_capacity l.workers;
  workers : AreNewWorkers (λ n. record g.K.Terms.law { may = Sends n g.K.Terms.law.may [] [] }) g.S.Replica.meaning l.nodes (λ w. w.seat) (λ w. w.desks.items) l.workers.items;
  same : map (λ w. w.seat.node.replica) l.workers.items ++ map (λ b. g.S.Replica.shows b.replica) l.berths.items ≡ map (λ b. g.S.Replica.shows b.replica) l.initial.berths.items;
}

abbrev pub ghosts-seat_within : goal.ghosts-seat_within
ghosts-seat_within g a = record { who = a.who; law = record g.K.Terms.law { may = Sends a.who g.K.Terms.law.may [] [] }; seals = λ _. ⊥; since = [] }
