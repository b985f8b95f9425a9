use Rattle.std.proofs.Common.{◌≡◌, ◌≤◌, ◌+◌, ◌++◌, map, length}
use Rattle.std.specs.Vec.{vec_capacity}
use Rattle.node_crew.specs.Crews.{CrewStands}
use Rattle.crew_making.proofs.part.part_crew.Given as goal

abbrev pub invariant-loop-workers : goal.invariant-loop-workers
invariant-loop-workers g l = record {
  room : length l.workers.items + length l.nodes.items ≤ vec_capacity l.nodes;
  journal : l.fabric.journal ≡ l.fn.crew.fabric.journal;
  same : map (λ n. g.S.Replica.shows n.replica) l.nodes.items ++ map (λ w. w.seat.node.replica) l.workers.items ≡ map (λ w. w.seat.node.replica) l.initial.workers.items;
  stands : CrewStands g.K.Terms.law g.S.Replica.meaning l.fabric.journal (λ w. w.seat) l.workers.items;
}

abbrev pub decreases-loop-workers : goal.decreases-loop-workers
decreases-loop-workers g l = length l.workers.items

abbrev pub ghosts-part_within : goal.ghosts-part_within
ghosts-part_within g a = record { who = a.access.who; law = g.K.Terms.law; seals = λ _. ⊥; since = a.access.fabric.journal }
