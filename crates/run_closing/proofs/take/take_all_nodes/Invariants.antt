use Rattle.std.proofs.Common.{◌≡◌, ◌≤◌, length}
use Rattle.run_closing.specs.Taking.{CrewTakes}
use Rattle.node_crew.specs.Arming.{NoneArmed}
use Rattle.run_closing.proofs.take.take_all_nodes.Given as goal

abbrev pub invariant-loop-k : goal.invariant-loop-k
invariant-loop-k g l = record {
  high : l.k ≤ length l.initial.crew.workers.items;
  size : length l.crew.workers.items ≡ length l.initial.crew.workers.items;
  journal : l.crew.fabric.journal ≡ l.initial.crew.fabric.journal;
  armed : NoneArmed (λ w. w.seat.node.replica) l.initial.crew.workers.items l.crew.workers.items;
  takes : CrewTakes g.K.Terms.law g.S.Replica.meaning l.lines l.faults l.most.node l.most.cursor l.k l.crew.fabric.journal l.crew.looks.items (λ w. w.seat) (λ w. w.desks.items) l.crew.workers.items;
}
