use Rattle.std.proofs.Common.{◌≡◌, refl, ◌∙◌, subst, length, arith}
use Rattle.run_closing.specs.Taking.{CrewTakes}
use Rattle.run_closing.proofs.Taking.{takes_stand}
use Rattle.node_workers.proofs.Ok.{on_ok}
use Rattle.node_crew.proofs.Arming.{all_same, none_then}
use Rattle.run_closing.proofs.take.take_all_nodes.Goals as goal

pub loop-k-init : goal.loop-k-init
loop-k-init g c = record {
  high = omega arith;
  size = refl;
  journal = refl;
  armed = all_same (λ w. w.seat.node.replica) c.args.crew.workers.items;
  takes = c.requires.takes;
}

pub loop-k-preserved : goal.loop-k-preserved
loop-k-preserved g c =
    let l = c.loop-k in
    let q = c.take_node-now in
    record {
      high = omega (arith, c.loop-k-test.true);
      size = q.ensures.size ∙ l.invariant.size;
      journal = q.ensures.journal ∙ l.invariant.journal;
      armed = none_then (λ w. w.seat.node.replica) c.args.crew.workers.items l.crew.workers.items q.result.crew.workers.items l.invariant.armed q.ensures.armed;
      takes = on_ok _ c.in-Ok.is q.ensures.takes;
    }

pub returns-in-Err-clause-armed : goal.returns-in-Err-clause-armed
returns-in-Err-clause-armed g c =
    let l = c.loop-k in
    let q = c.take_node-now in
    none_then (λ w. w.seat.node.replica) c.args.crew.workers.items l.crew.workers.items q.result.crew.workers.items l.invariant.armed q.ensures.armed

pub returns-clause-takes : goal.returns-clause-takes
returns-clause-takes g c =
    let p = g.K.Terms in
    let r = g.S.Replica in
    let a = c.args in
    let l = c.loop-k in
    let over : l.k ≡ length l.crew.workers.items = omega (arith, l.invariant.high, l.invariant.size, c.loop-k-test.false) in
    subst (λ k. CrewTakes p.law r.meaning a.lines.now a.faults.now a.most.node a.most.cursor k l.crew.fabric.journal l.crew.looks.items (λ w. w.seat) (λ w. w.desks.items) l.crew.workers.items) over l.invariant.takes

pub returns-clause-stands : goal.returns-clause-stands
returns-clause-stands g c =
    let p = g.K.Terms in
    let r = g.S.Replica in
    let a = c.args in
    let l = c.loop-k in
    takes_stand p.law r.meaning a.lines.now a.faults.now (λ w. w.seat) (λ w. w.desks.items) l.crew.workers.items l.crew.fabric.journal l.crew.looks.items a.most.node a.most.cursor l.k l.invariant.takes
