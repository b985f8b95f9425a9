use Rattle.std.proofs.Common.{subst, OnOk, IfErr}
use Rattle.base_engine.specs.Settling.{view_of}
use Rattle.base_engine.specs.Node.{NodeView}
use Rattle.base_engine.specs.Proposing.{Proposed}
use Rattle.base_engine.specs.Arming.{StoreTwice}
use Rattle.base_engine.proofs.Whole.{ok_waiting}
use Rattle.base_engine.proofs.node.Node.propose.Goals as goal

pub invariant_of-self : goal.invariant_of-self
invariant_of-self g c =
    let p = g.L.Law.Rules in
    let t = g.L.SharedLog in
    let r = g.R.Replica in
    let x = c.self.inside in
    let old : NodeView = record { who = t.who x.log; nodes = x.nodes; seen = t.seen x.log; known = t.reaches x.log; replica = r.shows x.replica; outbox = view_of x.outbox } in
    let new : NodeView = record { who = t.who c.propose.new.log; nodes = x.nodes; seen = t.seen c.propose.new.log; known = t.reaches c.propose.new.log; replica = r.shows c.propose.new.replica; outbox = view_of c.propose.new.outbox } in
    let e = c.propose.ensures in
    ok_waiting p.law t.holds r.meaning old new c.self.invariant.eight e.later.legal e.follows e.bounded e.may e.few e.who e.origin e.waiting

pub returns-clause-proposed : goal.returns-clause-proposed
returns-clause-proposed g c =
    let t = g.L.SharedLog in
    let r = g.R.Replica in
    subst
    (λ (n : NodeView). OnOk c.propose.result (Proposed t.holds n.who n.seen n.outbox n.replica c.args.item (t.seen c.propose.new.log) (view_of c.propose.new.outbox) (r.shows c.propose.new.replica)))
    c.self.view_is c.propose.ensures.proposed

pub returns-clause-twice : goal.returns-clause-twice
returns-clause-twice g c =
    subst (λ (n : NodeView). IfErr c.propose.result (λ f. StoreTwice n.replica f (g.R.Replica.shows c.propose.new.replica))) c.self.view_is c.propose.ensures.twice
