use Rattle.std.proofs.Common.{refl, subst}
use Rattle.std.specs.Prelude.{IfOk}
use Rattle.base_engine.specs.Settling.{view_of}
use Rattle.base_engine.specs.Following.{EndsBy}
use Rattle.base_engine.specs.Node.{NodeView}
use Rattle.base_engine.proofs.Whole.{ok_same}
use Rattle.base_engine.proofs.node.Node.sync.Goals as goal

pub invariant_of-self : goal.invariant_of-self
invariant_of-self g c =
    let p = g.L.Law.Rules in
    let t = g.L.SharedLog in
    let r = g.R.Replica in
    let x = c.self.inside in
    let old : NodeView = record { who = t.who x.log; nodes = x.nodes; seen = t.seen x.log; known = t.reaches x.log; replica = r.shows x.replica; outbox = view_of x.outbox } in
    let new : NodeView = record { who = t.who c.sync.new.log; nodes = x.nodes; seen = t.seen c.sync.new.log; known = t.reaches c.sync.new.log; replica = r.shows c.sync.new.replica; outbox = view_of x.outbox } in
    let e = c.sync.ensures in
    ok_same p.law t.holds r.meaning old new c.self.invariant e.later.legal e.who e.follows e.bounded refl e.kept e.origin refl

pub returns-clause-exact : goal.returns-clause-exact
returns-clause-exact g c =
    subst (λ (v : NodeView). IfOk c.sync.result (λ tail. EndsBy v.who v.replica.cursor v.seen tail (g.L.SharedLog.seen c.sync.new.log))) c.self.view_is c.sync.ensures.exact
