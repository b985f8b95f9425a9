use Rattle.std.proofs.Common.{refl}
use Rattle.base_engine.specs.Settling.{view_of}
use Rattle.base_engine.specs.Node.{NodeView}
use Rattle.base_engine.proofs.Whole.{ok_same}
use Rattle.base_engine.proofs.node.Node.play.Goals as goal

pub invariant_of-self : goal.invariant_of-self
invariant_of-self g c =
    let p = g.L.Law.Rules in
    let t = g.L.SharedLog in
    let r = g.R.Replica in
    let x = c.self.inside in
    let old : NodeView = record { who = t.who x.log; nodes = x.nodes; seen = t.seen x.log; known = t.reaches x.log; replica = r.shows x.replica; outbox = view_of x.outbox } in
    let new : NodeView = record { who = t.who c.play.new.log; nodes = x.nodes; seen = t.seen c.play.new.log; known = t.reaches c.play.new.log; replica = r.shows c.play.new.replica; outbox = view_of x.outbox } in
    let e = c.play.ensures in
    ok_same p.law t.holds r.meaning old new c.self.invariant e.later.legal e.who e.follows e.bounded refl e.kept e.origin refl
