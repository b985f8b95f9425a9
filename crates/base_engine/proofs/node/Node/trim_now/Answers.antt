use Rattle.std.proofs.Common.{subst}
use Rattle.std.specs.Prelude.{IfOk}
use Rattle.base_engine.specs.Settling.{view_of}
use Rattle.base_engine.specs.Node.{NodeView}
use Rattle.base_engine.specs.Trimming.{Trims}
use Rattle.base_engine.proofs.Whole.{ok_waiting}
use Rattle.base_engine.proofs.node.Node.trim_now.Goals as goal

pub invariant_of-self : goal.invariant_of-self
invariant_of-self g c =
    let p = g.L.Law.Rules in
    let t = g.L.SharedLog in
    let r = g.R.Replica in
    let x = c.self.inside in
    let old : NodeView = record { who = t.who x.log; nodes = x.nodes; seen = t.seen x.log; known = t.reaches x.log; replica = r.shows x.replica; outbox = view_of x.outbox } in
    let new : NodeView = record { who = t.who c.trim_now.new.log; nodes = x.nodes; seen = t.seen c.trim_now.new.log; known = t.reaches c.trim_now.new.log; replica = r.shows c.trim_now.new.replica; outbox = view_of c.trim_now.new.outbox } in
    let e = c.trim_now.ensures in
    ok_waiting p.law t.holds r.meaning old new c.self.invariant.eight e.later.legal e.follows e.bounded e.may e.few e.who e.origin e.waiting

pub returns-clause-trims : goal.returns-clause-trims
returns-clause-trims g c =
    let t = g.L.SharedLog in
    let r = g.R.Replica in
    subst
    (λ (n : NodeView). IfOk c.trim_now.result (Trims t.holds r.meaning.state n.nodes n.who n.replica.origin n.seen (t.seen c.trim_now.new.log) (r.shows c.trim_now.new.replica) (t.reaches c.trim_now.new.log)))
    c.self.view_is c.trim_now.ensures.trims
