use Rattle.std.proofs.Common.{refl}
use Rattle.base_engine.specs.Settling.{view_of}
use Rattle.base_engine.specs.Node.{NodeView}
use Rattle.base_engine.proofs.Whole.{ok_same}
use Rattle.base_engine.proofs.Following.{follows_later, known_more}
use Rattle.base_engine.proofs.node.Node.extend.Goals as goal

pub invariant_of-self : goal.invariant_of-self
invariant_of-self g c =
    let p = g.L.Law.Rules in
    let t = g.L.SharedLog in
    let r = g.R.Replica in
    let x = c.self.inside in
    let old : NodeView = record { who = t.who x.log; nodes = x.nodes; seen = t.seen x.log; known = t.reaches x.log; replica = r.shows x.replica; outbox = view_of x.outbox } in
    let new : NodeView = record { who = t.who c.extend.new.log; nodes = x.nodes; seen = t.seen c.extend.new.log; known = t.reaches c.extend.new.log; replica = r.shows x.replica; outbox = view_of x.outbox } in
    let e = c.extend.ensures in
    let i = c.self.invariant in
    ok_same p.law t.holds r.meaning old new i e.later.legal e.who
    (follows_later p.law t.holds r.meaning g.met.L.SharedLog.stays old.seen new.seen old.replica e.later i.follows) (known_more old.known new.known old.replica e.known i.bounded) refl refl refl refl

pub returns-clause-follows : goal.returns-clause-follows
returns-clause-follows g c =
    let p = g.L.Law.Rules in
    let t = g.L.SharedLog in
    let r = g.R.Replica in
    let x = c.self.inside in
    follows_later p.law t.holds r.meaning g.met.L.SharedLog.stays (t.seen x.log) (t.seen c.extend.new.log) (r.shows x.replica) c.extend.ensures.later c.self.invariant.follows
