use Rattle.std.proofs.Common.{ap}
use Rattle.replica_api.specs.Replica.{ReplicaView}
use Rattle.base_engine.specs.Settling.{view_of}
use Rattle.base_engine.specs.Node.{NodeView}
use Rattle.base_engine.proofs.Whole.{ok_waiting}
use Rattle.base_engine.proofs.Following.{follows_rest, known_rest}
use Rattle.base_engine.proofs.node.Node.flush.Goals as goal

pub invariant_of-self : goal.invariant_of-self
invariant_of-self g c =
    let p = g.L.Law.Rules in
    let t = g.L.SharedLog in
    let r = g.R.Replica in
    let x = c.self.inside in
    let old : NodeView = record { who = t.who x.log; nodes = x.nodes; seen = t.seen x.log; known = t.reaches x.log; replica = r.shows x.replica; outbox = view_of x.outbox } in
    let new : NodeView = record { who = t.who c.flush.new.log; nodes = x.nodes; seen = t.seen c.flush.new.log; known = t.reaches c.flush.new.log; replica = r.shows c.flush.new.replica; outbox = view_of c.flush.new.outbox } in
    let e = c.flush.ensures in
    let i = c.self.invariant in
    ok_waiting p.law t.holds r.meaning old new i.eight e.later.legal (follows_rest p.law t.holds r.meaning g.met.L.SharedLog.stays old.seen new.seen old.replica new.replica e.later e.rest i.follows)
    (known_rest old.known new.known old.replica new.replica e.known e.rest i.bounded) e.may e.few e.who (ap (λ (v : ReplicaView). v.origin) e.rest) e.waiting
