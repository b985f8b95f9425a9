use Rattle.std.proofs.Common.{sym, subst}
use Rattle.replica_api.specs.Replica.{ReplicaView}
use Rattle.base_engine.specs.Settling.{view_of}
use Rattle.base_engine.specs.Node.{NodeView, NodeOk}
use Rattle.base_engine.proofs.Whole.{ok_armed}
use Rattle.base_engine.proofs.node.Node.stop.Goals as goal

pub invariant_of-self : goal.invariant_of-self
invariant_of-self g c =
    let p = g.L.Law.Rules in
    let t = g.L.SharedLog in
    let r = g.R.Replica in
    let x = c.self.inside in
    let old : NodeView = record { who = t.who x.log; nodes = x.nodes; seen = t.seen x.log; known = t.reaches x.log; replica = r.shows x.replica; outbox = view_of x.outbox } in
    subst (λ (v : ReplicaView). NodeOk p.law t.holds r.meaning (record old { replica = v })) (sym c.stop.ensures) (ok_armed p.law t.holds r.meaning old c.args.after c.self.invariant)
