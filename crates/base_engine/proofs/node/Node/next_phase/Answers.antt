use Rattle.std.proofs.Common.{refl}
use Rattle.base_engine.specs.Settling.{view_of}
use Rattle.base_engine.specs.Node.{NodeView}
use Rattle.base_engine.proofs.Whole.{ok_same}
use Rattle.base_engine.proofs.node.Node.next_phase.Goals as goal

pub invariant_of-self : goal.invariant_of-self
invariant_of-self g c =
    let p = g.L.Law.Rules in
    let t = g.L.SharedLog in
    let r = g.R.Replica in
    let x = c.self.inside in
    let old : NodeView = record { who = t.who x.log; nodes = x.nodes; seen = t.seen x.log; known = t.reaches x.log; replica = r.shows x.replica; outbox = view_of x.outbox } in
    let new : NodeView = record { who = t.who x.log; nodes = x.nodes; seen = t.seen x.log; known = t.reaches x.log; replica = r.shows x.replica; outbox = record { entries = x.outbox.entries.items; given = c.clear.new.self.items; unsettled = x.outbox.unsettled } } in
    let i = c.self.invariant in
    ok_same p.law t.holds r.meaning old new i i.legal refl i.follows i.bounded refl refl refl refl
