use Rattle.std.proofs.Common.{sym}
use Rattle.striped_loglet.proofs.Fresh.{are_fresh, fresh_striped, fresh_view, fresh_room, fresh_rounds}
use Rattle.striped_loglet.proofs.striped.StripedLoglet.new.Goals as goal

pub invariant_of-result : goal.invariant_of-result
invariant_of-result g c =
    let view = g.L.Loglet.view in
    let xs = c.args.inner.items in
    let q = c.requires in
    (rw c.new.ensures (fresh_striped view c.shape_of.result xs c.new-2.result (are_fresh view xs q.count q.fresh q.sound q.servers q.room q.small) (rw c.as_slice.ensures.value at c.shape_of.ensures.shape) c.new-2.ensures.empty), sym (rw c.as_slice.ensures.value at c.shape_of.ensures.each))

pub returns-clause-fresh : goal.returns-clause-fresh
returns-clause-fresh g c =
    let view = g.L.Loglet.view in
    let xs = c.args.inner.items in
    let q = c.requires in
    rw c.new.ensures (fresh_view view c.shape_of.result xs c.new-2.result (are_fresh view xs q.count q.fresh q.sound q.servers q.room q.small))

pub returns-clause-room : goal.returns-clause-room
returns-clause-room g c =
    let view = g.L.Loglet.view in
    let xs = c.args.inner.items in
    let q = c.requires in
    fresh_room view c.shape_of.result xs (are_fresh view xs q.count q.fresh q.sound q.servers q.room q.small) (rw c.as_slice.ensures.value at c.shape_of.ensures.shape)

pub returns-clause-rounds : goal.returns-clause-rounds
returns-clause-rounds g c = fresh_rounds g.L.Loglet.view c.shape_of.result c.args.inner.items (rw c.as_slice.ensures.value at c.shape_of.ensures.shape)
