use Rattle.std.proofs.Common.{◌≡◌, length, refl, arith}
use Rattle.striped_loglet.proofs.Bridge.{open_there, next_whole, rounds_whole, left_whole}
use Rattle.striped_loglet.proofs.striped.StripedLogletLoglet.left.Goals as goal

pub index-requires : goal.index-requires
index-requires g c =
    let i = c.self.inside in
    rw c.number.ensures (open_there g.L.Loglet.view g.L.Loglet.serving i.shape i.stripes.items i.marks i.pending _ c.args.ticket c.self.view_is c.self.invariant.0 c.requires)

pub left-requires-clause-next : goal.left-requires-clause-next
left-requires-clause-next g c none =
    let i = c.self.inside in
    let l = next_whole g.L.Loglet.view i.shape i.stripes.items i.marks i.pending c.number.result c.index.result.now c.self.invariant.0 c.index.ensures none in
    let e = c.len-count.ensures in
    omega (arith, l, e)

pub left-requires-clause-small : goal.left-requires-clause-small
left-requires-clause-small g c none =
    let i = c.self.inside in
    rounds_whole g.L.Loglet.view i.shape i.stripes.items i.marks i.pending c.number.result c.index.result.now c.self.invariant.0 c.index.ensures none c.index.result.now.inner refl

pub returns : goal.returns
returns g c =
    let i = c.self.inside in
    let e : c.len-count.result ≡ length i.stripes.items = (let k = c.len-count.ensures in omega (arith, k)) in
    left_whole g.L.Loglet.view g.L.Loglet.serving i.shape i.stripes.items i.marks i.pending _ c.args.ticket c.index.result.now _ _ c.len-count.result c.self.view_is c.self.invariant.0 (rw c.number.ensures at c.index.ensures) e c.left.ensures
