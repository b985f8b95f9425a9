use Rattle.std.proofs.Common.{◌<◌, length, arith, refl, sym, ap, subst}
use Rattle.std.specs.Prelude.{IfSome}
use Rattle.striped_cells.specs.Striped.{Striped}
use Rattle.striped_cells.proofs.Calling.{next_few, rounds_small}
use Rattle.striped_cells.proofs.striped.StripedStateAnyCell.left.Goals as goal

pub left-requires-clause-next : goal.left-requires-clause-next
left-requires-clause-next g c none =
    let l = next_few g.C.AnyCell.ways c.args.self.now c.requires c.args.ticket c.in-Some.operation.now (sym c.in-Some.ensures) none in
    let e = c.len-count.ensures in
    let m = ap (λ (s : Striped g.row.C.Denot). length s.stripes) c.self.view_is in
    omega (arith, l, e, m)

pub left-requires-clause-small : goal.left-requires-clause-small
left-requires-clause-small g c none =
    subst (λ n. IfSome c.in-Some.operation.now.inner (λ x. x.rounds < n)) (sym (ap (λ (s : Striped g.row.C.Denot). s.shape.turn) c.self.view_is))
    (rounds_small g.C.AnyCell.ways c.args.self.now c.requires c.args.ticket c.in-Some.operation.now (sym c.in-Some.ensures) none c.in-Some.operation.now.inner refl)
