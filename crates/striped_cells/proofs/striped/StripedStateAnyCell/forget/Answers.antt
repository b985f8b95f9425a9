use Rattle.std.proofs.Common.{◌≡◌, length, refl, sym, ap, ◌∙◌, arith}
use Rattle.std.specs.Prelude.{slice_get}
use Rattle.striped_cells.specs.Pursuits.{Pursuit}
use Rattle.striped_cells.specs.Striped.{Striped}
use Rattle.striped_cells.proofs.Notes.{there}
use Rattle.striped_cells.proofs.Calling.{there_in, inner_in, ticket_in}
use Rattle.striped_cells.proofs.Coming.{forgot_inner}
use Rattle.striped_cells.proofs.striped.StripedStateAnyCell.forget.Goals as goal

pub index_mut-requires : goal.index_mut-requires
index_mut-requires g c =
    let mine = ap (λ (p : Pursuit). p.inner) (sym c.operation.view_is) ∙ c.in-Some-inner.is in
    let low = inner_in g.C.AnyCell.ways c.args.self.now c.requires c.args.ticket c.in-Some.operation.now c.in-Some-inner.inner (sym c.in-Some.ensures) mine in
    let l = ap (λ (s : Striped g.row.C.Denot). length s.stripes) c.self.view_is in
    omega (arith, low, l)

pub forget-requires : goal.forget-requires
forget-requires g c =
    let mine = ap (λ (p : Pursuit). p.inner) (sym c.operation.view_is) ∙ c.in-Some-inner.is in
    let low = inner_in g.C.AnyCell.ways c.args.self.now c.requires c.args.ticket c.in-Some.operation.now c.in-Some-inner.inner (sym c.in-Some.ensures) mine in
    let e = ap (λ (s : Striped g.row.C.Denot). s.stripes) c.self.view_is in
    c.requires.stripes c.in-Some-inner.inner.stripe c.index_mut.result.now (there_in c.self.inside.stripes.items c.args.self.now.stripes c.in-Some-inner.inner.stripe c.in-Some-inner.inner.stripe c.index_mut.result.now e refl low c.index_mut.ensures.value)

pub close-requires : goal.close-requires
close-requires g c =
    let low = ticket_in g.C.AnyCell.ways c.args.self.now c.requires c.args.ticket c.in-Some.operation.now (sym c.in-Some.ensures) in
    let l = ap (λ (s : Striped g.row.C.Denot). length s.operations) c.self.view_is in
    omega (arith, low, l)

pub returns-in-Some-inner : goal.returns-in-Some-inner
returns-in-Some-inner g c =
    let mine = ap (λ (p : Pursuit). p.inner) (sym c.operation.view_is) ∙ c.in-Some-inner.is in
    let low = inner_in g.C.AnyCell.ways c.args.self.now c.requires c.args.ticket c.in-Some.operation.now c.in-Some-inner.inner (sym c.in-Some.ensures) mine in
    let e = ap (λ (s : Striped g.row.C.Denot). s.stripes) c.self.view_is in
    let here = there_in c.self.inside.stripes.items c.args.self.now.stripes c.in-Some-inner.inner.stripe c.in-Some-inner.inner.stripe c.index_mut.result.now e refl low c.index_mut.ensures.value in
    let gone : c.forget.new.self ≡ g.C.AnyCell.ways.forget c.index_mut.result.now c.in-Some-inner.inner.ticket = c.in_ok-forget.ensures in
    let home = ap (λ (s : Striped g.row.C.Denot). slice_get s.operations c.args.ticket) c.self.view_is ∙ (there c.args.self.now.operations c.args.ticket c.in-Some.operation.now (sym c.in-Some.ensures)).is in
    forgot_inner g.C.AnyCell.ways c.args.self.now c.args.ticket c.in-Some.operation.now (sym c.in-Some.ensures) _ c.close.new.self c.in-Some-inner.inner c.index_mut.result.now c.forget.new.self c.self.view_is mine here gone (c.close.ensures c.in-Some.operation.now home)

pub close-requires-2 : goal.close-requires-2
close-requires-2 g c = ticket_in g.C.AnyCell.ways c.args.self.now c.requires c.args.ticket c.in-Some.operation.now (sym c.in-Some.ensures)
