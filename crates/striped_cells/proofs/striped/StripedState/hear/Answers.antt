use Rattle.std.proofs.Common.{◌≡◌, List, length, sym, ap, ◌∙◌, arith}
use Rattle.std.specs.Prelude.{slice_get}
use Rattle.std.proofs.lemmas.Option.{same_Some}
use Rattle.striped_loglet.specs.declared.pending.Course.{Course}
use Rattle.striped_cells.specs.Pursuits.{Pursuit}
use Rattle.striped_cells.specs.Striped.{Striped}
use Rattle.striped_cells.proofs.Notes.{there}
use Rattle.striped_cells.proofs.Striping.{is_none}
use Rattle.striped_cells.proofs.Calling.{there_in, few, inner_few, next_few, tail_small, ticket_in, stands}
use Rattle.striped_cells.proofs.Coming.{as_many, unheard_whole, heard_whole}
use Rattle.striped_cells.proofs.striped.StripedState.hear.Goals as goal

pub take_from-requires-clause-here : goal.take_from-requires-clause-here
take_from-requires-clause-here g c =
    let none = ap (λ (p : Pursuit). p.answer) (sym c.operation.view_is) ∙ is_none c.operation.inside.answer (sym c.if-is_some.ensures) in
    let mine = ap (λ (p : Pursuit). p.inner) (sym c.operation.view_is) ∙ c.in-Some-inner.is in
    let low = inner_few g.C.AnyCell.ways c.args.self.now c.requires c.args.ticket c.in-Some.operation.now c.in-Some-inner.inner (sym c.in-Some.ensures) none mine in
    let l = ap (λ (s : Striped g.row.C.Denot). length s.stripes) c.self.view_is in
    omega (arith, low, l)

pub returns-in_default-2 : goal.returns-in_default-2
returns-in_default-2 g c =
    let none = ap (λ (p : Pursuit). p.answer) (sym c.operation.view_is) ∙ is_none c.operation.inside.answer (sym c.if-is_some.ensures) in
    let mine = ap (λ (p : Pursuit). p.inner) (sym c.operation.view_is) ∙ c.in-Some-inner.is in
    let low = inner_few g.C.AnyCell.ways c.args.self.now c.requires c.args.ticket c.in-Some.operation.now c.in-Some-inner.inner (sym c.in-Some.ensures) none mine in
    let e = ap (λ (s : Striped g.row.C.Denot). s.stripes) c.self.view_is in
    let x = stands c.args.self.now.stripes c.in-Some-inner.inner.stripe low in
    let took = c.in_ok-answer.ensures x.0 (ap (λ (xs : List g.row.C.Denot). slice_get xs c.in-Some-inner.inner.stripe) e ∙ x.1) in
    unheard_whole g.C.AnyCell.ways c.args.self.now c.args.ticket c.in-Some.operation.now (sym c.in-Some.ensures) _ c.in-Some-inner.inner x.0 _ _ c.self.view_is none mine x.1 took.0 c.in_default-2.is took.1

pub heard-heard-requires-clause-stripe : goal.heard-heard-requires-clause-stripe
heard-heard-requires-clause-stripe g c =
    let none = ap (λ (p : Pursuit). p.answer) (sym c.operation.view_is) ∙ is_none c.operation.inside.answer (sym c.if-is_some.ensures) in
    let mine = ap (λ (p : Pursuit). p.inner) (sym c.operation.view_is) ∙ c.in-Some-inner.is in
    let low = inner_few g.C.AnyCell.ways c.args.self.now c.requires c.args.ticket c.in-Some.operation.now c.in-Some-inner.inner (sym c.in-Some.ensures) none mine in
    let e = ap (λ (s : Striped g.row.C.Denot). s.stripes) c.self.view_is in
    let x = stands c.args.self.now.stripes c.in-Some-inner.inner.stripe low in
    let took = c.in_ok-answer.ensures x.0 (ap (λ (xs : List g.row.C.Denot). slice_get xs c.in-Some-inner.inner.stripe) e ∙ x.1) in
    let many = as_many _ _ _ _ took.1 ∙ ap (λ (xs : List g.row.C.Denot). length xs) e in
    let m = c.len-count.ensures in
    omega (arith, low, many, m)

pub heard-heard-requires-clause-count : goal.heard-heard-requires-clause-count
heard-heard-requires-clause-count g c =
    let none = ap (λ (p : Pursuit). p.answer) (sym c.operation.view_is) ∙ is_none c.operation.inside.answer (sym c.if-is_some.ensures) in
    let mine = ap (λ (p : Pursuit). p.inner) (sym c.operation.view_is) ∙ c.in-Some-inner.is in
    let low = inner_few g.C.AnyCell.ways c.args.self.now c.requires c.args.ticket c.in-Some.operation.now c.in-Some-inner.inner (sym c.in-Some.ensures) none mine in
    let e = ap (λ (s : Striped g.row.C.Denot). s.stripes) c.self.view_is in
    let x = stands c.args.self.now.stripes c.in-Some-inner.inner.stripe low in
    let took = c.in_ok-answer.ensures x.0 (ap (λ (xs : List g.row.C.Denot). slice_get xs c.in-Some-inner.inner.stripe) e ∙ x.1) in
    let many = as_many _ _ _ _ took.1 ∙ ap (λ (xs : List g.row.C.Denot). length xs) e in
    let m = c.len-count.ensures in
    let n = few g.C.AnyCell.ways c.args.self.now c.requires in
    omega (arith, low, many, m, n)

pub heard-heard-requires-clause-next : goal.heard-heard-requires-clause-next
heard-heard-requires-clause-next g c =
    let none = ap (λ (p : Pursuit). p.answer) (sym c.operation.view_is) ∙ is_none c.operation.inside.answer (sym c.if-is_some.ensures) in
    let l = next_few g.C.AnyCell.ways c.args.self.now c.requires c.args.ticket c.in-Some.operation.now (sym c.in-Some.ensures) none in
    let n = few g.C.AnyCell.ways c.args.self.now c.requires in
    let e = ap (λ (z : Course). z.plan.next) c.course.ensures in
    omega (arith, l, n, e)

pub heard-heard-requires-clause-tail : goal.heard-heard-requires-clause-tail
heard-heard-requires-clause-tail g c =
    let none = ap (λ (p : Pursuit). p.answer) (sym c.operation.view_is) ∙ is_none c.operation.inside.answer (sym c.if-is_some.ensures) in
    let mine = ap (λ (p : Pursuit). p.inner) (sym c.operation.view_is) ∙ c.in-Some-inner.is in
    let low = inner_few g.C.AnyCell.ways c.args.self.now c.requires c.args.ticket c.in-Some.operation.now c.in-Some-inner.inner (sym c.in-Some.ensures) none mine in
    let e = ap (λ (s : Striped g.row.C.Denot). s.stripes) c.self.view_is in
    let x = stands c.args.self.now.stripes c.in-Some-inner.inner.stripe low in
    let took = c.in_ok-answer.ensures x.0 (ap (λ (xs : List g.row.C.Denot). slice_get xs c.in-Some-inner.inner.stripe) e ∙ x.1) in
    tail_small g.C.AnyCell.ways c.requires.kind x.0 c.in-Some-inner.inner.ticket c.in-Some-2.answer (c.requires.stripes c.in-Some-inner.inner.stripe x.0 x.1) (sym took.0 ∙ c.in-Some-2.is)

pub index_mut-requires : goal.index_mut-requires
index_mut-requires g c =
    let low = ticket_in g.C.AnyCell.ways c.args.self.now c.requires c.args.ticket c.in-Some.operation.now (sym c.in-Some.ensures) in
    let l = ap (λ (s : Striped g.row.C.Denot). length s.operations) c.self.view_is in
    let n = c.number.ensures in
    omega (arith, low, l, n)

pub returns : goal.returns
returns g c =
    let none = ap (λ (p : Pursuit). p.answer) (sym c.operation.view_is) ∙ is_none c.operation.inside.answer (sym c.if-is_some.ensures) in
    let mine = ap (λ (p : Pursuit). p.inner) (sym c.operation.view_is) ∙ c.in-Some-inner.is in
    let low = inner_few g.C.AnyCell.ways c.args.self.now c.requires c.args.ticket c.in-Some.operation.now c.in-Some-inner.inner (sym c.in-Some.ensures) none mine in
    let e = ap (λ (s : Striped g.row.C.Denot). s.stripes) c.self.view_is in
    let x = stands c.args.self.now.stripes c.in-Some-inner.inner.stripe low in
    let took = c.in_ok-answer.ensures x.0 (ap (λ (xs : List g.row.C.Denot). slice_get xs c.in-Some-inner.inner.stripe) e ∙ x.1) in
    let many = as_many _ _ _ _ took.1 ∙ ap (λ (xs : List g.row.C.Denot). length xs) e in
    let m : c.len-count.result ≡ length c.args.self.now.stripes = (let n = c.len-count.ensures in omega (arith, n, many)) in
    let home = (there c.args.self.now.operations c.args.ticket c.in-Some.operation.now (sym c.in-Some.ensures)).is in
    let few_in = ticket_in g.C.AnyCell.ways c.args.self.now c.requires c.args.ticket c.in-Some.operation.now (sym c.in-Some.ensures) in
    let o = ap (λ (s : Striped g.row.C.Denot). s.operations) c.self.view_is in
    let found : c.index_mut.result.now ≡ c.in-Some.operation.now = same_Some _ _ (sym (there_in _ c.args.self.now.operations c.number.result c.args.ticket c.index_mut.result.now o c.number.ensures few_in c.index_mut.ensures.value) ∙ home) in
    heard_whole g.C.AnyCell.ways c.args.self.now c.args.ticket c.in-Some.operation.now (sym c.in-Some.ensures) _ c.in-Some-inner.inner x.0 _ _ c.in-Some-2.answer c.heard-heard.result c.len-count.result c.number.result c.index_mut.result.now c.hear.new.self c.course.result c.self.view_is none mine x.1 took.0 c.in-Some-2.is took.1 c.course.ensures m c.heard-heard.ensures c.number.ensures found c.hear.ensures
