use Rattle.std.proofs.Common.{◌≡◌, List, length, sym, ap, ◌∙◌, arith, subst}
use Rattle.std.specs.Prelude.{slice_get}
use Rattle.std.proofs.lemmas.Bool.{false≢true}
use Rattle.striped_loglet.specs.declared.pending.Course.{Course}
use Rattle.striped_loglet.specs.Plans.{target_of, IsUnspoken}
use Rattle.striped_cells.specs.Striped.{Striped}
use Rattle.striped_cells.proofs.Calling.{few, size_few, next_few, target_few, stands}
use Rattle.striped_cells.proofs.Coming.{spoken, asked_whole}
use Rattle.striped_loglet.proofs.Lists.{within}
use Rattle.striped_cells.proofs.Notes.{there}
use Rattle.striped_cells.proofs.Striping.{waiting}
use Rattle.striped_cells.proofs.striped.StripedState.ask.Goals as goal

pub op_of-op-requires-clause-stripe : goal.op_of-op-requires-clause-stripe
op_of-op-requires-clause-stripe g c =
    let m : c.len-count.result ≡ length c.args.self.now.stripes = (let k = c.len-count.ensures in let l = ap (λ (s : Striped g.row.C.Denot). length s.stripes) c.self.view_is in omega (arith, k, l)) in
    let low = target_few g.C.AnyCell.ways c.args.self.now c.requires c.args.ticket c.in-Some.operation.now (sym c.in-Some.ensures) (sym c.if-not-is_waiting.ensures) in
    let t = c.target-stripe.ensures ∙ (ap (λ (z : Course). target_of z.asked.task c.len-count.result z.plan) c.course.ensures ∙ ap (λ n. target_of c.in-Some.operation.now.asked.task n c.in-Some.operation.now.plan) m) in
    omega (arith, low, t, m)

pub op_of-op-requires-clause-size : goal.op_of-op-requires-clause-size
op_of-op-requires-clause-size g c =
    let l = size_few g.C.AnyCell.ways c.args.self.now c.requires c.args.ticket c.in-Some.operation.now (sym c.in-Some.ensures) in
    let e = ap (λ (z : Course). z.asked.size) c.course.ensures in
    omega (arith, l, e)

pub begin_on-requires-clause-here : goal.begin_on-requires-clause-here
begin_on-requires-clause-here g c =
    let m : c.len-count.result ≡ length c.args.self.now.stripes = (let k = c.len-count.ensures in let l = ap (λ (s : Striped g.row.C.Denot). length s.stripes) c.self.view_is in omega (arith, k, l)) in
    let low = target_few g.C.AnyCell.ways c.args.self.now c.requires c.args.ticket c.in-Some.operation.now (sym c.in-Some.ensures) (sym c.if-not-is_waiting.ensures) in
    let t = c.target-stripe.ensures ∙ (ap (λ (z : Course). target_of z.asked.task c.len-count.result z.plan) c.course.ensures ∙ ap (λ n. target_of c.in-Some.operation.now.asked.task n c.in-Some.operation.now.plan) m) in
    let k = c.len-count.ensures in
    omega (arith, low, t, m, k)

pub behind-requires : goal.behind-requires
behind-requires g c =
    let none = waiting c.in-Some.operation.now (sym c.if-not-is_waiting.ensures) in
    let l = next_few g.C.AnyCell.ways c.args.self.now c.requires c.args.ticket c.in-Some.operation.now (sym c.in-Some.ensures) none.1 in
    let k = few g.C.AnyCell.ways c.args.self.now c.requires in
    let e = ap (λ (z : Course). z.plan.next) c.course.ensures in
    omega (arith, l, k, e)

pub go_on-requires-2 : goal.go_on-requires-2
go_on-requires-2 g c =
    let is = (there c.args.self.now.operations c.args.ticket c.in-Some.operation.now (sym c.in-Some.ensures)).is in
    let low = within c.args.self.now.operations c.args.ticket c.in-Some.operation.now is in
    let l = ap (λ (s : Striped g.row.C.Denot). length s.operations) c.self.view_is in
    omega (arith, low, l)

pub returns : goal.returns
returns g c =
    let k = g.C.AnyCell.ways in
    let p = c.in-Some.operation.now in
    let at = sym c.in-Some.ensures in
    let waits = sym c.if-not-is_waiting.ensures in
    let e = ap (λ (s : Striped g.row.C.Denot). s.stripes) c.self.view_is in
    let m : c.len-count.result ≡ length c.args.self.now.stripes = (let n = c.len-count.ensures in let l = ap (λ (xs : List g.row.C.Denot). length xs) e in omega (arith, n, l)) in
    let low = target_few k c.args.self.now c.requires c.args.ticket p at waits in
    let target = c.target-stripe.ensures ∙ (ap (λ (z : Course). target_of z.asked.task c.len-count.result z.plan) c.course.ensures ∙ ap (λ n. target_of p.asked.task n p.plan) m) in
    let count = c.len-count.ensures in
    let x = stands c.self.inside.stripes.items c.target-stripe.result (omega (arith, low, target, m, count)) in
    let here = ap (λ (xs : List g.row.C.Denot). slice_get xs c.target-stripe.result) (sym e) ∙ x.1 in
    let home = ap (λ (s : Striped g.row.C.Denot). slice_get s.operations c.args.ticket) c.self.view_is ∙ (there c.args.self.now.operations c.args.ticket c.in-Some.operation.now at).is in
    let began = c.in_ok-inner.ensures x.0 x.1 in
    let said = spoken p (λ h. false≢true (c.if-is_unspoken.ensures.1 (subst (λ (z : Course). IsUnspoken z.asked.task z.asked.firm) (sym c.course.ensures) h))) in
    asked_whole k c.args.self.now c.args.ticket p at _ c.go_on-2.new.self x.0 c.op_of-op.result c.in_ok-inner.inner c.course.result c.behind.result c.len-count.result c.target-stripe.result _ c.self.view_is waits said here c.course.ensures m c.target-stripe.ensures c.op_of-op.ensures c.behind.ensures began.0 began.1 (c.go_on-2.ensures p home)
