use Rattle.std.proofs.Common.{◌≡◌, ◌≤◌, ◌^◌, length, Some, sym, ap, ◌∙◌, arith, subst}
use Rattle.loglet_api.specs.Step.{told_reach, told_firm, wanted_by}
use Rattle.striped_cells.specs.Pursuits.{Pursuit, answer_at}
use Rattle.striped_cells.specs.Striped.{Striped}
use Rattle.striped_cells.proofs.Calling.{size_few, given_small, ticket_in}
use Rattle.striped_cells.proofs.striped.StripedStateAnyCell.take.Goals as goal

pub wanted-length-requires : goal.wanted-length-requires
wanted-length-requires g c =
    let l = size_few g.C.AnyCell.ways c.args.self.now c.requires c.args.ticket c.in-Some.operation.now (sym c.in-Some.ensures) in
    let e = ap (λ (p : Pursuit). p.asked.size) c.operation.view_is in
    omega (arith, l, e)

pub told-self-inside-requires-clause-reach : goal.told-self-inside-requires-clause-reach
told-self-inside-requires-clause-reach g c =
    let told : answer_at c.self.inside.marks.cut (Some c.in-Some.operation.now) ≡ Some c.in-Some-2.answer = sym c.in_ok-answer.ensures ∙ c.in-Some-2.is in
    let is = ap (λ (s : Striped g.row.C.Denot). answer_at s.marks.cut (Some c.in-Some.operation.now)) (sym c.self.view_is) ∙ told in
    let l = given_small g.C.AnyCell.ways c.args.self.now c.requires c.args.ticket c.in-Some.operation.now c.in-Some-2.answer (sym c.in-Some.ensures) is in
    let w : c.wanted-length.result ≡ wanted_by c.in-Some.operation.now.asked.task c.in-Some.operation.now.asked.size = c.wanted-length.ensures ∙ ap (λ (p : Pursuit). wanted_by p.asked.task p.asked.size) c.operation.view_is in
    let here : told_reach c.wanted-length.result c.in-Some-2.answer ≤ 2 ^ 32 = subst (λ n. told_reach n c.in-Some-2.answer ≤ 2 ^ 32) (sym w) l.0 in
    omega (arith, here)

pub told-self-inside-requires-clause-firm : goal.told-self-inside-requires-clause-firm
told-self-inside-requires-clause-firm g c =
    let told : answer_at c.self.inside.marks.cut (Some c.in-Some.operation.now) ≡ Some c.in-Some-2.answer = sym c.in_ok-answer.ensures ∙ c.in-Some-2.is in
    let is = ap (λ (s : Striped g.row.C.Denot). answer_at s.marks.cut (Some c.in-Some.operation.now)) (sym c.self.view_is) ∙ told in
    let l = given_small g.C.AnyCell.ways c.args.self.now c.requires c.args.ticket c.in-Some.operation.now c.in-Some-2.answer (sym c.in-Some.ensures) is in
    let w : c.wanted-length.result ≡ wanted_by c.in-Some.operation.now.asked.task c.in-Some.operation.now.asked.size = c.wanted-length.ensures ∙ ap (λ (p : Pursuit). wanted_by p.asked.task p.asked.size) c.operation.view_is in
    let here : told_firm c.wanted-length.result c.in-Some-2.answer ≤ 2 ^ 32 = subst (λ n. told_firm n c.in-Some-2.answer ≤ 2 ^ 32) (sym w) l.1 in
    omega (arith, here)

pub close-requires : goal.close-requires
close-requires g c =
    let low = ticket_in g.C.AnyCell.ways c.args.self.now c.requires c.args.ticket c.in-Some.operation.now (sym c.in-Some.ensures) in
    let l = ap (λ (s : Striped g.row.C.Denot). length s.operations) c.self.view_is in
    omega (arith, low, l)
