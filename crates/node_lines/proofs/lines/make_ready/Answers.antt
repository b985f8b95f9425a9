use Rattle.std.proofs.Common.{◌≡◌, ◌≤◌, ◌+◌, refl, ◌∙◌, [], inl, length, arith}
use Rattle.std.proofs.lemmas.Bool.Decides.{nat_tests}
use Rattle.node_lines.proofs.Moving.{moves-none}
use Rattle.node_lines.proofs.Sessions.{not_free}
use Rattle.node_lines.proofs.lines.make_ready.Goals as goal

pub returns-in-Some-clause-readies : goal.returns-in-Some-clause-readies
returns-in-Some-clause-readies g c =
    let p = g.T.Law.Rules in
    record {
      others = [];
      moves = moves-none p.law c.requires.floor c.args.node.now c.requires.legal;
      desk = refl;
      stops = inl (refl, refl);
      free = λ t. absurd (cc);
      held = λ t. not_free p.law c.requires.floor c.args.node.now c.args.desk.now c.in-Some.field-0 c.in-Some.ensures.first;
    }

pub returns-then-desk-len-clause-readies : goal.returns-then-desk-len-clause-readies
returns-then-desk-len-clause-readies g c =
    let p = g.T.Law.Rules in
    let d = c.args.desk.now in
    let k : c.len.result ≡ length d.answers.items = c.len.ensures ∙ d.answers.ok.0 in
    let near : d.sent + 1 ≤ length d.answers.items + 64 = grind (arith, nat_tests, c.if-desk-len.true, k) in
    record {
      others = [];
      moves = moves-none p.law c.requires.floor c.args.node.now c.requires.legal;
      desk = refl;
      stops = inl (refl, refl);
      free = λ t. ((c.in-None.ensures.stopped refl, c.in-None.ensures.given refl), near);
      held = λ t. absurd (cc);
    }
