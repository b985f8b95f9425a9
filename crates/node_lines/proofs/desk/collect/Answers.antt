use Rattle.std.proofs.Common.{◌≡◌, ◌∙◌, ◌++◌, ◌+◌, ◌∷◌, [], ap, sym, subst, length, arith, Some, None}
use Rattle.engine_steps.specs.Layout.{reply_of}
use Rattle.node_lines.specs.declared.desk.Desk.{Desk}
use Rattle.node_lines.specs.Answered.{AreAnswers, AreAllAnswers, InFront}
use Rattle.node_lines.proofs.Catching.{acted_sent}
use Rattle.node_lines.proofs.Collecting.{in_front, one_more, no_more, length-snoc}
use Rattle.node_lines.proofs.desk.collect.Goals as goal

pub rank-smaller : goal.rank-smaller
rank-smaller g c =
    let p = g.T.Law.Rules in
    let n = c.args.node.now in
    let d = c.args.desk.now in
    let l = c.rank in
    let xs = l.desk.answers.items in
    let f = c.in_ok-kept.ensures.follows.now in
    let own = ap (λ (x : Desk). x.session) l.invariant.rest in
    let told : reply_of n.replica.contents d.session (length xs + 1) ≡ Some c.in-Some-2.kept =
    ap (λ s. reply_of n.replica.contents s (length xs + 1)) (sym own) ∙ ap (reply_of n.replica.contents l.desk.session) (sym (c.in-Some.ensures.value ∙ ap (λ k. k + 1) (c.len-count.ensures ∙ l.desk.answers.ok.0))) ∙ sym c.in_ok-kept.ensures.reply ∙ c.in-Some-2.is in
    let more = one_more f.log n.replica.contents d.session xs (g.met.R.Replica.state_is f.log n.replica.contents f.led) c.requires.session (l.invariant.acted f.log f.size f.front) c.in-Some-2.kept told in
    let bound = acted_sent p.law n.seen f.log d.session d.sent c.requires.legal f.front c.requires.sent in
    omega (arith, more.below, bound, length-snoc xs c.in-Some-2.kept, ap length c.in_ok-push-in-Some-2.ensures.items)

pub rank-preserved : goal.rank-preserved
rank-preserved g c =
    let p = g.T.Law.Rules in
    let n = c.args.node.now in
    let d = c.args.desk.now in
    let l = c.rank in
    let xs = l.desk.answers.items in
    let f = c.in_ok-kept.ensures.follows.now in
    let own = ap (λ (x : Desk). x.session) l.invariant.rest in
    let told : reply_of n.replica.contents d.session (length xs + 1) ≡ Some c.in-Some-2.kept =
    ap (λ s. reply_of n.replica.contents s (length xs + 1)) (sym own) ∙ ap (reply_of n.replica.contents l.desk.session) (sym (c.in-Some.ensures.value ∙ ap (λ k. k + 1) (c.len-count.ensures ∙ l.desk.answers.ok.0))) ∙ sym c.in_ok-kept.ensures.reply ∙ c.in-Some-2.is in
    let more = one_more f.log n.replica.contents d.session xs (g.met.R.Replica.state_is f.log n.replica.contents f.led) c.requires.session (l.invariant.acted f.log f.size f.front) c.in-Some-2.kept told in
    let items = c.in_ok-push-in-Some-2.ensures.items in
    record {
      rest = ap (λ (x : Desk). record x { answers = c.push.new.self }) l.invariant.rest;
      more = omega (arith, l.invariant.more, length-snoc xs c.in-Some-2.kept, ap length items);
      acted = subst (λ ys. InFront n.seen n.replica.cursor (λ log. AreAnswers log d.session ys)) (sym items)
          (in_front p.law n.seen n.replica.cursor (λ log. AreAnswers log d.session (xs ++ c.in-Some-2.kept ∷ [])) f.log c.requires.legal f.size f.front more);
    }

pub returns-in-None-clause-acted : goal.returns-in-None-clause-acted
returns-in-None-clause-acted g c =
    let p = g.T.Law.Rules in
    let n = c.args.node.now in
    let d = c.args.desk.now in
    let l = c.rank in
    let xs = l.desk.answers.items in
    let f = c.in_ok-kept.ensures.follows.now in
    let own = ap (λ (x : Desk). x.session) l.invariant.rest in
    let told : reply_of n.replica.contents d.session (length xs + 1) ≡ None =
    ap (λ s. reply_of n.replica.contents s (length xs + 1)) (sym own) ∙ ap (reply_of n.replica.contents l.desk.session) (sym (c.in-Some.ensures.value ∙ ap (λ k. k + 1) (c.len-count.ensures ∙ l.desk.answers.ok.0))) ∙ sym c.in_ok-kept.ensures.reply ∙ c.in-None.is in
    let bound = acted_sent p.law n.seen f.log d.session d.sent c.requires.legal f.front c.requires.sent in
    in_front p.law n.seen n.replica.cursor (λ log. AreAllAnswers log d.session xs) f.log c.requires.legal f.size f.front
    (no_more f.log n.replica.contents d.session xs (g.met.R.Replica.state_is f.log n.replica.contents f.led) c.requires.session (l.invariant.acted f.log f.size f.front) d.sent told bound (omega (arith, c.requires.near, l.invariant.more)))
