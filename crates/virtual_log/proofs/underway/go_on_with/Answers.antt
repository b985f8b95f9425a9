use Rattle.std.proofs.Common.{◌∙◌, sym, ap, subst}
use Rattle.chain_map.specs.Chain.{last_segment}
use Rattle.virtual_log.specs.Underway.{IsGoing, Went, due}
use Rattle.virtual_log.proofs.Stepping.{at_step, due_going, outcome_above, outcome_going, outcome_again, due_left, due_others}
use Rattle.virtual_log.proofs.underway.go_on_with.Goals as goal

pub advance-made-requires-clause-going : goal.advance-made-requires-clause-going
advance-made-requires-clause-going g c =
    let p = g.T.Law.Rules in
    let t = g.T.Turns in
    let who = t.who c.args.turns.now in
    let old = t.seen c.args.turns.now in
    let k = c.args.known.now in
    let going = c.args.going.now in
    let is = c.due-going.ensures ∙ ap (due (last_segment k.chain).id) c.replace-step.ensures.value in
    let x = c.requires.going in
    (x.0, subst (λ s. IsGoing p.law.may who x.0 old k.chain (at_step going.entry s)) (sym is) (due_going p.law.may who x.0 old k.chain going x.1))

pub returns-clause-above : goal.returns-clause-above
returns-clause-above g c =
    let p = g.T.Law.Rules in
    let t = g.T.Turns in
    let who = t.who c.args.turns.now in
    let old = t.seen c.args.turns.now in
    let k = c.args.known.now in
    let going = c.args.going.now in
    let m = c.advance-made in
    let is = c.due-going.ensures ∙ ap (due (last_segment k.chain).id) c.replace-step.ensures.value in
    let w = subst (λ x. Went p.law who old k (at_step going.entry x) (t.seen m.new.turns) m.new.known m.new.going m.result) is m.ensures.went in
    outcome_above p.law.may who old k going (t.seen m.new.turns) m.new.known m.new.going m.result w.outcome

pub returns-clause-going : goal.returns-clause-going
returns-clause-going g c =
    let p = g.T.Law.Rules in
    let t = g.T.Turns in
    let who = t.who c.args.turns.now in
    let old = t.seen c.args.turns.now in
    let k = c.args.known.now in
    let going = c.args.going.now in
    let m = c.advance-made in
    let is = c.due-going.ensures ∙ ap (due (last_segment k.chain).id) c.replace-step.ensures.value in
    let w = subst (λ x. Went p.law who old k (at_step going.entry x) (t.seen m.new.turns) m.new.known m.new.going m.result) is m.ensures.went in
    outcome_going p.law.may who old k going (t.seen m.new.turns) m.new.known m.new.going m.result w.outcome

pub returns-clause-again : goal.returns-clause-again
returns-clause-again g c =
    let p = g.T.Law.Rules in
    let t = g.T.Turns in
    let who = t.who c.args.turns.now in
    let old = t.seen c.args.turns.now in
    let k = c.args.known.now in
    let going = c.args.going.now in
    let m = c.advance-made in
    let is = c.due-going.ensures ∙ ap (due (last_segment k.chain).id) c.replace-step.ensures.value in
    let w = subst (λ x. Went p.law who old k (at_step going.entry x) (t.seen m.new.turns) m.new.known m.new.going m.result) is m.ensures.went in
    outcome_again p.law.may who old k going (t.seen m.new.turns) m.new.known m.new.going m.result w.outcome

pub returns-clause-left : goal.returns-clause-left
returns-clause-left g c =
    let p = g.T.Law.Rules in
    let t = g.T.Turns in
    let who = t.who c.args.turns.now in
    let old = t.seen c.args.turns.now in
    let k = c.args.known.now in
    let going = c.args.going.now in
    let m = c.advance-made in
    let is = c.due-going.ensures ∙ ap (due (last_segment k.chain).id) c.replace-step.ensures.value in
    let w = subst (λ x. Went p.law who old k (at_step going.entry x) (t.seen m.new.turns) m.new.known m.new.going m.result) is m.ensures.went in
    due_left p.law.may who old k going (t.seen m.new.turns) m.new.known m.new.going w.left

pub returns-clause-others : goal.returns-clause-others
returns-clause-others g c =
    let p = g.T.Law.Rules in
    let t = g.T.Turns in
    let who = t.who c.args.turns.now in
    let old = t.seen c.args.turns.now in
    let k = c.args.known.now in
    let going = c.args.going.now in
    let m = c.advance-made in
    let is = c.due-going.ensures ∙ ap (due (last_segment k.chain).id) c.replace-step.ensures.value in
    let w = subst (λ x. Went p.law who old k (at_step going.entry x) (t.seen m.new.turns) m.new.known m.new.going m.result) is m.ensures.went in
    due_others p.law.may who old k going (t.seen m.new.turns) m.new.known m.new.going w.others
