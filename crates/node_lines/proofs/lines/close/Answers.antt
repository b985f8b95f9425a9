use Rattle.std.proofs.Common.{◌≡◌, sym, ap, ◌∙◌, subst}
use Rattle.std.specs.Option.{option_or}
use Rattle.base_engine.specs.Settling.{cause_in}
use Rattle.node_lines.specs.declared.desk.Desk.{Desk}
use Rattle.node_lines.specs.Desks.{DeskOk}
use Rattle.node_lines.specs.Lines.{Closes, stopped_unanswered}
use Rattle.node_lines.proofs.Fronts.{answers_at}
use Rattle.node_lines.proofs.Sessions.{closes}
use Rattle.node_lines.proofs.lines.close.Goals as goal

pub collect-requires-clause-acted : goal.collect-requires-clause-acted
collect-requires-clause-acted g c =
    let p = g.T.Law.Rules in
    let n = c.args.node.now in
    let d = c.args.desk.now in
    answers_at p.law n.seen n.replica.cursor d.session d.answers.items c.requires.legal c.requires.desk.acted

pub returns-clause-desk : goal.returns-clause-desk
returns-clause-desk g c =
    let p = g.T.Law.Rules in
    let r = g.R.Replica in
    let n = c.args.node.now in
    let d = c.args.desk.now in
    let mid = c.collect.new.desk in
    let rest = c.in_ok-collect.ensures.rest in
    let why : c.or-cause.result ≡ option_or (option_or d.stopped (cause_in d.session n.outbox.given)) c.args.failed =
    c.or-cause.ensures ∙ ap (λ o. option_or o c.args.failed) (c.cause_of.ensures.first ∙ ap (λ (x : Desk). option_or x.stopped (cause_in x.session n.outbox.given)) rest) in
    let both = closes p.law c.requires.floor r.meaning.state n c.args.failed d mid c.requires.legal c.requires.follows.now c.requires.desk rest c.in_ok-collect.ensures.acted c.requires.found in
    subst (λ (x : Desk). DeskOk n d.session x) (sym (c.stop_unanswered.ensures ∙ ap (λ o. stopped_unanswered o mid) why)) both.0

pub returns-clause-closes : goal.returns-clause-closes
returns-clause-closes g c =
    let p = g.T.Law.Rules in
    let r = g.R.Replica in
    let n = c.args.node.now in
    let d = c.args.desk.now in
    let mid = c.collect.new.desk in
    let rest = c.in_ok-collect.ensures.rest in
    let why : c.or-cause.result ≡ option_or (option_or d.stopped (cause_in d.session n.outbox.given)) c.args.failed =
    c.or-cause.ensures ∙ ap (λ o. option_or o c.args.failed) (c.cause_of.ensures.first ∙ ap (λ (x : Desk). option_or x.stopped (cause_in x.session n.outbox.given)) rest) in
    let both = closes p.law c.requires.floor r.meaning.state n c.args.failed d mid c.requires.legal c.requires.follows.now c.requires.desk rest c.in_ok-collect.ensures.acted c.requires.found in
    subst (λ (x : Desk). Closes n c.args.failed d x) (sym (c.stop_unanswered.ensures ∙ ap (λ o. stopped_unanswered o mid) why)) both.1
