use Rattle.std.proofs.Common.{refl, sym, ap, ◌∙◌}
use Rattle.node_lines.specs.declared.desk.Desk.{Desk}
use Rattle.node_lines.proofs.Fronts.{answers_at}
use Rattle.node_lines.proofs.Sessions.{desk_collected}
use Rattle.node_lines.proofs.turn.collect_it.Goals as goal

pub collect-requires-clause-acted : goal.collect-requires-clause-acted
collect-requires-clause-acted g c =
    let p = g.T.Law.Rules in
    let n = c.args.node.now in
    let d = c.args.desk.now in
    answers_at p.law n.seen n.replica.cursor d.session d.answers.items c.requires.legal c.requires.desk.acted

pub returns-clause-desk : goal.returns-clause-desk
returns-clause-desk g c =
    let p = g.T.Law.Rules in
    let n = c.args.node.now in
    let d = c.args.desk.now in
    let x = c.collect.new.desk in
    let rest = c.collect.ensures.rest in
    desk_collected p.law c.requires.floor g.R.Replica.meaning.state n d.session d x.answers.items x c.requires.legal c.requires.follows.now c.requires.desk c.in_ok-collect.ensures.acted refl
    (ap (λ (y : Desk). y.session) rest) (ap (λ (y : Desk). y.asked) rest) (ap (λ (y : Desk). y.sent) rest) (λ none. sym (ap (λ (y : Desk). y.stopped) rest) ∙ none) (λ none. ap (λ (y : Desk). y.answered) rest)
