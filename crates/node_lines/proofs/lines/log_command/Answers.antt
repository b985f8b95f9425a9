use Rattle.std.proofs.Common.{◌≡◌, ◌⊎◌, refl, sym, ap, ◌∙◌, subst, ◌+◌, ◌∷◌, ◌++◌, [], Some, arith}
use Rattle.table_core.specs.Spelling.{command_text}
use Rattle.table_core.specs.Reading.{command_of}
use Rattle.delos_types.specs.declared.item.Item.{Item}
use Rattle.engine_api.specs.Packing.{packed, session_item}
use Rattle.engine_steps.specs.Words.{under}
use Rattle.engine_api.specs.declared.content.Content.TheVariants as content
use Rattle.log_laws.proofs.Words.{under-ranked}
use Rattle.node_lines.specs.declared.desk.Desk.{Desk}
use Rattle.node_lines.specs.UnderWay.{rank_under}
use Rattle.node_lines.proofs.Fronts.{answers_at}
use Rattle.node_lines.proofs.Desks.{answers_later}
use Rattle.node_lines.proofs.Sessions.{next_near, desk_logged, own_under}
use Rattle.node_lines.proofs.lines.log_command.Goals as goal

pub hand_in-requires-clause-near : goal.hand_in-requires-clause-near
hand_in-requires-clause-near g c =
    let p = g.T.Law.Rules in
    let r = g.R.Replica in
    let n = c.args.node.now in
    let d = c.args.desk.now in
    let cmd = c.args.command.now in
    let w = under-ranked d.session (d.sent + 1) (command_text cmd) c.requires.desk.known (omega arith) (omega (arith, c.requires.few, c.requires.desk.few)) in
    next_near p.law c.requires.floor r.meaning.state n d.session (d.sent + 1) d.answers.items c.in_ok-item.item (Some (content.Session d.session (d.sent + 1) (command_of (command_text cmd)))) g.met.R.Replica.state_is c.requires.legal
    c.requires.desk.known c.requires.follows.now c.requires.desk.acted c.requires.near (command_of (command_text cmd)) refl
    (ap (under 2) c.in_ok-item.ensures.item ∙ ap (λ k. under 2 (session_item d.session k cmd)) c.in-Some.ensures.value ∙ w)

pub hand_in-requires-clause-own : goal.hand_in-requires-clause-own
hand_in-requires-clause-own g c =
    let p = g.T.Law.Rules in
    let n = c.args.node.now in
    let d = c.args.desk.now in
    let cmd = c.args.command.now in
    subst (λ (i : Item). p.law.may n.who (packed n.replica.origin (n.replica.kept ++ i ∷ []))) (sym (c.in_ok-item.ensures.item ∙ ap (λ k. session_item d.session k cmd) c.in-Some.ensures.value)) c.requires.own

pub returns-clause-kept : goal.returns-clause-kept
returns-clause-kept g c =
    let n = c.args.node.now in
    let d = c.args.desk.now in
    let m = c.hand_in.new.node in
    subst (λ (i : Item). (m.replica.kept ≡ n.replica.kept ++ i ∷ []) ⊎ (m.replica.kept ≡ [])) (c.in_ok-item.ensures.item ∙ ap (λ k. session_item d.session k c.args.command.now) c.in-Some.ensures.value) c.in_ok-hand_in.ensures.kept

pub collect-requires-clause-acted : goal.collect-requires-clause-acted
collect-requires-clause-acted g c =
    let p = g.T.Law.Rules in
    let n = c.args.node.now in
    let m = c.hand_in.new.node in
    let d = c.args.desk.now in
    let own = ap (rank_under d.session) c.in_ok-item.ensures.says ∙ own_under d.session c.in-Some.rank (Some c.args.command.now) ∙ ap (λ k. Some k) c.in-Some.ensures.value in
    let k = (c.in_ok-hand_in.ensures.hands d.session d.sent own).goes.keeps in
    answers_at p.law m.seen m.replica.cursor d.session d.answers.items k.later.legal
    (answers_later p.law c.requires.floor n.seen m.seen n.replica.cursor m.replica.cursor d.session d.answers.items k.later.legal (k.later.more, k.later.seen) k.forward c.requires.desk.acted)

pub returns-clause-hands : goal.returns-clause-hands
returns-clause-hands g c =
    let d = c.args.desk.now in
    let own = ap (rank_under d.session) c.in_ok-item.ensures.says ∙ own_under d.session c.in-Some.rank (Some c.args.command.now) ∙ ap (λ k. Some k) c.in-Some.ensures.value in
    c.in_ok-hand_in.ensures.hands d.session d.sent own

pub returns-clause-desk : goal.returns-clause-desk
returns-clause-desk g c =
    let p = g.T.Law.Rules in
    let r = g.R.Replica in
    let d = c.args.desk.now in
    let new = c.collect.new.desk in
    let own = ap (rank_under d.session) c.in_ok-item.ensures.says ∙ own_under d.session c.in-Some.rank (Some c.args.command.now) ∙ ap (λ k. Some k) c.in-Some.ensures.value in
    desk_logged p.law c.requires.floor r.meaning.state c.args.node.now c.hand_in.new.node d.session d new new.answers.items c.in_ok-hand_in.ensures.follows.now c.requires.desk c.requires.stopped c.requires.given
    c.requires.near (c.in_ok-hand_in.ensures.hands d.session d.sent own) c.in_ok-collect.ensures.acted refl
    (ap (λ (x : Desk). x.session) c.in_ok-collect.ensures.rest) (ap (λ (x : Desk). x.asked) c.in_ok-collect.ensures.rest) (ap (λ (x : Desk). x.sent) c.in_ok-collect.ensures.rest) (ap (λ (x : Desk). x.answered) c.in_ok-collect.ensures.rest)
