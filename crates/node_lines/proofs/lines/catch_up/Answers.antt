use Rattle.std.proofs.Common.{◌≡◌, refl, sym, ap, ◌∙◌, subst, [], None, arith}
use Rattle.node_lines.specs.declared.desk.Desk.{Desk}
use Rattle.replica_api.specs.Replica.{ReplicaView}
use Rattle.base_engine.specs.Settling.{cause_in}
use Rattle.node_lines.specs.Answered.{AreAnswers, AreAllAnswers, InFront}
use Rattle.node_lines.specs.Moving.{CanPack, failure_of}
use Rattle.node_lines.specs.Lines.{stopped_by}
use Rattle.node_lines.proofs.Moving.{moves-both, none-before}
use Rattle.node_lines.proofs.Ending.{caught_near}
use Rattle.node_lines.proofs.Sessions.{desk_collected}
use Rattle.node_lines.proofs.Desks.{desk_moves}
use Rattle.node_lines.proofs.Fronts.{answers_at}
use Rattle.node_lines.proofs.lines.catch_up.Goals as goal

pub collect-requires-clause-acted : goal.collect-requires-clause-acted
collect-requires-clause-acted g c =
    let p = g.T.Law.Rules in
    let m = c.sync.new.node in
    let d = c.args.desk.now in
    let all = moves-both p.law c.requires.floor c.args.node.now c.settle.new.node m [] (failure_of c.in_ok-synced.synced) c.in_ok-settle.ensures.moves c.in_ok-synced.ensures.moves in
    let ok = desk_moves p.law c.requires.floor c.args.node.now m (failure_of c.in_ok-synced.synced) d.session d all c.requires.desk in
    subst (λ (x : Desk). InFront m.seen m.replica.cursor (λ log. AreAnswers log x.session x.answers.items)) (sym c.stop_where_failed.ensures)
    (answers_at p.law m.seen m.replica.cursor d.session d.answers.items all.goes.keeps.later.legal ok.acted)

pub returns-clause-caught : goal.returns-clause-caught
returns-clause-caught g c =
    let p = g.T.Law.Rules in
    let r = g.R.Replica in
    let n = c.args.node.now in
    let m = c.sync.new.node in
    let d = c.args.desk.now in
    let new = c.collect.new.desk in
    let synced = c.in_ok-synced.synced in
    let all = moves-both p.law c.requires.floor n c.settle.new.node m [] (failure_of synced) c.in_ok-settle.ensures.moves c.in_ok-synced.ensures.moves in
    let same : new ≡ record d { answers = new.answers; stopped = stopped_by synced d.stopped } = c.in_ok-collect.ensures.rest ∙ ap (λ (x : Desk). record x { answers = new.answers }) c.stop_where_failed.ensures in
    let settled : CanPack c.settle.new.node.replica.kept = subst (λ (v : ReplicaView). CanPack v.kept) (sym c.in_ok-settle.ensures.replica) c.requires.kept in
    let own : new.session ≡ d.session = ap (λ (x : Desk). x.session) same in
    record {
      synced = synced;
      moves = all;
      desk = same;
      near = λ free.
          let none : cause_in d.session m.outbox.given ≡ None = subst (λ s. cause_in s m.outbox.given ≡ None) own free.1 in
          let sent : new.sent ≡ d.sent = ap (λ (x : Desk). x.sent) same in
          let before = none-before p.law c.requires.floor n m (failure_of synced) d.session all.goes none in
          let told = subst (λ (x : Desk). InFront m.seen m.replica.cursor (λ log. AreAllAnswers log x.session new.answers.items)) c.stop_where_failed.ensures c.in_ok-collect.ensures.acted in
          let k = caught_near p.law c.requires.floor r.meaning.state n c.settle.new.node m d.session d.sent new.answers.items synced c.in_ok-settle.ensures.moves c.in_ok-settle.ensures.none settled.few
          c.in_ok-synced.ensures.moves c.in_ok-synced.ensures.tail c.requires.keeps c.in_ok-synced.ensures.follows.now
          (subst (λ o. stopped_by synced o ≡ None) c.requires.free (sym (ap (λ (x : Desk). x.stopped) same) ∙ free.0))
          none (c.requires.desk.given c.requires.free before).1 told in
          omega (arith, k, sent);
    }

pub returns-clause-desk : goal.returns-clause-desk
returns-clause-desk g c =
    let p = g.T.Law.Rules in
    let r = g.R.Replica in
    let n = c.args.node.now in
    let m = c.sync.new.node in
    let d = c.args.desk.now in
    let new = c.collect.new.desk in
    let synced = c.in_ok-synced.synced in
    let all = moves-both p.law c.requires.floor n c.settle.new.node m [] (failure_of synced) c.in_ok-settle.ensures.moves c.in_ok-synced.ensures.moves in
    let ok = desk_moves p.law c.requires.floor n m (failure_of synced) d.session d all c.requires.desk in
    let same : new ≡ record d { answers = new.answers; stopped = stopped_by synced d.stopped } = c.in_ok-collect.ensures.rest ∙ ap (λ (x : Desk). record x { answers = new.answers }) c.stop_where_failed.ensures in
    let told = subst (λ (x : Desk). InFront m.seen m.replica.cursor (λ log. AreAllAnswers log x.session new.answers.items)) c.stop_where_failed.ensures c.in_ok-collect.ensures.acted in
    desk_collected p.law c.requires.floor r.meaning.state m d.session d new.answers.items new all.goes.keeps.later.legal c.in_ok-synced.ensures.follows.now ok told refl
    (ap (λ (x : Desk). x.session) same) (ap (λ (x : Desk). x.asked) same) (ap (λ (x : Desk). x.sent) same) (λ none. c.requires.free) (λ none. ap (λ (x : Desk). x.answered) same)
