use Rattle.std.proofs.Common.{◌≡◌, sym, ap, ◌∙◌, subst, ⊎_elim, ◌+◌, ◌^◌, ◌<◌, ◌≤◌, [], ◌∷◌, ◌++◌, Some, None, arith}
use Rattle.std.specs.Prelude.{All, slice_set}
use Rattle.std.proofs.lemmas.List.Elements.{All-push}
use Rattle.engine_api.specs.Items.{content_of}
use Rattle.engine_api.specs.Packing.{packed, session_item}
use Rattle.engine_api.proofs.Packed.{content_of-session, proposable-session}
use Rattle.base_engine.specs.Settling.{cause_in}
use Rattle.node_lines.specs.declared.desk.Desk.{Desk}
use Rattle.node_lines.specs.UnderWay.{HasRank, rank_under}
use Rattle.turn_scopes.specs.Seats.{SeatOk, node_of}
use Rattle.node_lines.specs.Moving.{HandsIn}
use Rattle.node_lines.specs.Desks.{DeskOk}
use Rattle.node_lines.specs.Lines.{Readies}
use Rattle.node_lines.proofs.Moving.{rank_elsewhere}
use Rattle.node_lines.proofs.Sessions.{own_under}
use Rattle.node_lines.specs.Workers.{OwnWithin, Sends, OwnAdds, IsOfSession, IsOfSessions, LogsIt, sent_of}
use Rattle.node_lines.proofs.Own.{own_adds_trans}
use Rattle.node_lines.proofs.Sent.{set_rises, set_sent, still_sent}
use Rattle.node_workers.proofs.Joining.{sends-next, session-command, within-one}
use Rattle.node_workers.proofs.Logging.{kept_logs, handed_logs}
use Rattle.node_workers.proofs.Ok.{in_ok, on_ok, ok_pair, ok_then}
use Rattle.node_workers.proofs.Stepping.{seat_counted, left_both}
use Rattle.node_workers.proofs.Working.{none-waits}
use Rattle.node_workers.proofs.turns.log_at.Goals as goal

pub in_turn-seat-requires-clause-can : goal.in_turn-seat-requires-clause-can
in_turn-seat-requires-clause-can g c =
    let d = c.args.desk.now in
    let ok = c.requires.desk in
    let sent = c.requires.sent ∙ ap (sent_of g.E.Sent.counts) (sym ok.session) in (
      c.requires.packs,
      subst (λ k. DeskOk (node_of c.args.seat (g.A.Access.seen c.args.access)) k d) (sym ok.session) ok,
      λ user e k allowed has.
          let own = c.requires.home user k e allowed.0.0 (subst (λ s. HasRank s k e) ok.session has) in
          omega (arith, allowed.0.1 own d.session k has, sent),
      omega (arith, c.requires.few),
    )

pub returns-then-not-is_ready-clause-ok : goal.returns-then-not-is_ready-clause-ok
returns-then-not-is_ready-clause-ok g c =
    let p = g.A.Law.Rules in
    let r = g.S.Replica in
    let back = c.in_turn-seat.result in
    let d = c.in_turn-seat.new.on in
    let s = c.args.session in
    let counts = g.E.Sent.counts in
    let same : slice_set counts s c.keep.new.desk.sent ≡ counts = ap (λ (x : Desk). slice_set counts s x.sent) c.keep.ensures
    ∙ still_sent counts s d.sent (ap (λ (x : Desk). x.sent) (in_ok _ c.in-Ok.is c.in_turn-seat.ensures.did).0.desk ∙ c.requires.sent) in
    subst (λ cs. SeatOk (record p.law { may = Sends back.part.who p.law.may cs (g.A.Access.seen back.access) }) r.meaning (g.A.Access.seen back.access) back.part) (sym same) (on_ok _ c.in-Ok.is c.in_turn-seat.ensures.ok)

pub returns-then-not-is_ready-clause-kept : goal.returns-then-not-is_ready-clause-kept
returns-then-not-is_ready-clause-kept g c = on_ok _ c.in-Ok.is (c.in_turn-seat.ensures.kept c.requires.kept)

pub returns-then-not-is_ready-clause-adds : goal.returns-then-not-is_ready-clause-adds
returns-then-not-is_ready-clause-adds g c = on_ok _ c.in-Ok.is c.in_turn-seat.ensures.adds

pub returns-then-not-is_ready-clause-waits : goal.returns-then-not-is_ready-clause-waits
returns-then-not-is_ready-clause-waits g c = subst (All IsOfSession) (sym (in_ok _ c.in-Ok.is c.in_turn-seat.ensures.did).2) c.requires.waits

pub returns-then-not-is_ready-clause-logs : goal.returns-then-not-is_ready-clause-logs
returns-then-not-is_ready-clause-logs g c =
    let p = g.A.Law.Rules in
    let old = node_of c.args.seat (g.A.Access.seen c.args.access) in
    let mid = node_of c.in_turn-seat.result.part (g.A.Access.seen c.in_turn-seat.result.access) in
    let d = c.in_turn-seat.new.on in
    let s = c.args.session in
    let counts = g.E.Sent.counts in
    let r = (in_ok _ c.in-Ok.is c.in_turn-seat.ensures.did).0 in
    let now : Desk = record d { asked = d.asked + 1 } in
    subst (λ (x : Desk). LogsIt p.law (slice_set counts s x.sent) old mid s c.args.desk.now x) (sym c.keep.ensures)
    (subst (λ cs. LogsIt p.law cs old mid s c.args.desk.now now) (sym (still_sent counts s d.sent (ap (λ (x : Desk). x.sent) r.desk ∙ c.requires.sent)))
    (kept_logs p.law c.requires.run.low counts old mid s c.args.desk.now d (subst (λ b. Readies (record p.law { may = OwnWithin c.args.seat.who p.law.may counts }) old mid c.args.desk.now d b) c.if-not-is_ready.true r)))

pub in_turn-requires-clause-seat : goal.in_turn-requires-clause-seat
in_turn-requires-clause-seat g c =
    let p = g.A.Law.Rules in
    let r = g.S.Replica in
    let counts = g.E.Sent.counts in
    let d = c.in_turn-seat.new.on in
    let back = c.in_turn-seat.result in
    let is = (in_ok _ c.in-Ok.is c.in_turn-seat.ensures.did).0.desk in
    let sent : d.sent ≡ sent_of counts d.session = ap (λ (x : Desk). x.sent) is ∙ c.requires.sent ∙ ap (sent_of counts) (sym (ap (λ (x : Desk). x.session) is ∙ c.requires.desk.session)) in
    seat_counted back.part.who p.law r.meaning counts (slice_set counts d.session (d.sent + 1)) (g.A.Access.seen back.access) back.part (set_rises counts d.session (d.sent + 1) (omega (arith, sent))) (on_ok _ c.in-Ok.is c.in_turn-seat.ensures.ok)

pub in_turn-requires-clause-can : goal.in_turn-requires-clause-can
in_turn-requires-clause-can g c =
    let p = g.A.Law.Rules in
    let was = c.args.desk.now in
    let seat = c.in_turn-seat.result.part in
    let journal = g.A.Access.seen c.in_turn-seat.result.access in
    let mid = node_of seat journal in
    let d = c.in_turn-seat.new.on in
    let cmd = c.args.command.now in
    let counts' = slice_set g.E.Sent.counts d.session (d.sent + 1) in
    let did = in_ok _ c.in-Ok.is c.in_turn-seat.ensures.did in
    let r = did.0 in
    let ok = did.1 in
    let keeps = r.moves.goes.keeps in
    let free = (r.free c.if-not-is_ready.false).0 in
    let own_s : d.session ≡ was.session = ap (λ (x : Desk). x.session) r.desk in
    let named : d.session ≡ c.args.session = own_s ∙ c.requires.desk.session in
    let asked : d.asked ≡ was.asked = ap (λ (x : Desk). x.asked) r.desk in
    let sent : d.sent ≡ was.sent = ap (λ (x : Desk). x.sent) r.desk in
    let stands : DeskOk mid d.session d = subst (λ k. DeskOk mid k d) (sym own_s) ok in
    let all : d.sent ≡ d.asked = (ok.given free.0 (subst (λ q. cause_in q mid.outbox.given ≡ None) own_s free.1)).0 in
    let counted : d.sent + 1 ≡ sent_of counts' d.session = sym (set_sent g.E.Sent.counts d.session (d.sent + 1) (omega (arith, named, c.requires.wide))) in
    let n = d.sent + 1 in
    let item = session_item d.session n cmd in
    let small : n < 2 ^ 64 = omega (arith, c.requires.few, asked, all) in
    let some : 1 ≤ n = omega arith in
    let fine = proposable-session d.session n cmd stands.known some small c.requires.spelled c.requires.short in
    let under = ap (rank_under d.session) (content_of-session d.session n cmd stands.known some small c.requires.spelled) ∙ own_under d.session n (Some cmd) in
    let may_own : p.law.may seat.who (packed seat.who (item ∷ [])) = subst (λ w. p.law.may w (packed w (item ∷ []))) (sym keeps.who)
    (subst (λ q. p.law.may c.args.seat.who (packed c.args.seat.who (session_item q n cmd ∷ []))) (sym named)
    (subst (λ k. p.law.may c.args.seat.who (packed c.args.seat.who (session_item c.args.session k cmd ∷ []))) (sym (ap (λ k. k + 1) (all ∙ asked))) c.requires.own)) in
    let own = within-one p.law.may counts' seat.who d.session n item fine may_own under (λ q apart. rank_elsewhere d.session q n (content_of item) under apart) (omega (arith, counted)) in
    let origin : seat.node.replica.origin ≡ seat.who = keeps.origin ∙ (c.requires.origin ∙ sym keeps.who) in
    let waits = subst (All IsOfSession) (sym did.2) c.requires.waits in
    record {
      kept = r.moves.goes.packs c.requires.packs;
      stands = stands;
      stopped = free.0;
      given = free.1;
      near = (r.free c.if-not-is_ready.false).1;
      few = omega (arith, c.requires.few, asked);
      bound = λ user e k allowed has.
          let by_own = c.requires.home user k e allowed.0.0 (subst (λ s. HasRank s k e) named has) ∙ sym keeps.who in
          omega (arith, allowed.0.1 by_own d.session k has, counted);
      spelled = c.requires.spelled;
      short = c.requires.short;
      own = subst (λ o. Sends seat.who p.law.may counts' journal seat.who (packed o (seat.node.replica.kept ++ item ∷ []))) (sym origin)
          (sends-next p.law.may counts' journal seat.who seat.node.replica.kept item (c.requires.run.join seat.who) (r.moves.goes.packs c.requires.packs) waits
          (λ waiting. subst (λ o. OwnWithin seat.who p.law.may counts' seat.who (packed o seat.node.replica.kept)) origin ((in_turn-requires-clause-seat g c).node.waiting waiting).0)
          fine (session-command d.session n cmd stands.known some small c.requires.spelled) own);
    }

pub returns-clause-adds : goal.returns-clause-adds
returns-clause-adds g c =
    ok_then c.in_turn.result.answer c.in_turn.ensures.adds (λ x h. own_adds_trans c.args.seat.who IsOfSessions (g.A.Access.seen c.args.access) (g.A.Access.seen c.in_turn-seat.result.access) (g.A.Access.seen c.in_turn.result.access) (on_ok _ c.in-Ok.is c.in_turn-seat.ensures.adds)
    (subst (λ w. OwnAdds w IsOfSessions (g.A.Access.seen c.in_turn-seat.result.access) (g.A.Access.seen c.in_turn.result.access)) c.in_turn-seat.ensures.left.who h))

pub returns-clause-desk : goal.returns-clause-desk
returns-clause-desk g c =
    let did = in_ok _ c.in-Ok.is c.in_turn-seat.ensures.did in
    let named = ap (λ (x : Desk). x.session) did.0.desk ∙ c.requires.desk.session in
    ok_then c.in_turn.result.answer c.in_turn.ensures.did (λ x h. subst (λ k. DeskOk (node_of c.in_turn.result.part (g.A.Access.seen c.in_turn.result.access)) k c.in_turn.new.on) named h.desk)

pub returns-clause-waits : goal.returns-clause-waits
returns-clause-waits g c =
    let d = c.in_turn-seat.new.on in
    let cmd = c.args.command.now in
    let now = c.in_turn.result.part in
    let kept = c.in_turn-seat.result.part.node.replica.kept in
    let did = in_ok _ c.in-Ok.is c.in_turn-seat.ensures.did in
    let asked : d.asked ≡ c.args.desk.now.asked = ap (λ (x : Desk). x.asked) did.0.desk in
    let item = session_item d.session (d.sent + 1) cmd in
    let known : d.session ≤ 63 = omega (arith, did.1.session, did.1.known) in
    let says = session-command d.session (d.sent + 1) cmd known (omega arith) (omega (arith, c.requires.few, asked, did.1.few)) c.requires.spelled in
    ok_then c.in_turn.result.answer c.in_turn.ensures.did
    (λ x h. ⊎_elim
    (λ (e : now.node.replica.kept ≡ kept ++ item ∷ []). subst (All IsOfSession) (sym e) (All-push IsOfSession kept item (subst (All IsOfSession) (sym did.2) c.requires.waits) says))
    (λ (e : now.node.replica.kept ≡ []). none-waits now e) h.kept)

pub returns-clause-logs : goal.returns-clause-logs
returns-clause-logs g c =
    let p = g.A.Law.Rules in
    let old = node_of c.args.seat (g.A.Access.seen c.args.access) in
    let mid = node_of c.in_turn-seat.result.part (g.A.Access.seen c.in_turn-seat.result.access) in
    let new = node_of c.in_turn.result.part (g.A.Access.seen c.in_turn.result.access) in
    let was = c.args.desk.now in
    let d = c.in_turn-seat.new.on in
    let s = c.args.session in
    let counts = g.E.Sent.counts in
    let counts' = slice_set counts d.session (d.sent + 1) in
    let r = (in_ok _ c.in-Ok.is c.in_turn-seat.ensures.did).0 in
    let named : d.session ≡ s = ap (λ (x : Desk). x.session) r.desk ∙ c.requires.desk.session in
    let is = c.in_turn.new.on in
    let sent : d.sent ≡ sent_of counts d.session = ap (λ (x : Desk). x.sent) r.desk ∙ c.requires.sent ∙ ap (sent_of counts) (sym named) in
    ok_then c.in_turn.result.answer c.in_turn.ensures.did
    (λ x h. subst (λ cs. LogsIt p.law cs old new s was is) (ap (λ k. slice_set counts k (d.sent + 1)) named ∙ ap (λ (y : Desk). slice_set counts s y.sent) (sym h.counts))
    (handed_logs p.law c.requires.run.low counts counts' old mid new s was d is (set_rises counts d.session (d.sent + 1) (omega (arith, sent)))
    (subst (λ b. Readies (record p.law { may = OwnWithin c.args.seat.who p.law.may counts }) old mid was d b) c.if-not-is_ready.false r) (subst (λ q. HandsIn (record p.law { may = OwnWithin c.in_turn-seat.result.part.who p.law.may counts' }) mid new q d.sent) named h.hands) h.counts))

pub returns-clause-ok : goal.returns-clause-ok
returns-clause-ok g c =
    let p = g.A.Law.Rules in
    let r = g.S.Replica in
    let back = c.in_turn.result in
    let counts = g.E.Sent.counts in
    let d = c.in_turn-seat.new.on in
    let s = c.args.session in
    let named : d.session ≡ s = ap (λ (x : Desk). x.session) (in_ok _ c.in-Ok.is c.in_turn-seat.ensures.did).0.desk ∙ c.requires.desk.session in
    ok_then back.answer (ok_pair _ _ back.answer c.in_turn.ensures.ok c.in_turn.ensures.did)
    (λ x h. subst (λ cs. SeatOk (record p.law { may = Sends back.part.who p.law.may cs (g.A.Access.seen back.access) }) r.meaning (g.A.Access.seen back.access) back.part) (ap (λ k. slice_set counts k (d.sent + 1)) named ∙ ap (λ (y : Desk). slice_set counts s y.sent) (sym h.1.counts)) h.0)

pub returns-clause-left : goal.returns-clause-left
returns-clause-left g c = left_both c.in_turn-seat.ensures.left c.in_turn.ensures.left

pub returns-clause-kept : goal.returns-clause-kept
returns-clause-kept g c = c.in_turn.ensures.kept (on_ok _ c.in-Ok.is (c.in_turn-seat.ensures.kept c.requires.kept))
