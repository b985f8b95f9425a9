use Rattle.std.proofs.Common.{◌≡◌, ◌⊎◌, refl, sym, ap, subst, ◌∙◌, ◌<◌, ◌^◌, [], ◌∷◌, Some, arith}
use Rattle.engine_api.specs.declared.content.Content.TheVariants as content
use Rattle.engine_api.specs.Items.{content_of}
use Rattle.engine_api.specs.Members.{clean_position}
use Rattle.engine_api.specs.Packing.{packed, alive_item}
use Rattle.turn_scopes.specs.Seats.{SeatOk, node_of}
use Rattle.node_lines.specs.declared.lines.Looked.TheVariants as looked
use Rattle.node_lines.specs.Reporting.{IsPlain, Tells, Reports}
use Rattle.node_lines.specs.Workers.{OwnWithin, OwnAdds, IsKept, IsOfSessions, ReportAdds, Sends}
use Rattle.node_lines.proofs.Assembling.{reports_unmeasured}
use Rattle.node_workers.proofs.Joining.{says-one}
use Rattle.node_workers.proofs.Stepping.{left_both}
use Rattle.node_workers.proofs.Ok.{on_ok, in_ok_at, ok_pair, ok_comes}
use Rattle.node_workers.proofs.Telling.{measured_low, may_say, reports, report_adds, report_adds_none}
use Rattle.node_workers.proofs.admin.ReportLineOwnLine.go.Goals as goal

pub returns-in-Failed-clause-ok : goal.returns-in-Failed-clause-ok
returns-in-Failed-clause-ok g c = on_ok _ c.in-Ok.is c.in_turn-seat.ensures.ok

pub returns-in-Failed-clause-kept : goal.returns-in-Failed-clause-kept
returns-in-Failed-clause-kept g c = on_ok _ c.in-Ok.is (c.in_turn-seat.ensures.kept c.requires.kept)

pub returns-in-Failed-clause-adds : goal.returns-in-Failed-clause-adds
returns-in-Failed-clause-adds g c =
    report_adds_none c.args.seat.who c.in_turn-seat.result.part.node.replica.cursor (g.A.Access.seen c.args.access) (g.A.Access.seen c.in_turn-seat.result.access)
    (looked.Failed c.in-Failed.cause) (λ n h. absurd (cc)) (on_ok _ c.in-Ok.is c.in_turn-seat.ensures.adds)

pub returns-in-Failed-clause-did : goal.returns-in-Failed-clause-did
returns-in-Failed-clause-did g c =
    let p = g.A.Law.Rules in
    reports_unmeasured (record p.law { may = OwnWithin c.args.seat.who p.law.may g.E.Sent.counts }) c.requires.run.low clean_position (node_of c.args.seat (g.A.Access.seen c.args.access))
    (node_of c.in_turn-seat.result.part (g.A.Access.seen c.in_turn-seat.result.access)) c.in-Failed.cause
    (in_ok_at _ c.in-Ok.is c.in-Failed.is c.in_turn-seat.ensures.did)

pub tell-seat-requires-clause-seat : goal.tell-seat-requires-clause-seat
tell-seat-requires-clause-seat g c = on_ok _ c.in-Ok.is c.in_turn-seat.ensures.ok

pub tell-seat-requires-clause-can : goal.tell-seat-requires-clause-can
tell-seat-requires-clause-can g c =
    let a = c.args.seat in
    let b = c.in_turn-seat.result.part in
    let m = in_ok_at _ c.in-Ok.is c.in-At.is c.in_turn-seat.ensures.did in
    let k = m.moves.goes.keeps in
    let made = c.in-Ok-alive_item.ensures in
    let plain : IsPlain c.in-Ok-alive_item.value = record { content = content.Alive c.args.self.number c.in-At.position; says = made.says; none = refl } in
    record {
      proposable = made.proposable;
      plain = plain;
      none = m.none;
      unsettled = m.unsettled;
      kept = m.kept;
      own = may_say g.A.Law.Rules.law.may g.E.Sent.counts a.who b.who b.node.replica.origin c.in-Ok-alive_item.value (alive_item a.who c.in-At.position) k.who
          (k.origin ∙ c.requires.origin) (made.item ∙ ap (λ n. alive_item n c.in-At.position) (sym c.requires.can.0)) made.proposable plain
          (c.requires.can.1 c.in-At.position (let small : c.in-At.position < 2 ^ 64 = omega arith in small));
    }

pub returns-clause-did : goal.returns-clause-did
returns-clause-did g c =
    let p = g.A.Law.Rules in
    let made = c.in-Ok-alive_item.ensures in
    let counts = g.E.Sent.counts in
    let old = node_of c.args.seat (g.A.Access.seen c.args.access) in
    let mid = node_of c.in_turn-seat.result.part (g.A.Access.seen c.in_turn-seat.result.access) in
    let now = node_of c.tell-seat.result.part (g.A.Access.seen c.tell-seat.result.access) in
    let item = c.in-Ok-alive_item.value in
    ok_comes (Reports (record p.law { may = OwnWithin c.args.seat.who p.law.may counts }) old now) c.tell-seat.result.answer c.came_to.ensures c.tell-seat.ensures.did
    (λ failed t. reports (record p.law { may = OwnWithin c.args.seat.who p.law.may counts }) c.requires.run.low old mid now c.args.self.number c.in-At.position item failed (in_ok_at _ c.in-Ok.is c.in-At.is c.in_turn-seat.ensures.did) made.item
    (sym c.requires.can.0 ∙ sym c.requires.origin) made.proposable made.says
    (subst (λ w. Tells (record p.law { may = OwnWithin w p.law.may counts }) mid now item failed) c.in_turn-seat.ensures.left.who t))

pub returns-clause-adds : goal.returns-clause-adds
returns-clause-adds g c =
    let p = g.A.Law.Rules in
    let a = c.args.seat in
    let b = c.in_turn-seat.result.part in
    let counts = g.E.Sent.counts in
    let was = g.A.Access.seen c.args.access in
    let seen = g.A.Access.seen c.in_turn-seat.result.access in
    let now = g.A.Access.seen c.tell-seat.result.access in
    let old = node_of a was in
    let mid = node_of b seen in
    let new = node_of c.tell-seat.result.part now in
    let item = c.in-Ok-alive_item.value in
    let made = c.in-Ok-alive_item.ensures in
    let told = packed b.node.replica.origin (item ∷ []) in
    let same = c.in_turn-seat.ensures.left.who in
    ok_comes (ReportAdds a.who c.tell-seat.result.part.node.replica.cursor was now) c.tell-seat.result.answer c.came_to.ensures (ok_pair _ _ c.tell-seat.result.answer c.tell-seat.ensures.did c.tell-seat.ensures.adds)
    (λ failed h. report_adds (record p.law { may = OwnWithin a.who p.law.may counts }) c.requires.run.low p.law.may c.requires.run (λ user e k. k.0) old mid new a.who c.in-At.position told failed (in_ok_at _ c.in-Ok.is c.in-At.is c.in_turn-seat.ensures.did)
    (subst (λ w. Tells (record p.law { may = OwnWithin w p.law.may counts }) mid new item failed) same h.0).moves
    (on_ok _ c.in-Ok.is c.in_turn-seat.ensures.adds) (subst (λ w. OwnAdds w (λ e. IsOfSessions e ⊎ (e ≡ told)) seen now) same h.1)
    (says-one b.node.replica.origin item (content.Alive a.who c.in-At.position) made.proposable
    (made.says ∙ ap (λ n. Some (content.Alive n c.in-At.position)) (sym c.requires.can.0))))

pub returns-clause-ok : goal.returns-clause-ok
returns-clause-ok g c =
    let p = g.A.Law.Rules in
    let r = g.S.Replica in
    let back = c.tell-seat.result in
    let now = g.A.Access.seen back.access in
    ok_comes (λ _. SeatOk (record p.law { may = Sends back.part.who p.law.may g.E.Sent.counts now }) r.meaning now back.part) back.answer c.came_to.ensures c.tell-seat.ensures.ok (λ x h. h)

pub returns-clause-kept : goal.returns-clause-kept
returns-clause-kept g c =
    let p = g.A.Law.Rules in
    let back = c.tell-seat.result in
    let mid = c.in_turn-seat.result.part in
    ok_comes (λ _. IsKept g.A.Access.beside p.law.floor back.part (g.A.Access.seen back.access)) back.answer c.came_to.ensures
    (c.tell-seat.ensures.kept (record {
      kept = on_ok _ c.in-Ok.is (c.in_turn-seat.ensures.kept c.requires.kept);
      low = λ user there what says.
          measured_low (record p.law { may = OwnWithin c.args.seat.who p.law.may g.E.Sent.counts }) (node_of c.args.seat (g.A.Access.seen c.args.access)) (node_of mid (g.A.Access.seen c.in_turn-seat.result.access)) c.in-At.position
          c.args.self.number (content_of c.in-Ok-alive_item.value) (in_ok_at _ c.in-Ok.is c.in-At.is c.in_turn-seat.ensures.did) c.in-Ok-alive_item.ensures.says what says;
    })) (λ x h. h)

pub returns-clause-left : goal.returns-clause-left
returns-clause-left g c = left_both c.in_turn-seat.ensures.left c.tell-seat.ensures.left
