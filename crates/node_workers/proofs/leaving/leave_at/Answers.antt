use Rattle.std.proofs.Common.{◌≡◌, ◌⊎◌, inl, inr, refl, sym, ap, ◌∙◌, subst, [], ◌∷◌, Some}
use Rattle.journal_laws.specs.Changes.{TrimsUpTo}
use Rattle.engine_api.specs.declared.content.Content.TheVariants as content
use Rattle.engine_api.specs.Packing.{packed, leave_item}
use Rattle.turn_scopes.specs.Seats.{SeatOk, node_of}
use Rattle.node_lines.specs.Desks.{DesksOk}
use Rattle.node_lines.specs.Lines.{failure_in}
use Rattle.node_lines.specs.Reporting.{IsPlain}
use Rattle.node_lines.specs.Turns.{AllAnswered, AnswersAll}
use Rattle.node_lines.specs.Workers.{IsKept, OwnWithin, OwnAdds, IsOfSessions, LeaveAdds, Sends}
use Rattle.node_lines.specs.Leaving.{Leaves}
use Rattle.node_lines.specs.Steps.{TellsAndPlays}
use Rattle.node_lines.proofs.Assembling.{leaves_unanswered}
use Rattle.node_lines.proofs.Scoping.{always}
use Rattle.node_workers.proofs.Joining.{says-one}
use Rattle.node_workers.proofs.Answering.{answered_on, desks_on}
use Rattle.node_workers.proofs.Stepping.{left_both}
use Rattle.node_workers.proofs.Ok.{in_ok, on_ok, ok_comes}
use Rattle.node_workers.proofs.Telling.{adds_saying, adds_nothing, may_say, leaves, tells_moves}
use Rattle.node_workers.proofs.leaving.leave_at.Goals as goal

pub in_turn-seat-requires-clause-can : goal.in_turn-seat-requires-clause-can
in_turn-seat-requires-clause-can g c = (c.requires.packs, c.requires.desks, c.requires.bound)

-- no tail was found: no answers were taken, and nothing was told

pub returns-in-Some-clause-ok : goal.returns-in-Some-clause-ok
returns-in-Some-clause-ok g c = on_ok _ c.in-Ok.is c.in_turn-seat.ensures.ok

pub returns-in-Some-clause-each : goal.returns-in-Some-clause-each
returns-in-Some-clause-each g c = (in_ok _ c.in-Ok.is c.in_turn-seat.ensures.did).desks

pub returns-in-Some-clause-desks : goal.returns-in-Some-clause-desks
returns-in-Some-clause-desks g c = let h = in_ok _ c.in-Ok.is c.in_turn-seat.ensures.did in (h.size, h.takes)

pub returns-in-Some-clause-high : goal.returns-in-Some-clause-high
returns-in-Some-clause-high g c = λ alone. (on_ok _ c.in-Ok.is (c.in_turn-seat.ensures.kept c.requires.kept)).high

pub returns-in-Some-clause-stays : goal.returns-in-Some-clause-stays
returns-in-Some-clause-stays g c = inl (on_ok _ c.in-Ok.is (c.in_turn-seat.ensures.kept c.requires.kept))

pub returns-in-Some-clause-adds : goal.returns-in-Some-clause-adds
returns-in-Some-clause-adds g c =
    adds_nothing c.args.seat.who (content.Leave c.args.seat.who) (g.A.Access.seen c.args.access) (g.A.Access.seen c.in_turn-seat.result.access) (on_ok _ c.in-Ok.is c.in_turn-seat.ensures.adds)

pub returns-in-Some-clause-leaves : goal.returns-in-Some-clause-leaves
returns-in-Some-clause-leaves g c =
    let p = g.A.Law.Rules in
    let may = OwnWithin c.args.seat.who p.law.may g.E.Sent.counts in
    let old = node_of c.args.seat (g.A.Access.seen c.args.access) in
    let mid = node_of c.in_turn-seat.result.part (g.A.Access.seen c.in_turn-seat.result.access) in
    leaves_unanswered (record p.law { may = may }) c.requires.run.low old mid c.args.desks.now.items c.in_turn-seat.new.on.items c.in-Some.cause
    (subst (λ f. AnswersAll (record p.law { may = may }) old mid c.args.desks.now.items c.in_turn-seat.new.on.items f) c.in-Some.is (in_ok _ c.in-Ok.is c.in_turn-seat.ensures.did))

-- the answers were taken, and the leave was told

pub tell_and_play-seat-requires-clause-seat : goal.tell_and_play-seat-requires-clause-seat
tell_and_play-seat-requires-clause-seat g c = on_ok _ c.in-Ok.is c.in_turn-seat.ensures.ok

pub tell_and_play-seat-requires-clause-can : goal.tell_and_play-seat-requires-clause-can
tell_and_play-seat-requires-clause-can g c =
    let a = c.args.seat in
    let b = c.in_turn-seat.result.part in
    let m = in_ok _ c.in-Ok.is c.in_turn-seat.ensures.did in
    let k = m.moves.goes.keeps in
    let made = c.in-Ok-leave_item.ensures in
    let plain : IsPlain c.in-Ok-leave_item.value = record { content = content.Leave c.args.number; says = made.says; none = refl } in
    record {
      proposable = made.proposable;
      plain = plain;
      none = m.none;
      unsettled = m.unsettled;
      kept = m.kept;
      own = may_say g.A.Law.Rules.law.may g.E.Sent.counts a.who b.who b.node.replica.origin c.in-Ok-leave_item.value (leave_item a.who) k.who
          (k.origin ∙ c.requires.origin) (made.item ∙ ap (leave_item) (sym c.requires.number)) made.proposable plain c.requires.own;
    }

pub returns-clause-ok : goal.returns-clause-ok
returns-clause-ok g c =
    let p = g.A.Law.Rules in
    let r = g.S.Replica in
    let back = c.tell_and_play-seat.result in
    let now = g.A.Access.seen back.access in
    ok_comes (λ _. SeatOk (record p.law { may = Sends back.part.who p.law.may g.E.Sent.counts now }) r.meaning now back.part) back.answer c.came_to.ensures c.tell_and_play-seat.ensures.ok (λ x h. h)

pub returns-clause-each : goal.returns-clause-each
returns-clause-each g c =
    let p = g.A.Law.Rules in
    let b = c.in_turn-seat.result.part in
    let back = c.tell_and_play-seat.result in
    let mid = node_of b (g.A.Access.seen c.in_turn-seat.result.access) in
    let now = node_of back.part (g.A.Access.seen back.access) in
    let may = OwnWithin b.who p.law.may g.E.Sent.counts in
    let desks = c.in_turn-seat.new.on.items in
    let h = in_ok _ c.in-Ok.is c.in_turn-seat.ensures.did in
    ok_comes (λ _. DesksOk now desks) back.answer c.came_to.ensures c.tell_and_play-seat.ensures.did
    (λ failed t. desks_on (record p.law { may = may }) c.requires.run.low mid now (failure_in failed) (tells_moves (record p.law { may = may }) c.requires.run.low mid now c.in-Ok-leave_item.value failed t) desks h.desks)

pub returns-clause-desks : goal.returns-clause-desks
returns-clause-desks g c =
    let h = in_ok _ c.in-Ok.is c.in_turn-seat.ensures.did in
    always _ (h.size, h.takes) c.came_to.result

pub returns-clause-high : goal.returns-clause-high
returns-clause-high g c = λ alone.
    let back = c.tell_and_play-seat.result in
    ok_comes (λ _. TrimsUpTo back.part.node.replica.cursor (g.A.Access.seen back.access)) back.answer c.came_to.ensures
    (c.tell_and_play-seat.ensures.kept (record {
      kept = on_ok _ c.in-Ok.is (c.in_turn-seat.ensures.kept c.requires.kept);
      low = λ user there what says. absurd (alone.nobody user (subst (λ w. g.A.Access.beside w user) c.in_turn-seat.ensures.left.who there));
    })) (λ failed k. k.high)

pub returns-clause-stays : goal.returns-clause-stays
returns-clause-stays g c =
    let p = g.A.Law.Rules in
    let b = c.in_turn-seat.result.part in
    let back = c.tell_and_play-seat.result in
    let mid = node_of b (g.A.Access.seen c.in_turn-seat.result.access) in
    let now = node_of back.part (g.A.Access.seen back.access) in
    let may = OwnWithin b.who p.law.may g.E.Sent.counts in
    let desks = c.in_turn-seat.new.on.items in
    let h = in_ok _ c.in-Ok.is c.in_turn-seat.ensures.did in
    ok_comes (λ _. IsKept g.A.Access.beside p.law.floor back.part (g.A.Access.seen back.access) ⊎ AllAnswered now desks) back.answer c.came_to.ensures c.tell_and_play-seat.ensures.did
    (λ failed t. inr (answered_on (record p.law { may = may }) c.requires.run.low mid now (failure_in failed) (tells_moves (record p.law { may = may }) c.requires.run.low mid now c.in-Ok-leave_item.value failed t) desks (h.answered c.in_default.is)))

pub returns-clause-leaves : goal.returns-clause-leaves
returns-clause-leaves g c =
    let p = g.A.Law.Rules in
    let made = c.in-Ok-leave_item.ensures in
    let may = OwnWithin c.args.seat.who p.law.may g.E.Sent.counts in
    let old = node_of c.args.seat (g.A.Access.seen c.args.access) in
    let mid = node_of c.in_turn-seat.result.part (g.A.Access.seen c.in_turn-seat.result.access) in
    let now = node_of c.tell_and_play-seat.result.part (g.A.Access.seen c.tell_and_play-seat.result.access) in
    let item = c.in-Ok-leave_item.value in
    let h = subst (λ f. AnswersAll (record p.law { may = may }) old mid c.args.desks.now.items c.in_turn-seat.new.on.items f) c.in_default.is (in_ok _ c.in-Ok.is c.in_turn-seat.ensures.did) in
    ok_comes (Leaves (record p.law { may = may }) old now) c.tell_and_play-seat.result.answer c.came_to.ensures c.tell_and_play-seat.ensures.did
    (λ failed t. leaves (record p.law { may = may }) c.requires.run.low old mid now c.args.number item failed h.first made.item (sym c.requires.number ∙ sym c.requires.origin) made.proposable made.says
    (subst (λ w. TellsAndPlays (record p.law { may = OwnWithin w p.law.may g.E.Sent.counts }) mid now item failed) c.in_turn-seat.ensures.left.who t))

pub returns-clause-adds : goal.returns-clause-adds
returns-clause-adds g c =
    let a = c.args.seat in
    let b = c.in_turn-seat.result.part in
    let was = g.A.Access.seen c.args.access in
    let mid = g.A.Access.seen c.in_turn-seat.result.access in
    let now = g.A.Access.seen c.tell_and_play-seat.result.access in
    let item = c.in-Ok-leave_item.value in
    let made = c.in-Ok-leave_item.ensures in
    let told = packed b.node.replica.origin (item ∷ []) in
    ok_comes (λ _. LeaveAdds a.who was now) c.tell_and_play-seat.result.answer c.came_to.ensures c.tell_and_play-seat.ensures.adds
    (λ failed h. adds_saying a.who was mid now told (content.Leave a.who) (on_ok _ c.in-Ok.is c.in_turn-seat.ensures.adds)
    (subst (λ w. OwnAdds w (λ e. IsOfSessions e ⊎ (e ≡ told)) mid now) c.in_turn-seat.ensures.left.who h)
    (says-one b.node.replica.origin item (content.Leave a.who) made.proposable (made.says ∙ ap (λ n. Some (content.Leave n)) (sym c.requires.number))))

pub returns-clause-left : goal.returns-clause-left
returns-clause-left g c = left_both c.in_turn-seat.ensures.left c.tell_and_play-seat.ensures.left
