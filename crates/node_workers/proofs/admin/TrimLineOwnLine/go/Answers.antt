use Rattle.std.proofs.Common.{◌≡◌, ◌⊎◌, refl, ◌∙◌, subst, inl, ◌<◌, ◌≤◌, ◌^◌, [], ◌∷◌, Some, None, arith}
use Rattle.delos_types.specs.declared.entry.Entry.{Entry}
use Rattle.engine_api.specs.declared.content.Content.TheVariants as content
use Rattle.engine_api.specs.Acted.{unpack_all}
use Rattle.engine_api.specs.Items.{content_of}
use Rattle.engine_api.specs.Members.{least_position}
use Rattle.engine_api.specs.Packing.{packed, trim_item}
use Rattle.turn_scopes.specs.Seats.{node_of}
use Rattle.node_lines.specs.Reporting.{IsPlain}
use Rattle.node_lines.specs.Trimming.{Cuts}
use Rattle.node_lines.specs.Workers.{OwnWithin, OwnAdds, IsOfSessions, SaysAlone}
use Rattle.node_lines.specs.Steps.{TellsAndPlays}
use Rattle.node_lines.proofs.Own.{own_adds_trans, own_adds_wider}
use Rattle.node_lines.proofs.Reporting.{says_alone}
use Rattle.node_lines.proofs.Widening.{grows-both, grows-since}
use Rattle.node_lines.proofs.Assembling.{trims_unmeasured}
use Rattle.node_workers.proofs.Joining.{says-one}
use Rattle.node_workers.proofs.Stepping.{left_both}
use Rattle.node_workers.proofs.Ok.{in_ok, on_ok, in_ok_at, ok_then, ok_pair}
use Rattle.node_workers.proofs.Telling.{adds_saying, may_say, tells_moves, trim_low}
use Rattle.node_workers.proofs.Trimming.{asks_held, asks_reported, may_trim, reported_on, trim_adds_none, trim_adds_told, trims, trims_not}
use Rattle.node_workers.proofs.admin.TrimLineOwnLine.go.Goals as goal

pub returns-in-Failed-clause-ok : goal.returns-in-Failed-clause-ok
returns-in-Failed-clause-ok g c = on_ok _ c.in-Ok.is c.in_turn-seat.ensures.ok

pub returns-in-Failed-clause-kept : goal.returns-in-Failed-clause-kept
returns-in-Failed-clause-kept g c = on_ok _ c.in-Ok.is (c.in_turn-seat.ensures.kept c.requires.kept)

pub returns-in-Failed-clause-adds : goal.returns-in-Failed-clause-adds
returns-in-Failed-clause-adds g c = trim_adds_none c.args.seat.who (g.A.Access.seen c.args.access) (g.A.Access.seen c.in_turn-seat.result.access)
    (grows-since c.args.seat.who (g.A.Access.beside c.args.seat.who) (g.A.Access.seen c.args.access) (g.A.Access.seen c.in_turn-seat.result.access) c.in_turn-seat.ensures.left.since) (on_ok _ c.in-Ok.is c.in_turn-seat.ensures.adds)

pub returns-in-Failed-clause-did : goal.returns-in-Failed-clause-did
returns-in-Failed-clause-did g c =
    let p = g.A.Law.Rules in
    let a = c.args.seat in
    trims_unmeasured (record p.law { may = OwnWithin c.args.seat.who p.law.may g.E.Sent.counts }) c.requires.run.low (λ log. least_position a.node.nodes (unpack_all 0 log)) (node_of a (g.A.Access.seen c.args.access))
    (node_of c.in_turn-seat.result.part (g.A.Access.seen c.in_turn-seat.result.access)) c.in-Failed.cause
    (in_ok_at _ c.in-Ok.is c.in-Failed.is c.in_turn-seat.ensures.did)

pub tell_and_play-seat-requires-clause-seat : goal.tell_and_play-seat-requires-clause-seat
tell_and_play-seat-requires-clause-seat g c = on_ok _ c.in-Ok.is c.in_turn-seat.ensures.ok

pub tell_and_play-seat-requires-clause-can : goal.tell_and_play-seat-requires-clause-can
tell_and_play-seat-requires-clause-can g c =
    let a = c.args.seat in
    let b = c.in_turn-seat.result.part in
    let m = in_ok_at _ c.in-Ok.is c.in-At.is c.in_turn-seat.ensures.did in
    let k = m.moves.goes.keeps in
    let made = c.in-Ok-trim_item.ensures in
    let plain : IsPlain c.in-Ok-trim_item.value = record { content = content.Trim c.in-At.position; says = made.says; none = refl } in
    record {
      proposable = made.proposable;
      plain = plain;
      none = m.none;
      unsettled = m.unsettled;
      kept = m.kept;
      own = may_say g.A.Law.Rules.law.may g.E.Sent.counts a.who b.who b.node.replica.origin c.in-Ok-trim_item.value (trim_item c.in-At.position) k.who
          (k.origin ∙ c.requires.origin) made.item made.proposable plain
          (c.requires.can.own c.in-At.position (let small : c.in-At.position < 2 ^ 64 = omega arith in small));
    }

pub returns-in-Some-clause-did : goal.returns-in-Some-clause-did
returns-in-Some-clause-did g c =
    let p = g.A.Law.Rules in
    let may = OwnWithin c.args.seat.who p.law.may g.E.Sent.counts in
    let mid = node_of c.in_turn-seat.result.part (g.A.Access.seen c.in_turn-seat.result.access) in
    let played = node_of c.tell_and_play-seat.result.part (g.A.Access.seen c.tell_and_play-seat.result.access) in
    let item = c.in-Ok-trim_item.value in
    trims_not (record p.law { may = may }) c.requires.run.low (node_of c.args.seat (g.A.Access.seen c.args.access)) mid played c.in-At.position item c.in-Some.cause
    (in_ok_at _ c.in-Ok.is c.in-At.is c.in_turn-seat.ensures.did)
    (subst (λ w. TellsAndPlays (record p.law { may = OwnWithin w p.law.may g.E.Sent.counts }) mid played item (Some c.in-Some.cause)) c.in_turn-seat.ensures.left.who
    (subst (λ f. TellsAndPlays (record p.law { may = OwnWithin c.in_turn-seat.result.part.who p.law.may g.E.Sent.counts }) mid played item f) c.in-Some.is (in_ok _ c.in-Ok-answer.is c.tell_and_play-seat.ensures.did)))

pub returns-in-Some-clause-adds : goal.returns-in-Some-clause-adds
returns-in-Some-clause-adds g c =
    let p = g.A.Law.Rules in
    let was = g.A.Access.seen c.args.access in
    let b = c.in_turn-seat.result.part in
    let mid = g.A.Access.seen c.in_turn-seat.result.access in
    let later = g.A.Access.seen c.tell_and_play-seat.result.access in
    let item = c.in-Ok-trim_item.value in
    let on = c.tell_and_play-seat.ensures.left.since in
    trim_adds_told c.args.seat.who was mid later c.in-At.position
    (reported_on mid later on.more c.in-At.position on.seen
    (asks_reported (record p.law { may = OwnWithin c.args.seat.who p.law.may g.E.Sent.counts }) c.requires.run.low (node_of c.args.seat was) (node_of b mid) c.in-At.position (in_ok_at _ c.in-Ok.is c.in-At.is c.in_turn-seat.ensures.did)))
    (adds_saying c.args.seat.who was mid later (packed b.node.replica.origin (item ∷ [])) (content.Trim c.in-At.position) (on_ok _ c.in-Ok.is c.in_turn-seat.ensures.adds)
    (subst (λ w. OwnAdds w (λ e. IsOfSessions e ⊎ (e ≡ packed b.node.replica.origin (item ∷ []))) mid later) c.in_turn-seat.ensures.left.who (on_ok _ c.in-Ok-answer.is c.tell_and_play-seat.ensures.adds))
    (says-one b.node.replica.origin item (content.Trim c.in-At.position) c.in-Ok-trim_item.ensures.proposable c.in-Ok-trim_item.ensures.says))
    (on.more, on.seen) (on_ok _ c.in-Ok.is c.in_turn-seat.ensures.adds)
    (asks_held (record p.law { may = OwnWithin c.args.seat.who p.law.may g.E.Sent.counts }) c.requires.run.low (node_of c.args.seat was) (node_of b mid) c.in-At.position (in_ok_at _ c.in-Ok.is c.in-At.is c.in_turn-seat.ensures.did))

pub in_turn-requires-clause-seat : goal.in_turn-requires-clause-seat
in_turn-requires-clause-seat g c = on_ok _ c.in-Ok-answer.is c.tell_and_play-seat.ensures.ok

pub in_turn-requires-clause-can : goal.in_turn-requires-clause-can
in_turn-requires-clause-can g c = λ log there size.
    let p = g.A.Law.Rules in
    let may = OwnWithin c.args.seat.who p.law.may g.E.Sent.counts in
    let b = c.in_turn-seat.result.part in
    let mid = node_of b (g.A.Access.seen c.in_turn-seat.result.access) in
    let d = c.tell_and_play-seat.result.part in
    let played = node_of d (g.A.Access.seen c.tell_and_play-seat.result.access) in
    let item = c.in-Ok-trim_item.value in
    let front = (on_ok _ c.in-Ok-answer.is c.tell_and_play-seat.ensures.ok).node.follows.now in
    let k = (in_ok_at _ c.in-Ok.is c.in-At.is c.in_turn-seat.ensures.did).moves.goes.keeps in
    let on = (tells_moves (record p.law { may = may }) c.requires.run.low mid played item None
    (subst (λ w. TellsAndPlays (record p.law { may = OwnWithin w p.law.may g.E.Sent.counts }) mid played item None) c.in_turn-seat.ensures.left.who
    (subst (λ f. TellsAndPlays (record p.law { may = OwnWithin b.who p.law.may g.E.Sent.counts }) mid played item f) c.in_default.is
    (in_ok _ c.in-Ok-answer.is c.tell_and_play-seat.ensures.did)))).goes.keeps in
    let free = may_trim (record p.law { may = may }) c.requires.run.low played c.args.seat.node.nodes (on.nodes ∙ k.nodes) on.later.legal
    (record { log = front.log; size = front.size; front = front.front; led = g.met.S.Replica.state_is front.log d.node.replica.contents front.led })
    c.requires.can.goes_by log there size in
    (free, λ kept. omega (arith))

pub returns-clause-did : goal.returns-clause-did
returns-clause-did g c =
    let p = g.A.Law.Rules in
    let was = g.A.Access.seen c.args.access in
    let b = c.in_turn-seat.result.part in
    let mid = g.A.Access.seen c.in_turn-seat.result.access in
    let d = c.tell_and_play-seat.result.part in
    let later = g.A.Access.seen c.tell_and_play-seat.result.access in
    let item = c.in-Ok-trim_item.value in
    let made = c.in-Ok-trim_item.ensures in
    let front = (on_ok _ c.in-Ok-answer.is c.tell_and_play-seat.ensures.ok).node.follows.now in
    let kept = on_ok _ c.in-Ok-answer.is (c.tell_and_play-seat.ensures.kept (record {
      kept = on_ok _ c.in-Ok.is (c.in_turn-seat.ensures.kept c.requires.kept);
      low = λ user there what says. trim_low c.in_turn-seat.result.part.node.replica.cursor c.in-At.position (content_of c.in-Ok-trim_item.value) c.in-Ok-trim_item.ensures.says what says;
    })) in
    let some : 1 ≤ c.args.seat.who = omega (arith, c.number.ensures.range, c.number.ensures.value, c.requires.can.who) in
    ok_then c.in_turn.result.answer c.in_turn.ensures.did
    (λ l h. trims (record p.law { may = OwnWithin c.args.seat.who p.law.may g.E.Sent.counts }) c.requires.run.low p.law.may c.requires.run (λ user e k. k.0) (node_of c.args.seat was) (node_of b mid) (node_of d later)
    (node_of c.in_turn.result.part (g.A.Access.seen c.in_turn.result.access)) c.in-At.position c.args.seat.who item l
    (in_ok_at _ c.in-Ok.is c.in-At.is c.in_turn-seat.ensures.did) (on_ok _ c.in-Ok.is c.in_turn-seat.ensures.adds)
    made.item made.proposable made.says
    (subst (λ w. TellsAndPlays (record p.law { may = OwnWithin w p.law.may g.E.Sent.counts }) (node_of b mid) (node_of d later) item None) c.in_turn-seat.ensures.left.who
    (subst (λ f. TellsAndPlays (record p.law { may = OwnWithin b.who p.law.may g.E.Sent.counts }) (node_of b mid) (node_of d later) item f) c.in_default.is
    (in_ok _ c.in-Ok-answer.is c.tell_and_play-seat.ensures.did))) (packed b.node.replica.origin (item ∷ []))
    (subst (λ w. OwnAdds w (λ e. IsOfSessions e ⊎ (e ≡ packed b.node.replica.origin (item ∷ []))) mid later) c.in_turn-seat.ensures.left.who (on_ok _ c.in-Ok-answer.is c.tell_and_play-seat.ensures.adds))
    (says_alone b.node.replica.origin item item (content.Trim c.in-At.position) made.proposable made.says refl)
    (record { log = front.log; size = front.size; front = front.front; led = g.met.S.Replica.state_is front.log d.node.replica.contents front.led })
    some c.requires.can.few c.requires.can.stays c.requires.can.upto kept.high
    (subst (λ w. Cuts (record p.law { may = OwnWithin w p.law.may g.E.Sent.counts }) (node_of d later) (node_of c.in_turn.result.part (g.A.Access.seen c.in_turn.result.access)) l)
    (c.tell_and_play-seat.ensures.left.who ∙ c.in_turn-seat.ensures.left.who) h))

pub returns-clause-adds : goal.returns-clause-adds
returns-clause-adds g c =
    let p = g.A.Law.Rules in
    let was = g.A.Access.seen c.args.access in
    let b = c.in_turn-seat.result.part in
    let mid = g.A.Access.seen c.in_turn-seat.result.access in
    let later = g.A.Access.seen c.tell_and_play-seat.result.access in
    let now = g.A.Access.seen c.in_turn.result.access in
    let item = c.in-Ok-trim_item.value in
    let on = c.tell_and_play-seat.ensures.left.since in
    let cut = c.in_turn.ensures.left.since in
    let P : Entry → Type 0 = λ e. IsOfSessions e ⊎ SaysAlone (content.Trim c.in-At.position) e in
    ok_then c.in_turn.result.answer (ok_pair _ _ c.in_turn.result.answer c.in_turn.ensures.did c.in_turn.ensures.adds)
    (λ l h. trim_adds_told c.args.seat.who was mid now c.in-At.position
    (reported_on later now cut.more c.in-At.position cut.seen (reported_on mid later on.more c.in-At.position on.seen
    (asks_reported (record p.law { may = OwnWithin c.args.seat.who p.law.may g.E.Sent.counts }) c.requires.run.low (node_of c.args.seat was) (node_of b mid) c.in-At.position (in_ok_at _ c.in-Ok.is c.in-At.is c.in_turn-seat.ensures.did))))
    (own_adds_trans c.args.seat.who P was later now
    (adds_saying c.args.seat.who was mid later (packed b.node.replica.origin (item ∷ [])) (content.Trim c.in-At.position) (on_ok _ c.in-Ok.is c.in_turn-seat.ensures.adds)
    (subst (λ w. OwnAdds w (λ e. IsOfSessions e ⊎ (e ≡ packed b.node.replica.origin (item ∷ []))) mid later) c.in_turn-seat.ensures.left.who (on_ok _ c.in-Ok-answer.is c.tell_and_play-seat.ensures.adds))
    (says-one b.node.replica.origin item (content.Trim c.in-At.position) c.in-Ok-trim_item.ensures.proposable c.in-Ok-trim_item.ensures.says))
    (own_adds_wider c.args.seat.who IsOfSessions P later now (λ e k. inl k)
    (subst (λ w. OwnAdds w IsOfSessions later now) (c.tell_and_play-seat.ensures.left.who ∙ c.in_turn-seat.ensures.left.who) h.1)))
    (grows-both mid later now (on.more, on.seen) (cut.more, cut.seen)) (on_ok _ c.in-Ok.is c.in_turn-seat.ensures.adds)
    (asks_held (record p.law { may = OwnWithin c.args.seat.who p.law.may g.E.Sent.counts }) c.requires.run.low (node_of c.args.seat was) (node_of b mid) c.in-At.position (in_ok_at _ c.in-Ok.is c.in-At.is c.in_turn-seat.ensures.did)))

pub returns-in-Some-clause-ok : goal.returns-in-Some-clause-ok
returns-in-Some-clause-ok g c = on_ok _ c.in-Ok-answer.is c.tell_and_play-seat.ensures.ok

pub returns-in-Some-clause-kept : goal.returns-in-Some-clause-kept
returns-in-Some-clause-kept g c =
    on_ok _ c.in-Ok-answer.is (c.tell_and_play-seat.ensures.kept (record {
      kept = on_ok _ c.in-Ok.is (c.in_turn-seat.ensures.kept c.requires.kept);
      low = λ user there what says. trim_low c.in_turn-seat.result.part.node.replica.cursor c.in-At.position (content_of c.in-Ok-trim_item.value) c.in-Ok-trim_item.ensures.says what says;
    }))

pub returns-clause-kept : goal.returns-clause-kept
returns-clause-kept g c = c.in_turn.ensures.kept
    (on_ok _ c.in-Ok-answer.is (c.tell_and_play-seat.ensures.kept (record {
      kept = on_ok _ c.in-Ok.is (c.in_turn-seat.ensures.kept c.requires.kept);
      low = λ user there what says. trim_low c.in_turn-seat.result.part.node.replica.cursor c.in-At.position (content_of c.in-Ok-trim_item.value) c.in-Ok-trim_item.ensures.says what says;
    })))

pub returns-in-Err-answer-clause-left : goal.returns-in-Err-answer-clause-left
returns-in-Err-answer-clause-left g c = left_both c.in_turn-seat.ensures.left c.tell_and_play-seat.ensures.left

pub returns-in-Some-clause-left : goal.returns-in-Some-clause-left
returns-in-Some-clause-left g c = left_both c.in_turn-seat.ensures.left c.tell_and_play-seat.ensures.left

pub returns-clause-left : goal.returns-clause-left
returns-clause-left g c = left_both (left_both c.in_turn-seat.ensures.left c.tell_and_play-seat.ensures.left) c.in_turn.ensures.left
