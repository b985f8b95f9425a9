use Rattle.std.proofs.Common.{◌≡◌, refl, sym, ◌∙◌, subst, ◌⊎◌, []}
use Rattle.std.specs.Prelude.{is_ok}
use Rattle.turn_scopes.specs.Beside.{Since}
use Rattle.turn_scopes.specs.Floors.{FloorIs}
use Rattle.turn_scopes.proofs.Beside.{since_none}
use Rattle.node_course.specs.FaultLines.{AreFaultLines, HasPartIn, HasStopIn, stops_in}
use Rattle.node_crew.specs.Notes.{AreNotesOf, noted}
use Rattle.node_crew.specs.Turns.{HasNone, HasOne, IsPlaying}
use Rattle.node_threads.specs.Parts.{TookPart}
use Rattle.node_threads.proofs.Parts.{part_of, part_plays, part_idle, part_done}
use Rattle.node_threads.proofs.part.take_part.Goals as goal

pub play_turn-part-requires-clause-node : goal.play_turn-part-requires-clause-node
play_turn-part-requires-clause-node g c = c.requires.can.rests.node.ok.who_is ∙ (sym c.user-who.ensures ∙ sym c.in-Some.ensures.some.0)

pub play_turn-part-requires-clause-who : goal.play_turn-part-requires-clause-who
play_turn-part-requires-clause-who g c = sym c.user-who.ensures ∙ sym c.in-Some.ensures.some.0

pub play_turn-part-requires-clause-floor : goal.play_turn-part-requires-clause-floor
play_turn-part-requires-clause-floor g c = subst (FloorIs g.A.Law.Rules.law.floor) (sym c.requires.can.rests.node.nodes_is) c.requires.can.floor

pub play_turn-part-requires-clause-faults : goal.play_turn-part-requires-clause-faults
play_turn-part-requires-clause-faults g c =
    subst (AreFaultLines c.args.lines.now c.args.faults.now.lines.now g.A.Law.Rules.law.shelf) (sym c.requires.can.rests.node.nodes_is) c.requires.can.faults_are

pub play_turn-part-requires-clause-playing : goal.play_turn-part-requires-clause-playing
play_turn-part-requires-clause-playing g c =
    let p = g.A.Law.Rules in
    let r = g.S.Replica in
    let a = c.args in
    let can = c.requires.can in
    let me = g.A.Access.who a.access in
    let same : me ≡ c.in-Some.node = sym c.user-who.ensures ∙ sym c.in-Some.ensures.some.0 in
    let fs = a.faults.now.lines.now in
    let phase = a.faults.now.phase in
    let one = part_of p.law r.meaning a.lines.now fs phase a.from a.to me (g.A.Access.seen a.access) a.worker.seat a.worker.desks.items can (subst (λ k. HasOne a.lines.now a.from a.to k ⊎ HasStopIn fs phase k) c.user-who.ensures c.in-Some.ensures.some.1) in (
      can.looks,
      subst (λ k. IsPlaying p.law r.meaning a.lines.now fs (noted can.looks a.notes.now.items) k a.from a.to (g.A.Access.seen a.access) a.worker.seat a.worker.desks.items) same
          (part_plays p.law r.meaning a.lines.now fs phase a.from a.to me (g.A.Access.seen a.access) a.worker.seat a.worker.desks.items a.notes.now.items c.requires.none one can),
    )

pub play_turn-part-requires-clause-own : goal.play_turn-part-requires-clause-own
play_turn-part-requires-clause-own g c = subst (AreNotesOf c.args.lines.now c.in-Some.node) (sym c.requires.none) tt

pub returns-clause-since : goal.returns-clause-since
returns-clause-since g c =
    let q = c.play_turn-part in
    subst (λ k. Since k (g.A.Access.beside k) (g.A.Access.seen c.args.access) (g.A.Access.seen q.result.access.access)) c.requires.can.rests.node.ok.who_is q.ensures.since

pub returns-clause-took : goal.returns-clause-took
returns-clause-took g c =
    let p = g.A.Law.Rules in
    let r = g.S.Replica in
    let a = c.args in
    let q = c.play_turn-part in
    let fs = a.faults.now.lines.now in
    let phase = a.faults.now.phase in
    let node = c.in-Some.node in
    let old = g.A.Access.seen a.access in
    let new = g.A.Access.seen q.result.access.access in
    let seat = a.worker.seat in
    let seat' = q.result.part.seat in
    let desks = a.worker.desks.items in
    let desks' = q.result.part.desks.items in
    let whose = c.in-Some.ensures.some.0 in
    let me = whose ∙ c.user-who.ensures in
    let from : seat.who ≡ node = c.requires.can.rests.node.ok.who_is ∙ sym me in
    subst (λ k. TookPart p.law r.meaning a.lines.now fs phase a.from a.to k old seat desks new seat' desks' q.new.notes.items (is_ok q.result.answer)) me
    (part_done p.law r.meaning a.lines.now fs phase a.from a.to node old seat desks (g.A.Access.beside node) (g.A.Access.apart node) q.result.answer new seat' desks' a.notes.now.items q.new.notes.items c.requires.none
    (subst (HasPartIn a.lines.now fs phase) (sym me) (part_of p.law r.meaning a.lines.now fs phase a.from a.to (g.A.Access.who a.access) old seat desks c.requires.can (subst (λ k. HasOne a.lines.now a.from a.to k ⊎ HasStopIn fs phase k) c.user-who.ensures c.in-Some.ensures.some.1))) (q.ensures.who ∙ from) q.ensures.stands
    (subst (λ k. Since k (g.A.Access.beside k) old new) from q.ensures.since) q.ensures.own q.ensures.goes q.ensures.armed)

pub returns-in_default-clause-since : goal.returns-in_default-clause-since
returns-in_default-clause-since g c =
    let me = g.A.Access.who c.args.access in
    since_none me (g.A.Access.beside me) (g.A.Access.seen c.args.access) (g.A.Access.seen c.args.access) refl

pub returns-in_default-clause-took : goal.returns-in_default-clause-took
returns-in_default-clause-took g c =
    let p = g.A.Law.Rules in
    let r = g.S.Replica in
    let a = c.args in
    let none = c.node_at_work.ensures.none c.in_default.is in
    part_idle p.law r.meaning a.lines.now a.faults.now.lines.now a.faults.now.phase a.from a.to (g.A.Access.who a.access) (g.A.Access.seen a.access) a.worker.seat a.worker.desks.items c.requires.range.0 c.requires.can
    (subst (HasNone a.lines.now a.from a.to) c.user-who.ensures none.0) (subst (λ k. stops_in k a.faults.now.phase a.faults.now.lines.now ≡ []) c.user-who.ensures none.1) a.notes.now.items c.requires.none
