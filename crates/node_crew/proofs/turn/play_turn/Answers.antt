use Rattle.std.proofs.Common.{sym, ◌∙◌, subst, ◌+◌}
use Rattle.virtual_log.specs.Sealing.{SealsNone}
use Rattle.turn_scopes.specs.Beside.{Since}
use Rattle.turn_scopes.specs.Seats.{node_of}
use Rattle.turn_scopes.proofs.Beside.{since_both}
use Rattle.node_lines.specs.Turns.{EndsTurn}
use Rattle.node_lines.specs.Workers.{WorkerOk, OwnWithin, OwnAdds, IsOfSessions, sent_by}
use Rattle.node_course.specs.Script.{BeginsAt}
use Rattle.node_course.specs.Workers.{Rests}
use Rattle.node_course.proofs.Ending.{phase_ended}
use Rattle.node_course.specs.FaultLines.{stops_in}
use Rattle.node_course.proofs.Joining.{goes_both}
use Rattle.node_lines.proofs.Arming.{ends_arms}
use Rattle.node_crew.proofs.Stopping.{armed_then}
use Rattle.node_crew.specs.Notes.{noted}
use Rattle.node_crew.proofs.Playing.{left_still}
use Rattle.node_workers.proofs.Ok.{in_ok, on_ok}
use Rattle.node_crew.proofs.turn.play_turn.Goals as goal

pub end_phase-worker-requires-clause-who : goal.end_phase-worker-requires-clause-who
end_phase-worker-requires-clause-who g c =
    let q = c.play_lines-worker in
    q.ensures.who ∙ (c.requires.node ∙ (sym c.requires.who ∙ sym q.ensures.whose))

pub end_phase-worker-requires-clause-worker : goal.end_phase-worker-requires-clause-worker
end_phase-worker-requires-clause-worker g c =
    let p = g.A.Law.Rules in
    let r = g.S.Replica in
    let a = c.args in
    let q = c.play_lines-worker in
    let b = c.requires.playing.0 in
    let t = c.requires.playing.1 in
    let who = q.ensures.who ∙ c.requires.node in
    let w = on_ok _ c.in-Ok.is (q.ensures.goes t.home t.nodes t.course b t.now t.ends) in
    subst (λ k. WorkerOk p.law r.meaning k (g.A.Access.seen q.result.access) q.result.part.seat q.result.part.desks.items) (sym who)
    (subst (λ j. WorkerOk p.law r.meaning a.node j q.result.part.seat q.result.part.desks.items) w.seen_is w.node.ok)

pub end_phase-worker-requires-clause-stays : goal.end_phase-worker-requires-clause-stays
end_phase-worker-requires-clause-stays g c = on_ok _ c.in-Ok.is c.play_lines-worker.ensures.ends

pub returns-in-Ok-answer-clause-goes : goal.returns-in-Ok-answer-clause-goes
returns-in-Ok-answer-clause-goes g c = λ home nodes course base u ends.
    let p = g.A.Law.Rules in
    let r = g.S.Replica in
    let a = c.args in
    let q = c.play_lines-worker in
    let e = c.end_phase-worker in
    let looks = noted base q.new.notes.items in
    let seat = q.result.part.seat in
    let seat' = e.result.part.seat in
    let desks = q.result.part.desks.items in
    let desks' = e.result.part.desks.items in
    let mid = g.A.Access.seen q.result.access in
    let new = g.A.Access.seen e.result.access in
    let who = q.ensures.who ∙ c.requires.node in
    let w = on_ok _ c.in-Ok.is (q.ensures.goes home nodes course base u ends) in
    let over = subst (λ n. BeginsAt a.lines.now a.to (n + 1)) (sym w.goes.phase) ends in
    let still = subst (λ j. SealsNone a.node j new) (sym w.seen_is) (subst (λ k. SealsNone k mid new) who (left_still e.ensures.left)) in
    let adds = subst (λ j. OwnAdds a.node IsOfSessions j new) (sym w.seen_is) (subst (λ k. OwnAdds k IsOfSessions mid new) who (in_ok _ c.in-Ok-answer.is e.ensures.adds)) in
    let does = subst (λ j. EndsTurn (record p.law { may = OwnWithin a.node p.law.may (sent_by desks) }) (node_of seat j) (node_of seat' new) desks desks' c.in-Ok-answer._failed) (sym w.seen_is)
    (subst (λ k. EndsTurn (record p.law { may = OwnWithin k p.law.may (sent_by desks) }) (node_of seat mid) (node_of seat' new) desks desks' c.in-Ok-answer._failed) who (in_ok _ c.in-Ok-answer.is e.ensures.ends)) in
    let now = subst (λ k. WorkerOk p.law r.meaning k new seat' desks') who (in_ok _ c.in-Ok-answer.is e.ensures.worker) in
    let t = phase_ended p.law r.meaning c.requires.run a.lines.now home nodes w.course looks a.node a.from a.to c.in-Ok-answer._failed seat seat' desks desks' new u.lines_are over w.node still adds does now in
    record {
      course = t.course;
      seen_is = t.seen_is;
      goes = goes_both course w.course t.course w.goes t.goes;
      rests = subst (λ k. Rests p.law r.meaning a.lines.now home nodes t.course looks a.node a.to (k + 1) seat' desks') w.goes.phase t.rests;
    }

pub returns-in-Ok-answer-clause-since : goal.returns-in-Ok-answer-clause-since
returns-in-Ok-answer-clause-since g c =
    let q = c.play_lines-worker in
    let e = c.end_phase-worker in
    let me = c.args.worker.seat.who in
    since_both me (g.A.Access.beside me) (g.A.Access.seen c.args.access) (g.A.Access.seen q.result.access) (g.A.Access.seen e.result.access) q.ensures.since
    (subst (λ k. Since k (g.A.Access.beside k) (g.A.Access.seen q.result.access) (g.A.Access.seen e.result.access)) q.ensures.who e.ensures.left.since)

pub returns-in-Err-answer-clause-since : goal.returns-in-Err-answer-clause-since
returns-in-Err-answer-clause-since g c =
    let q = c.play_lines-worker in
    let e = c.end_phase-worker in
    let me = c.args.worker.seat.who in
    since_both me (g.A.Access.beside me) (g.A.Access.seen c.args.access) (g.A.Access.seen q.result.access) (g.A.Access.seen e.result.access) q.ensures.since
    (subst (λ k. Since k (g.A.Access.beside k) (g.A.Access.seen q.result.access) (g.A.Access.seen e.result.access)) q.ensures.who e.ensures.left.since)

pub returns-in-Ok-answer-clause-armed : goal.returns-in-Ok-answer-clause-armed
returns-in-Ok-answer-clause-armed g c =
    let a = c.args in
    let q = c.play_lines-worker in
    let e = c.end_phase-worker in
    let seat = q.result.part.seat in
    let seat' = e.result.part.seat in
    armed_then (stops_in a.node a.faults.now.phase a.faults.now.lines.now) a.worker.seat.node.replica seat.node.replica seat'.node.replica (on_ok _ c.in-Ok.is q.ensures.armed)
    (ends_arms _ (node_of seat (g.A.Access.seen q.result.access)) (node_of seat' (g.A.Access.seen e.result.access)) q.result.part.desks.items e.result.part.desks.items c.in-Ok-answer._failed (in_ok _ c.in-Ok-answer.is e.ensures.ends))
