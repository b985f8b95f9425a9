use Rattle.std.proofs.Common.{sym, ◌∙◌, subst, length}
use Rattle.turn_scopes.specs.Floors.{FloorIs}
use Rattle.node_workers.proofs.Ok.{ok_then, on_ok}
use Rattle.node_crew.specs.Arming.{ArmedByStops}
use Rattle.crew_run.proofs.Arming.{stops_then}
use Rattle.crew_run.proofs.Telling.{has_acted}
use Rattle.crew_run.proofs.tell.tell.Goals as goal

pub close-crew-requires-clause-floor : goal.close-crew-requires-clause-floor
close-crew-requires-clause-floor g c = subst (FloorIs g.K.Terms.law.floor) (sym c.play_phases-crew.ensures.size) c.requires.floor

pub tell_closed-requires-clause-floor : goal.tell_closed-requires-clause-floor
tell_closed-requires-clause-floor g c = subst (FloorIs g.K.Terms.law.floor) (sym (c.close-crew.ensures.size ∙ c.play_phases-crew.ensures.size)) c.requires.floor

pub returns-in-Ok-answer-clause-acted : goal.returns-in-Ok-answer-clause-acted
returns-in-Ok-answer-clause-acted g c =
    let played = c.play_phases-crew.result.crew.fabric.journal in
    let closed = c.close-crew.result.crew.fabric.journal in
    let told = c.tell_closed.result.crew.fabric.journal in
    ok_then c.tell_closed.result.answer c.tell_closed.ensures.mends (λ t mends.
    has_acted (length g.K.Terms.law.shelf) c.args.faults.now played closed told (on_ok _ c.in-Ok.is c.play_phases-crew.ensures.acted) (on_ok _ c.in-Ok-answer.is c.close-crew.ensures.mends) mends)

pub returns-in-Ok-answer-clause-armed : goal.returns-in-Ok-answer-clause-armed
returns-in-Ok-answer-clause-armed g c =
    let h = on_ok _ c.in-Ok.is c.play_phases-crew.ensures.armed in
    let closed = on_ok _ c.in-Ok-answer.is c.close-crew.ensures.armed in
    ok_then c.tell_closed.result.answer c.tell_closed.ensures.mends (λ t mends.
    subst (ArmedByStops c.args.faults.now (λ w. w.seat.node.replica) c.args.crew.workers.items) (sym c.tell_closed.ensures.workers)
    (stops_then c.args.faults.now (λ w. w.seat.node.replica) c.args.crew.workers.items c.play_phases-crew.result.crew.workers.items c.close-crew.result.crew.workers.items h closed))
