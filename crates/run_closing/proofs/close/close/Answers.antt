use Rattle.std.proofs.Common.{sym, ap, ◌∙◌, subst}
use Rattle.legal_journal.specs.FaultCalls.{faults_made}
use Rattle.turn_scopes.specs.Floors.{FloorIs}
use Rattle.run_closing.proofs.Taking.{takes_first}
use Rattle.run_closing.proofs.Closing.{has_closed}
use Rattle.run_closing.proofs.Mending.{mends_on}
use Rattle.run_closing.proofs.Seeing.{sees_ends}
use Rattle.node_workers.proofs.Ok.{in_ok, on_ok}
use Rattle.node_crew.specs.Arming.{NoneArmed}
use Rattle.node_crew.proofs.Arming.{none_then}
use Rattle.run_closing.proofs.close.close.Goals as goal

pub finish_all-crew-requires-clause-floor : goal.finish_all-crew-requires-clause-floor
finish_all-crew-requires-clause-floor g c = subst (FloorIs g.K.Terms.law.floor) (sym c.open_register-crew.ensures.size) c.requires.floor

pub take_all_nodes-crew-requires-clause-takes : goal.take_all_nodes-crew-requires-clause-takes
take_all_nodes-crew-requires-clause-takes g c =
    let p = g.K.Terms in
    let r = g.S.Replica in
    let q = c.finish_all-crew in
    let w = q.result.crew in
    let rests = on_ok _ c.in-Ok-answer.is q.ensures.rests in
    let most = in_ok _ c.in-Ok-answer.is q.ensures.most in
    takes_first p.law r.meaning c.args.lines.now c.args.faults.now (λ w. w.seat) (λ w. w.desks.items) w.workers.items w.fabric.journal w.looks.items rests.0 c.in-Ok-answer.most.node c.in-Ok-answer.most.cursor rests.1 most
    (in_ok _ c.in-Ok-answer.is q.ensures.sees)

pub returns-in-Ok-answer-2-clause-closed : goal.returns-in-Ok-answer-2-clause-closed
returns-in-Ok-answer-2-clause-closed g c =
    let p = g.K.Terms in
    let r = g.S.Replica in
    let q = c.take_all_nodes-crew in
    let w = q.result.crew in
    let m = c.in-Ok-answer.most in
    let takes = on_ok _ c.in-Ok-answer-2.is q.ensures.takes in
    has_closed p.law r.meaning c.args.lines.now c.args.faults.now (λ w. w.seat) (λ w. w.desks.items) w.workers.items w.fabric.journal w.looks.items m.node m.cursor takes

pub returns-in-Ok-answer-2-clause-sees : goal.returns-in-Ok-answer-2-clause-sees
returns-in-Ok-answer-2-clause-sees g c =
    let q = c.take_all_nodes-crew in
    let w = q.result.crew in
    let m = c.in-Ok-answer.most in
    let takes = on_ok _ c.in-Ok-answer-2.is q.ensures.takes in
    sees_ends w.fabric.journal (λ w. w.seat) (λ w. w.desks.items) w.workers.items m.cursor takes.sees

pub returns-in-Ok-answer-2-clause-mends : goal.returns-in-Ok-answer-2-clause-mends
returns-in-Ok-answer-2-clause-mends g c =
    let early = c.args.crew.fabric.journal in
    let opened = c.open_register-crew.result.crew.fabric.journal in
    let last = c.take_all_nodes-crew.result.crew.fabric.journal in
    mends_on 1 early opened last (on_ok _ c.in-Ok.is c.open_register-crew.ensures.mends) (ap faults_made c.take_all_nodes-crew.ensures.journal ∙ c.finish_all-crew.ensures.quiet)

pub returns-in-Ok-answer-2-clause-armed : goal.returns-in-Ok-answer-2-clause-armed
returns-in-Ok-answer-2-clause-armed g c =
    let first = c.args.crew.workers.items in
    let m = c.finish_all-crew.result.crew.workers.items in
    let q = c.take_all_nodes-crew in
    none_then (λ w. w.seat.node.replica) first m q.result.crew.workers.items
    (subst (λ l. NoneArmed (λ w. w.seat.node.replica) l m) c.open_register-crew.ensures.workers (on_ok _ c.in-Ok-answer.is c.finish_all-crew.ensures.armed))
    q.ensures.armed
