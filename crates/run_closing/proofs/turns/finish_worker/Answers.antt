use Rattle.std.proofs.Common.{◌≡◌, [], refl, sym, ◌∙◌, subst}
use Rattle.std.specs.Prelude.{All}
use Rattle.turn_scopes.specs.Beside.{Since, SealsByRight}
use Rattle.turn_scopes.specs.Seats.{SeatOk, node_of}
use Rattle.turn_scopes.proofs.Alone.{narrows_alone}
use Rattle.node_lines.specs.Workers.{OwnWithin, Sends, IsOfSession, WorkerOk, sent_by}
use Rattle.node_workers.proofs.Ok.{ok_then, ok_pair}
use Rattle.node_lines.proofs.Widening.{seat_wider, moves_wider, grows-since}
use Rattle.node_lines.proofs.Scoping.{sends_grow, adds_sends}
use Rattle.node_workers.proofs.Working.{worker_moves}
use Rattle.run_closing.proofs.turns.finish_worker.Goals as goal

pub finish_within-requires-clause-narrows : goal.finish_within-requires-clause-narrows
finish_within-requires-clause-narrows g c =
    let p = g.A.Law.Rules in
    narrows_alone (record p.law { may = Sends c.args.worker.seat.who p.law.may (sent_by c.args.worker.desks.items) (g.A.Access.seen c.args.access) }) p.law (g.A.Access.beside (g.A.Access.who c.args.access)) c.requires.alone (record { may = λ who e h. h.0.0; floor = λ log n h. h; shelf = refl })

pub returns-clause-worker : goal.returns-clause-worker
returns-clause-worker g c =
    let p = g.A.Law.Rules in
    let r = g.S.Replica in
    let a = c.args.worker.seat in
    let back = c.finish_within.result in
    let b = back.part.seat in
    let was = g.A.Access.seen c.args.access in
    let now = g.A.Access.seen back.access in
    let counts = sent_by c.args.worker.desks.items in
    let e = c.finish_within.ensures in
    let who : b.who ≡ a.who = e.sits ∙ (e.who ∙ sym c.requires.who) in
    let grows = grows-since b.who (g.A.Access.beside b.who) was now e.since in
    ok_then back.answer (ok_pair _ _ back.answer e.moves e.kept)
    (λ x h. subst (λ ds. WorkerOk p.law r.meaning a.who now b ds.items) (sym e.desks) (worker_moves p.law c.requires.run r.meaning a.who counts was now a b c.args.worker.desks.items [] refl c.requires.worker
    (subst (λ w. SeatOk (record p.law { may = Sends w p.law.may counts now }) r.meaning now b) (sym who)
    (seat_wider (record p.law { may = Sends a.who p.law.may counts was }) (record p.law { may = Sends a.who p.law.may counts now }) (record { may = λ user y k. sends_grow a.who p.law.may counts was now grows user y k; floor = λ log n k. k; shelf = refl }) r.meaning now b e.seat))
    (subst (All IsOfSession) (sym h.1) c.requires.worker.waits)
    (moves_wider (record p.law { may = Sends a.who p.law.may counts was }) (record p.law { may = OwnWithin a.who p.law.may counts }) (record { may = λ user y k. k.0; floor = λ log n k. k; shelf = refl }) (node_of a was) (node_of b now) [] h.0)))

pub returns-clause-moves : goal.returns-clause-moves
returns-clause-moves g c =
    let p = g.A.Law.Rules in
    let a = c.args.worker.seat in
    let back = c.finish_within.result in
    let was = g.A.Access.seen c.args.access in
    let now = g.A.Access.seen back.access in
    let counts = sent_by c.args.worker.desks.items in
    ok_then back.answer c.finish_within.ensures.moves
    (λ x h. moves_wider (record p.law { may = Sends a.who p.law.may counts was }) (record p.law { may = OwnWithin a.who p.law.may counts }) (record { may = λ user y k. k.0; floor = λ log n k. k; shelf = refl }) (node_of a was) (node_of back.part.seat now) [] h)

pub returns-clause-adds : goal.returns-clause-adds
returns-clause-adds g c =
    let p = g.A.Law.Rules in
    adds_sends c.args.worker.seat.who p.law.may (sent_by c.args.worker.desks.items) p.law (g.A.Access.seen c.args.access) (g.A.Access.seen c.finish_within.result.access) c.finish_within.ensures.seat.node.legal

pub returns-clause-left : goal.returns-clause-left
returns-clause-left g c =
    let p = g.A.Law.Rules in
    let r = g.S.Replica in
    let e = c.finish_within.ensures in
    let b = c.finish_within.result.part.seat in
    let was = g.A.Access.seen c.args.access in
    let now = g.A.Access.seen c.finish_within.result.access in
    let who : b.who ≡ c.args.worker.seat.who = e.sits ∙ (e.who ∙ sym c.requires.who) in
    record {
      stands = seat_wider (record p.law { may = Sends c.args.worker.seat.who p.law.may (sent_by c.args.worker.desks.items) was }) p.law (record { may = λ user x k. k.0.0; floor = λ log n k. k; shelf = refl }) r.meaning now b e.seat;
      who = who;
      since = subst (λ w. Since w (g.A.Access.beside w) was now) who e.since;
      seals = subst (λ w. SealsByRight ⊥ w was now) who e.right;
    }
