use Rattle.std.proofs.Common.{sym, ap, ◌∙◌, subst, arith}
use Rattle.node_lines.specs.declared.desk.Desk.{Desk}
use Rattle.turn_scopes.specs.Seats.{node_of}
use Rattle.node_lines.specs.Desks.{DeskOk}
use Rattle.node_lines.specs.Lines.{Looks}
use Rattle.node_lines.specs.Workers.{OwnWithin, sent_by, sent_of}
use Rattle.node_lines.specs.UnderWay.{HasRank}
use Rattle.node_lines.proofs.Sent.{sent_at}
use Rattle.node_lines.proofs.Turning.{same_at}
use Rattle.node_workers.proofs.Ok.{ok_then, ok_pair}
use Rattle.node_workers.proofs.Working.{desk_there, none-waits, seat_by, worker_moves}
use Rattle.node_workers.proofs.turns.look_by.Goals as goal

pub in_turn-seat-requires-clause-can : goal.in_turn-seat-requires-clause-can
in_turn-seat-requires-clause-can g c =
    let d = c.index.result.now in
    let at = desk_there c.args.worker.desks.items c.from-i.result c.number.result c.args.session d c.requires.worker.size c.number.ensures.range c.from-i.ensures c.number.ensures.value c.index.ensures in
    let ok = c.requires.worker.each c.args.session d at in
    let sent = sym (sent_at c.args.worker.desks.items c.args.session d at) ∙ ap (sent_of (sent_by c.args.worker.desks.items)) (sym ok.session) ∙ ap (λ cs. sent_of cs d.session) (sym c.requires.sent) in (
      c.requires.worker.packs,
      subst (λ k. DeskOk (node_of c.args.worker.seat (g.A.Access.seen c.args.access)) k d) (sym ok.session) ok,
      λ user e k allowed has.
          let own = c.requires.home user k e allowed.0.0 (subst (λ s. HasRank s k e) ok.session has) in
          omega (arith, allowed.0.1 own d.session k has, sent),
    )

pub in_turn-seat-requires-clause-seat : goal.in_turn-seat-requires-clause-seat
in_turn-seat-requires-clause-seat g c =
    let p = g.A.Law.Rules in
    let r = g.S.Replica in
    let a = c.args.worker.seat in
    seat_by p.law c.requires.run r.meaning a.who g.E.Sent.counts (g.A.Access.seen c.args.access) a c.args.worker.desks.items c.requires.sent c.requires.worker

pub returns-clause-worker : goal.returns-clause-worker
returns-clause-worker g c =
    let p = g.A.Law.Rules in
    let r = g.S.Replica in
    let back = c.in_turn-seat.result in
    ok_then back.answer (ok_pair _ _ back.answer c.in_turn-seat.ensures.ok c.in_turn-seat.ensures.did)
    (λ x h. worker_moves p.law c.requires.run r.meaning c.args.worker.seat.who g.E.Sent.counts (g.A.Access.seen c.args.access) (g.A.Access.seen back.access) c.args.worker.seat back.part c.args.worker.desks.items h.1.0.others c.requires.sent c.requires.worker h.0 (none-waits back.part h.1.1) h.1.0.moves)

pub returns-clause-looks : goal.returns-clause-looks
returns-clause-looks g c =
    let p = g.A.Law.Rules in
    let xs = c.args.worker.desks.items in
    let d = c.index.result.now in
    let s = c.args.session in
    let back = c.in_turn-seat.result in
    let at = desk_there xs c.from-i.result c.number.result s d c.requires.worker.size c.number.ensures.range c.from-i.ensures c.number.ensures.value c.index.ensures in
    ok_then back.answer c.in_turn-seat.ensures.did
    (λ l h other there. subst (λ (x : Desk). Looks (record p.law { may = OwnWithin c.args.worker.seat.who p.law.may (sent_by xs) }) (node_of c.args.worker.seat (g.A.Access.seen c.args.access)) (node_of back.part (g.A.Access.seen back.access)) x c.args.query.now l) (same_at xs s d other at there)
    (subst (λ cs. Looks (record p.law { may = OwnWithin c.args.worker.seat.who p.law.may cs }) (node_of c.args.worker.seat (g.A.Access.seen c.args.access)) (node_of back.part (g.A.Access.seen back.access)) d c.args.query.now l) c.requires.sent h.0))

pub returns-clause-kept : goal.returns-clause-kept
returns-clause-kept g c = c.in_turn-seat.ensures.kept c.requires.kept
