use Rattle.std.proofs.Common.{⊎_elim, inl, inr, refl, arith}
use Rattle.turn_scopes.specs.Seats.{node_of}
use Rattle.node_lines.specs.Turns.{AllAnswered}
use Rattle.node_lines.specs.Workers.{IsKept, Sends, sent_by}
use Rattle.node_lines.proofs.Scoping.{keeps_low}
use Rattle.node_lines.proofs.Sent.{sent_at}
use Rattle.node_workers.proofs.Ok.{ok_then, ok_pair}
use Rattle.node_workers.proofs.Working.{worker_ends}
use Rattle.node_workers.proofs.turns.end_phase.Goals as goal

pub in_turn-seat-requires-clause-can : goal.in_turn-seat-requires-clause-can
in_turn-seat-requires-clause-can g c =
    let p = g.A.Law.Rules in
    let w = c.args.worker in
    let seen = g.A.Access.seen c.args.access in
    let so = IsKept g.A.Access.beside p.law.floor w.seat seen in (
      c.requires.worker.packs,
      c.requires.worker.each,
      λ s d at some user e k allowed has. omega (arith, allowed.0.1 (c.requires.worker.home s d at some user k e allowed.0.0 has) s k has, sent_at w.desks.items s d at),
      ⊎_elim (λ (kept : so). inl (keeps_low (record p.law { may = Sends w.seat.who p.law.may (sent_by w.desks.items) seen }) so kept w.seat.node.replica.cursor))
          (λ (all : AllAnswered (node_of w.seat seen) w.desks.items). inr all) c.requires.stays,
    )

pub returns-clause-worker : goal.returns-clause-worker
returns-clause-worker g c =
    let p = g.A.Law.Rules in
    let r = g.S.Replica in
    let back = c.in_turn-seat.result in
    ok_then back.answer (ok_pair _ _ back.answer c.in_turn-seat.ensures.ok c.in_turn-seat.ensures.did)
    (λ failed h. worker_ends p.law c.requires.run r.meaning c.args.worker.seat.who (sent_by c.args.worker.desks.items) (g.A.Access.seen c.args.access) (g.A.Access.seen back.access) c.args.worker.seat back.part c.args.worker.desks.items c.in_turn-seat.new.on.items failed refl c.requires.worker h.0 h.1)
