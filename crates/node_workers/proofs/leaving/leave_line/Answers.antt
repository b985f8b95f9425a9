use Rattle.std.proofs.Common.{refl, arith}
use Rattle.node_lines.specs.Workers.{sent_by}
use Rattle.node_lines.proofs.Sent.{sent_at}
use Rattle.node_workers.proofs.Ok.{ok_then, ok_pair}
use Rattle.node_workers.proofs.Working.{none-waits, worker_answers}
use Rattle.node_workers.proofs.leaving.leave_line.Goals as goal

pub leave_at-seat-requires-clause-bound : goal.leave_at-seat-requires-clause-bound
leave_at-seat-requires-clause-bound g c = λ s d at some user e k allowed has. omega (arith, allowed.0.1 (c.requires.worker.home s d at some user k e allowed.0.0 has) s k has, sent_at c.args.worker.desks.items s d at)

pub returns-clause-worker : goal.returns-clause-worker
returns-clause-worker g c =
    let p = g.A.Law.Rules in
    let r = g.S.Replica in
    let a = c.args.worker.seat in
    let back = c.leave_at-seat.result in
    let e = c.leave_at-seat.ensures in
    ok_then back.answer (ok_pair _ _ back.answer (ok_pair _ _ back.answer e.ok e.each) (ok_pair _ _ back.answer e.desks e.leaves))
    (λ l h. worker_answers p.law c.requires.run r.meaning a.who (sent_by c.args.worker.desks.items) (g.A.Access.seen c.args.access) (g.A.Access.seen back.access) a back.part c.args.worker.desks.items c.leave_at-seat.new.desks.items h.1.1.others
    refl c.requires.worker h.0.0 (none-waits back.part h.1.1.kept) h.1.1.moves h.0.1 h.1.0.0 h.1.0.1)

pub returns-clause-desks : goal.returns-clause-desks
returns-clause-desks g c = ok_then c.leave_at-seat.result.answer c.leave_at-seat.ensures.desks (λ l h. h.1)
