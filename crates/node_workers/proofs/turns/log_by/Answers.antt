use Rattle.std.proofs.Common.{◌≡◌, sym, ap, ◌∙◌, subst, length, arith}
use Rattle.std.specs.Prelude.{slice_set}
use Rattle.turn_scopes.specs.Seats.{SeatOk, node_of}
use Rattle.node_lines.specs.Workers.{LogsIt, Sends, WorkerOk, sent_by, sent_of}
use Rattle.node_lines.proofs.Sent.{sent_at, sent_set, sent_size}
use Rattle.node_workers.proofs.Logging.{worker_logs}
use Rattle.node_workers.proofs.Ok.{ok_then, ok_pair}
use Rattle.node_workers.proofs.Working.{desk_there, seat_by}
use Rattle.node_workers.proofs.turns.log_by.Goals as goal

pub log_at-seat-requires-clause-desk : goal.log_at-seat-requires-clause-desk
log_at-seat-requires-clause-desk g c =
    let d = c.index_mut.result.now in
    c.requires.worker.each c.args.session d (desk_there c.args.worker.desks.items c.from-i.result c.number.result c.args.session d c.requires.worker.size c.number.ensures.range c.from-i.ensures c.number.ensures.value c.index_mut.ensures.value)

pub log_at-seat-requires-clause-seat : goal.log_at-seat-requires-clause-seat
log_at-seat-requires-clause-seat g c =
    let p = g.A.Law.Rules in
    let r = g.S.Replica in
    let a = c.args.worker.seat in
    seat_by p.law c.requires.run r.meaning a.who g.E.Sent.counts (g.A.Access.seen c.args.access) a c.args.worker.desks.items c.requires.sent c.requires.worker

pub log_at-seat-requires-clause-wide : goal.log_at-seat-requires-clause-wide
log_at-seat-requires-clause-wide g c =
    let size : length g.E.Sent.counts ≡ 64 = ap length c.requires.sent ∙ sent_size c.args.worker.desks.items ∙ c.requires.worker.size in
    omega (arith, size, c.number.ensures.range, c.number.ensures.value)

pub log_at-seat-requires-clause-sent : goal.log_at-seat-requires-clause-sent
log_at-seat-requires-clause-sent g c =
    let d = c.index_mut.result.now in
    let at = desk_there c.args.worker.desks.items c.from-i.result c.number.result c.args.session d c.requires.worker.size c.number.ensures.range c.from-i.ensures c.number.ensures.value c.index_mut.ensures.value in
    sym (ap (λ cs. sent_of cs c.args.session) c.requires.sent ∙ sent_at c.args.worker.desks.items c.args.session d at)

pub log_at-seat-requires-clause-few : goal.log_at-seat-requires-clause-few
log_at-seat-requires-clause-few g c =
    let d = c.index_mut.result.now in
    c.requires.few d (desk_there c.args.worker.desks.items c.from-i.result c.number.result c.args.session d c.requires.worker.size c.number.ensures.range c.from-i.ensures c.number.ensures.value c.index_mut.ensures.value)

pub log_at-seat-requires-clause-own : goal.log_at-seat-requires-clause-own
log_at-seat-requires-clause-own g c =
    let d = c.index_mut.result.now in
    c.requires.own d (desk_there c.args.worker.desks.items c.from-i.result c.number.result c.args.session d c.requires.worker.size c.number.ensures.range c.from-i.ensures c.number.ensures.value c.index_mut.ensures.value)

pub returns-clause-worker : goal.returns-clause-worker
returns-clause-worker g c =
    let p = g.A.Law.Rules in
    let r = g.S.Replica in
    let xs = c.args.worker.desks.items in
    let d = c.index_mut.result.now in
    let new = c.log_at-seat.new.desk in
    let s = c.args.session in
    let a = c.args.worker.seat in
    let back = c.log_at-seat.result in
    let at = desk_there xs c.from-i.result c.number.result s d c.requires.worker.size c.number.ensures.range c.from-i.ensures c.number.ensures.value c.index_mut.ensures.value in
    let counts' = slice_set g.E.Sent.counts s new.sent in
    let same : counts' ≡ sent_by (slice_set xs s new) = ap (λ cs. slice_set cs s new.sent) c.requires.sent ∙ sym (sent_set xs s new) in
    ok_then back.answer (ok_pair _ _ back.answer (ok_pair _ _ back.answer c.log_at-seat.ensures.ok c.log_at-seat.ensures.waits) (ok_pair _ _ back.answer c.log_at-seat.ensures.desk c.log_at-seat.ensures.logs))
    (λ x h. subst (λ k. WorkerOk p.law r.meaning a.who (g.A.Access.seen back.access) back.part (slice_set xs k new)) (sym (c.from-i.ensures ∙ c.number.ensures.value))
    (worker_logs p.law c.requires.run.low r.meaning a.who counts' (g.A.Access.seen c.args.access) (g.A.Access.seen back.access) a back.part xs s d new c.requires.worker c.requires.home
    (subst (λ cs. SeatOk (record p.law { may = Sends back.part.who p.law.may cs (g.A.Access.seen back.access) }) r.meaning (g.A.Access.seen back.access) back.part) same h.0.0) h.0.1 at h.1.0 h.1.1))

pub returns-clause-logs : goal.returns-clause-logs
returns-clause-logs g c =
    let p = g.A.Law.Rules in
    let xs = c.args.worker.desks.items in
    let d = c.index_mut.result.now in
    let new = c.log_at-seat.new.desk in
    let s = c.args.session in
    let back = c.log_at-seat.result in
    let e = c.from-i.ensures ∙ c.number.ensures.value in
    let at = desk_there xs c.from-i.result c.number.result s d c.requires.worker.size c.number.ensures.range c.from-i.ensures c.number.ensures.value c.index_mut.ensures.value in
    let same = ap (λ cs. slice_set cs s new.sent) c.requires.sent ∙ sym (sent_set xs s new) ∙ ap (λ k. sent_by (slice_set xs k new)) (sym e) in
    ok_then back.answer c.log_at-seat.ensures.logs
    (λ x h. record {
      before = d;
      was_at = at;
      after = new;
      is_at = ap (λ k. slice_set xs k new) e;
      logs = subst (λ cs. LogsIt p.law cs (node_of c.args.worker.seat (g.A.Access.seen c.args.access)) (node_of back.part (g.A.Access.seen back.access)) s d new) same h;
    })
