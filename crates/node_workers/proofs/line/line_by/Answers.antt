use Rattle.std.proofs.Common.{subst}
use Rattle.turn_scopes.specs.Seats.{node_of}
use Rattle.node_lines.specs.Workers.{OwnWithin}
use Rattle.node_workers.proofs.Ok.{ok_then, ok_pair}
use Rattle.node_workers.proofs.Working.{none-waits, seat_by, worker_moves}
use Rattle.node_workers.proofs.line.line_by.Goals as goal

pub go-seat-requires-clause-seat : goal.go-seat-requires-clause-seat
go-seat-requires-clause-seat g c =
    let p = g.A.Law.Rules in
    let r = g.S.Replica in
    let a = c.args.worker.seat in
    seat_by p.law c.requires.run r.meaning a.who g.E.Sent.counts (g.A.Access.seen c.args.access) a c.args.worker.desks.items c.requires.sent c.requires.worker

pub returns-clause-did : goal.returns-clause-did
returns-clause-did g c =
    let p = g.A.Law.Rules in
    let a = c.args.worker.seat in
    let b = c.go-seat.result.part in
    ok_then c.go-seat.result.answer c.go-seat.ensures.did
    (λ x h. subst (λ counts. g.Y.OwnLine.did (record p.law { may = OwnWithin a.who p.law.may counts }) c.args.line (node_of a (g.A.Access.seen c.args.access)) (node_of b (g.A.Access.seen c.go-seat.result.access)) x) c.requires.sent h)

pub returns-clause-worker : goal.returns-clause-worker
returns-clause-worker g c =
    let p = g.A.Law.Rules in
    let r = g.S.Replica in
    let a = c.args.worker.seat in
    let b = c.go-seat.result.part in
    let was = g.A.Access.seen c.args.access in
    let now = g.A.Access.seen c.go-seat.result.access in
    let desks = c.args.worker.desks.items in
    ok_then c.go-seat.result.answer (ok_pair _ _ c.go-seat.result.answer c.go-seat.ensures.ok c.go-seat.ensures.did)
    (λ x h.
    let came = g.Y.OwnLine.moves (record p.law { may = OwnWithin a.who p.law.may g.E.Sent.counts }) c.args.line (node_of a was) (node_of b now) x h.1 in
    worker_moves p.law c.requires.run r.meaning a.who g.E.Sent.counts was now a b desks came.others c.requires.sent c.requires.worker h.0 (none-waits b came.kept) came.moves)
