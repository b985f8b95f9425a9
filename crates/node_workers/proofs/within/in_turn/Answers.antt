use Rattle.std.proofs.Common.{◌≡◌, refl, sym, ◌∙◌}
use Rattle.journal_laws.proofs.Changes.{upto_low}
use Rattle.turn_scopes.specs.Seats.{SeatOk, node_of}
use Rattle.node_lines.specs.Workers.{OwnWithin, Sends, OwnAdds, IsKept, IsOfSessions}
use Rattle.node_lines.specs.Steps.{UpToIf}
use Rattle.node_lines.proofs.Keeping.{narrows_beside, still_beside}
use Rattle.node_lines.proofs.Widening.{grows-since}
use Rattle.node_lines.proofs.Scoping.{keeps_low, kept_by, seat_begins, left_by, ok_by, adds_sends, always}
use Rattle.node_workers.proofs.Ok.{ok_then}
use Rattle.node_workers.proofs.within.in_turn.Goals as goal

pub within-requires-clause-floor : goal.within-requires-clause-floor
within-requires-clause-floor g c = λ log n h. c.requires.run.low log n h.0

pub within-requires-clause-narrows : goal.within-requires-clause-narrows
within-requires-clause-narrows g c =
    let p = g.A.Law.Rules in
    let seen = g.A.Access.seen c.args.access in
    narrows_beside p.law c.requires.run g.A.Access.beside g.E.Sent.counts seen c.args.seat (IsKept g.A.Access.beside p.law.floor c.args.seat seen) (λ k. k.keeps) (g.A.Access.who c.args.access) c.requires.who
    (λ user h. g.A.Access.apart (g.A.Access.who c.args.access) user h)

pub within-requires-clause-seat : goal.within-requires-clause-seat
within-requires-clause-seat g c =
    let p = g.A.Law.Rules in
    let r = g.S.Replica in
    let a = c.args.seat in
    let seen = g.A.Access.seen c.args.access in
    seat_begins p.law a.who g.E.Sent.counts r.meaning (IsKept g.A.Access.beside p.law.floor a seen) a.node.replica.cursor seen a (λ k. k.high) c.requires.seat

pub within-requires-clause-stays : goal.within-requires-clause-stays
within-requires-clause-stays g c = λ is.
    let p = g.A.Law.Rules in
    let seen = g.A.Access.seen c.args.access in
    keeps_low (record p.law { may = Sends c.args.seat.who p.law.may g.E.Sent.counts seen }) (IsKept g.A.Access.beside p.law.floor c.args.seat seen) (c.requires.stays is) c.args.seat.node.replica.cursor

pub returns-clause-left : goal.returns-clause-left
returns-clause-left g c =
    let p = g.A.Law.Rules in
    let r = g.S.Replica in
    let a = c.args.seat in
    let old = g.A.Access.seen c.args.access in
    let who : c.within.result.part.who ≡ a.who = c.within.ensures.sits ∙ (c.within.ensures.who ∙ sym c.requires.who) in
    left_by p.law a.who g.E.Sent.counts r.meaning g.A.Access.beside g.X.NodeStep.seals (IsKept g.A.Access.beside p.law.floor a old) a.node.replica.cursor old (g.A.Access.seen c.within.result.access) a c.within.result.part who
    c.within.ensures.since c.within.ensures.right c.within.ensures.seat

pub returns-clause-ok : goal.returns-clause-ok
returns-clause-ok g c =
    let p = g.A.Law.Rules in
    let r = g.S.Replica in
    let a = c.args.seat in
    let b = c.within.result.part in
    let old = g.A.Access.seen c.args.access in
    let new = g.A.Access.seen c.within.result.access in
    let who : b.who ≡ a.who = c.within.ensures.sits ∙ (c.within.ensures.who ∙ sym c.requires.who) in
    always (SeatOk (record p.law { may = Sends b.who p.law.may g.E.Sent.counts new }) r.meaning new b)
    (ok_by p.law a.who g.E.Sent.counts r.meaning (IsKept g.A.Access.beside p.law.floor a old) a.node.replica.cursor old new b who (grows-since b.who (g.A.Access.beside b.who) old new c.within.ensures.since) c.within.ensures.seat)
    c.within.result.answer

pub returns-clause-kept : goal.returns-clause-kept
returns-clause-kept g c = λ kept.
    let p = g.A.Law.Rules in
    let x = g.X.NodeStep in
    let a = c.args.seat in
    let b = c.within.result.part in
    let old = g.A.Access.seen c.args.access in
    let new = g.A.Access.seen c.within.result.access in
    let so = IsKept g.A.Access.beside p.law.floor a old in
    let sends = Sends a.who p.law.may g.E.Sent.counts old in
    let low = UpToIf so p.law.floor a.node.replica.cursor in
    ok_then c.within.result.answer c.within.ensures.did
    (λ answer h.
    let k = x.keeps (record p.law { may = sends; floor = low }) c.args.step c.args.on.now c.within.new.on (node_of a old) (node_of b new) answer h in
    kept_by (record p.law { may = sends }) so kept g.A.Access.beside a.node.replica.cursor new b k.forward c.within.ensures.seat.node.legal
    (still_beside p.law c.requires.run g.A.Access.beside g.E.Sent.counts old a so (λ s. s.keeps) low new b k.who k.nodes k.forward c.within.ensures.seat.node.legal kept))

pub returns-clause-adds : goal.returns-clause-adds
returns-clause-adds g c =
    let p = g.A.Law.Rules in
    let a = c.args.seat in
    let old = g.A.Access.seen c.args.access in
    let new = g.A.Access.seen c.within.result.access in
    always (OwnAdds a.who IsOfSessions old new)
    (adds_sends a.who p.law.may g.E.Sent.counts (record p.law { floor = UpToIf (IsKept g.A.Access.beside p.law.floor a old) p.law.floor a.node.replica.cursor }) old new c.within.ensures.seat.node.legal) c.within.result.answer

pub returns-clause-did : goal.returns-clause-did
returns-clause-did g c =
    let p = g.A.Law.Rules in
    let a = c.args.seat in
    let old = g.A.Access.seen c.args.access in
    let sends = Sends a.who p.law.may g.E.Sent.counts old in
    let low = UpToIf (IsKept g.A.Access.beside p.law.floor a old) p.law.floor a.node.replica.cursor in
    ok_then c.within.result.answer c.within.ensures.did
    (λ answer h. g.X.NodeStep.wider (record p.law { may = sends; floor = low }) (record p.law { may = OwnWithin a.who p.law.may g.E.Sent.counts }) (record { may = λ user e k. k.0; floor = λ log n k. k.0; shelf = refl }) c.args.step c.args.on.now c.within.new.on (node_of a old) (node_of c.within.result.part (g.A.Access.seen c.within.result.access)) answer h)

pub returns-clause-low : goal.returns-clause-low
returns-clause-low g c = λ kept.
    let p = g.A.Law.Rules in
    let a = c.args.seat in
    let old = g.A.Access.seen c.args.access in
    let m = a.node.replica.cursor in
    upto_low (record p.law { may = Sends a.who p.law.may g.E.Sent.counts old; floor = UpToIf (IsKept g.A.Access.beside p.law.floor a old) p.law.floor m }) m (λ log n h. h.1 kept) (g.A.Access.seen c.within.result.access) c.within.ensures.seat.node.legal
