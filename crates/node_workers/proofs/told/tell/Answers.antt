use Rattle.std.proofs.Common.{◌≡◌, ◌⊎◌, refl, sym, ◌∙◌, inr, [], ◌∷◌}
use Rattle.engine_api.specs.Packing.{packed}
use Rattle.turn_scopes.specs.Seats.{node_of}
use Rattle.node_lines.specs.Workers.{OwnWithin, SendsToo, OwnAdds, StaysKept, IsOfSessions}
use Rattle.node_lines.specs.Steps.{UpToIf}
use Rattle.node_lines.proofs.Keeping.{narrows_told, still_told}
use Rattle.node_lines.proofs.Widening.{tells_wider}
use Rattle.node_lines.proofs.Scoping.{kept_by, seat_tells, left_told, ok_told, adds_told, always}
use Rattle.node_workers.proofs.Ok.{ok_then}
use Rattle.node_workers.proofs.Telling.{says_low}
use Rattle.node_workers.proofs.told.tell.Goals as goal

pub within-requires-clause-floor : goal.within-requires-clause-floor
within-requires-clause-floor g c = λ log n h. c.requires.run.low log n h.0

pub within-requires-clause-seat : goal.within-requires-clause-seat
within-requires-clause-seat g c =
    let p = g.A.Law.Rules in
    let r = g.S.Replica in
    let a = c.args.seat in
    let seen = g.A.Access.seen c.args.access in
    seat_tells p.law a.who g.E.Sent.counts r.meaning (StaysKept g.A.Access.beside p.law.floor a seen c.args.item) a.node.replica.cursor seen (packed a.node.replica.origin (c.args.item ∷ [])) a (λ k. k.kept.high) c.requires.seat

pub within-requires-clause-can : goal.within-requires-clause-can
within-requires-clause-can g c =
    let k = c.requires.can in
    record { proposable = k.proposable; plain = k.plain; none = k.none; unsettled = k.unsettled; kept = k.kept; own = (k.own, λ same. inr (inr (refl {a = packed c.args.seat.node.replica.origin (c.args.item ∷ [])}))) }

pub returns-clause-adds : goal.returns-clause-adds
returns-clause-adds g c =
    let p = g.A.Law.Rules in
    let a = c.args.seat in
    let old = g.A.Access.seen c.args.access in
    let new = g.A.Access.seen c.within.result.access in
    let told = packed a.node.replica.origin (c.args.item ∷ []) in
    always (OwnAdds a.who (λ e. IsOfSessions e ⊎ (e ≡ told)) old new)
    (adds_told a.who p.law.may g.E.Sent.counts (record p.law { floor = UpToIf (StaysKept g.A.Access.beside p.law.floor a old c.args.item) p.law.floor a.node.replica.cursor }) old new told c.within.ensures.seat.node.legal) c.within.result.answer

pub returns-clause-did : goal.returns-clause-did
returns-clause-did g c =
    let p = g.A.Law.Rules in
    let a = c.args.seat in
    let old = g.A.Access.seen c.args.access in
    let told = packed a.node.replica.origin (c.args.item ∷ []) in
    ok_then c.within.result.answer c.within.ensures.did
    (λ x h. tells_wider (record p.law { may = SendsToo a.who p.law.may g.E.Sent.counts old told; floor = UpToIf (StaysKept g.A.Access.beside p.law.floor a old c.args.item) p.law.floor a.node.replica.cursor }) (record p.law { may = OwnWithin a.who p.law.may g.E.Sent.counts }) (record { may = λ user e k. k.0; floor = λ log n k. k.0; shelf = refl }) (node_of a old)
    (node_of c.within.result.part (g.A.Access.seen c.within.result.access)) c.args.item x h)

pub within-requires-clause-narrows : goal.within-requires-clause-narrows
within-requires-clause-narrows g c =
    let p = g.A.Law.Rules in
    let a = c.args.seat in
    let seen = g.A.Access.seen c.args.access in
    narrows_told p.law c.requires.run g.A.Access.beside g.E.Sent.counts seen a (StaysKept g.A.Access.beside p.law.floor a seen c.args.item) (λ k. k.kept.keeps) (g.A.Access.who c.args.access) c.requires.who
    (λ user h. g.A.Access.apart (g.A.Access.who c.args.access) user h) (packed a.node.replica.origin (c.args.item ∷ []))
    (λ k user h. says_low a.node.replica.origin a.node.replica.cursor c.args.item c.requires.can.proposable c.requires.can.plain (k.low user h))

pub returns-clause-left : goal.returns-clause-left
returns-clause-left g c =
    let p = g.A.Law.Rules in
    let r = g.S.Replica in
    let a = c.args.seat in
    let old = g.A.Access.seen c.args.access in
    let who : c.within.result.part.who ≡ a.who = c.within.ensures.sits ∙ (c.within.ensures.who ∙ sym c.requires.who) in
    left_told p.law a.who g.E.Sent.counts r.meaning g.A.Access.beside (λ _. ⊥) (StaysKept g.A.Access.beside p.law.floor a old c.args.item) a.node.replica.cursor old (g.A.Access.seen c.within.result.access)
    (packed a.node.replica.origin (c.args.item ∷ [])) a c.within.result.part who c.within.ensures.since c.within.ensures.right c.within.ensures.seat

pub returns-clause-ok : goal.returns-clause-ok
returns-clause-ok g c =
    let p = g.A.Law.Rules in
    let r = g.S.Replica in
    let a = c.args.seat in
    let old = g.A.Access.seen c.args.access in
    ok_then c.within.result.answer c.within.ensures.did
    (λ x h. ok_told p.law a.who g.E.Sent.counts r.meaning (StaysKept g.A.Access.beside p.law.floor a old c.args.item) a.node.replica.cursor old (g.A.Access.seen c.within.result.access)
    (packed a.node.replica.origin (c.args.item ∷ [])) c.within.result.part h.moves.goes.keeps.who h.none h.kept c.within.ensures.seat)

pub returns-clause-kept : goal.returns-clause-kept
returns-clause-kept g c = λ stays.
    let p = g.A.Law.Rules in
    let a = c.args.seat in
    let b = c.within.result.part in
    let old = g.A.Access.seen c.args.access in
    let new = g.A.Access.seen c.within.result.access in
    let told = packed a.node.replica.origin (c.args.item ∷ []) in
    let so = StaysKept g.A.Access.beside p.law.floor a old c.args.item in
    let sends = SendsToo a.who p.law.may g.E.Sent.counts old told in
    ok_then c.within.result.answer c.within.ensures.did
    (λ x h.
    let k = h.moves.goes.keeps in
    kept_by (record p.law { may = sends }) so stays g.A.Access.beside a.node.replica.cursor new b k.forward c.within.ensures.seat.node.legal
    (still_told p.law c.requires.run g.A.Access.beside g.E.Sent.counts old a so (λ s. s.kept.keeps) (UpToIf so p.law.floor a.node.replica.cursor) new b k.who k.nodes k.forward told
    (λ s user there. says_low a.node.replica.origin a.node.replica.cursor c.args.item c.requires.can.proposable c.requires.can.plain (s.low user there)) c.within.ensures.seat.node.legal stays))
