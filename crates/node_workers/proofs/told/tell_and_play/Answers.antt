use Rattle.std.proofs.Common.{◌≡◌, ◌⊎◌, refl, subst, inl, inr, [], ◌∷◌}
use Rattle.delos_types.specs.declared.entry.Entry.{Entry}
use Rattle.engine_api.specs.Packing.{packed}
use Rattle.turn_scopes.specs.Seats.{node_of}
use Rattle.node_lines.specs.Reporting.{Tells}
use Rattle.node_lines.specs.Workers.{OwnWithin, IsOfSessions, OwnAdds}
use Rattle.node_lines.specs.Leaving.{PlaysKnown}
use Rattle.node_lines.proofs.Own.{own_adds_trans, own_adds_wider}
use Rattle.node_workers.proofs.Stepping.{left_both}
use Rattle.node_workers.proofs.Ok.{in_ok, on_ok, ok_then}
use Rattle.node_workers.proofs.told.tell_and_play.Goals as goal

pub in_turn-requires-clause-seat : goal.in_turn-requires-clause-seat
in_turn-requires-clause-seat g c = on_ok _ c.in-Ok.is c.tell-seat.ensures.ok

pub returns-in-Some-clause-ok : goal.returns-in-Some-clause-ok
returns-in-Some-clause-ok g c = on_ok _ c.in-Ok.is c.tell-seat.ensures.ok

pub returns-in-Some-clause-kept : goal.returns-in-Some-clause-kept
returns-in-Some-clause-kept g c = λ stays. on_ok _ c.in-Ok.is (c.tell-seat.ensures.kept stays)

pub returns-clause-kept : goal.returns-clause-kept
returns-clause-kept g c = λ stays. c.in_turn.ensures.kept (on_ok _ c.in-Ok.is (c.tell-seat.ensures.kept stays))

pub returns-in-Some-clause-adds : goal.returns-in-Some-clause-adds
returns-in-Some-clause-adds g c = on_ok _ c.in-Ok.is c.tell-seat.ensures.adds

pub returns-in-Some-clause-did : goal.returns-in-Some-clause-did
returns-in-Some-clause-did g c =
    let p = g.A.Law.Rules in
    let told = in_ok _ c.in-Ok.is c.tell-seat.ensures.did in
    inl (record { cause = c.in-Some.cause; is = refl; tells = subst (λ f. Tells (record p.law { may = OwnWithin c.args.seat.who p.law.may g.E.Sent.counts }) (node_of c.args.seat (g.A.Access.seen c.args.access)) (node_of c.tell-seat.result.part (g.A.Access.seen c.tell-seat.result.access)) c.args.item f) c.in-Some.is told })

pub returns-clause-adds : goal.returns-clause-adds
returns-clause-adds g c =
    let P : Entry → Type 0 = λ e. IsOfSessions e ⊎ (e ≡ packed c.args.seat.node.replica.origin (c.args.item ∷ [])) in
    let mid = g.A.Access.seen c.tell-seat.result.access in
    let now = g.A.Access.seen c.in_turn.result.access in
    ok_then c.in_turn.result.answer c.in_turn.ensures.adds (λ x h. own_adds_trans c.args.seat.who P (g.A.Access.seen c.args.access) mid now (on_ok _ c.in-Ok.is c.tell-seat.ensures.adds)
    (own_adds_wider c.args.seat.who IsOfSessions P mid now (λ e k. inl k) (subst (λ w. OwnAdds w IsOfSessions mid now) c.tell-seat.ensures.left.who h)))

pub returns-clause-did : goal.returns-clause-did
returns-clause-did g c =
    let p = g.A.Law.Rules in
    let mid = node_of c.tell-seat.result.part (g.A.Access.seen c.tell-seat.result.access) in
    let now = node_of c.in_turn.result.part (g.A.Access.seen c.in_turn.result.access) in
    let told = in_ok _ c.in-Ok.is c.tell-seat.ensures.did in
    ok_then c.in_turn.result.answer c.in_turn.ensures.did
    (λ x h. inr (record { told = mid; tells = subst (λ f. Tells (record p.law { may = OwnWithin c.args.seat.who p.law.may g.E.Sent.counts }) (node_of c.args.seat (g.A.Access.seen c.args.access)) mid c.args.item f) c.in_default.is told; plays = subst (λ w. PlaysKnown (record p.law { may = OwnWithin w p.law.may g.E.Sent.counts }) mid now x) c.tell-seat.ensures.left.who h }))

pub returns-clause-left : goal.returns-clause-left
returns-clause-left g c = left_both c.tell-seat.ensures.left c.in_turn.ensures.left
