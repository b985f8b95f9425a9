use Rattle.std.proofs.Common.{subst}
use Rattle.turn_scopes.specs.Seats.{node_of}
use Rattle.turn_scopes.proofs.Seals.{seals_none}
use Rattle.node_lines.specs.Workers.{OwnWithin, OwnAdds, IsOfSessions}
use Rattle.node_lines.specs.Extending.{Replaces}
use Rattle.node_lines.proofs.Own.{own_adds_trans}
use Rattle.node_workers.proofs.Stepping.{left_both}
use Rattle.node_workers.proofs.Ok.{in_ok, on_ok, ok_then}
use Rattle.node_workers.proofs.Telling.{extends_both}
use Rattle.node_workers.proofs.admin.ExtendLineOwnLine.go.Goals as goal

pub returns-clause-adds : goal.returns-clause-adds
returns-clause-adds g c =
    ok_then c.in_turn.result.answer c.in_turn.ensures.adds (λ x h. own_adds_trans c.args.seat.who IsOfSessions (g.A.Access.seen c.args.access) (g.A.Access.seen c.in_turn-seat.result.access) (g.A.Access.seen c.in_turn.result.access) (on_ok _ c.in-Ok.is c.in_turn-seat.ensures.adds)
    (subst (λ w. OwnAdds w IsOfSessions (g.A.Access.seen c.in_turn-seat.result.access) (g.A.Access.seen c.in_turn.result.access)) c.in_turn-seat.ensures.left.who h))

pub returns-clause-did : goal.returns-clause-did
returns-clause-did g c =
    let p = g.A.Law.Rules in
    let was = g.A.Access.seen c.args.access in
    let mid = g.A.Access.seen c.in_turn-seat.result.access in
    let between = node_of c.in_turn-seat.result.part mid in
    let now = node_of c.in_turn.result.part (g.A.Access.seen c.in_turn.result.access) in
    ok_then c.in_turn.result.answer c.in_turn.ensures.did
    (λ x h. extends_both (record p.law { may = OwnWithin c.args.seat.who p.law.may g.E.Sent.counts }) c.requires.run.low (node_of c.args.seat was) between now x (in_ok _ c.in-Ok.is c.in_turn-seat.ensures.did) (seals_none c.args.seat.who was mid c.in_turn-seat.ensures.left.seals)
    (subst (λ w. Replaces (record p.law { may = OwnWithin w p.law.may g.E.Sent.counts }) between now x) c.in_turn-seat.ensures.left.who h))

pub returns-clause-left : goal.returns-clause-left
returns-clause-left g c = left_both c.in_turn-seat.ensures.left c.in_turn.ensures.left

pub returns-clause-kept : goal.returns-clause-kept
returns-clause-kept g c = c.in_turn.ensures.kept (on_ok _ c.in-Ok.is (c.in_turn-seat.ensures.kept c.requires.kept))
