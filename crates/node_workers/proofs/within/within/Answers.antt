use Rattle.std.proofs.Common.{List, sym, subst}
use Rattle.legal_journal.specs.declared.events.Event.{Event}
use Rattle.base_engine.specs.Node.{NodeView}
use Rattle.turn_scopes.specs.Beside.{Since, SealsByRight}
use Rattle.node_lines.specs.Desks.{KeepsFrom}
use Rattle.node_workers.proofs.within.within.Goals as goal

pub run-answer-requires-clause-stays : goal.run-answer-requires-clause-stays
run-answer-requires-clause-stays g c = λ is. subst (λ (n : NodeView). KeepsFrom g.Q.Scope.law n.replica.cursor) (sym c.wake-node.ensures) (c.requires.stays is)

pub returns-clause-since : goal.returns-clause-since
returns-clause-since g c = subst (λ (j : List Event). Since c.rest-seat.result.0.who (g.A.Access.beside c.rest-seat.result.0.who) j (g.A.Access.seen c.rest-seat.result.1)) c.requires.since c.rest-seat.ensures.since

pub returns-clause-right : goal.returns-clause-right
returns-clause-right g c = subst (λ (j : List Event). SealsByRight (g.Q.Scope.seals c.rest-seat.result.0.who) c.rest-seat.result.0.who j (g.A.Access.seen c.rest-seat.result.1)) c.requires.since c.rest-seat.ensures.right
