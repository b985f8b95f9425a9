use Rattle.turn_scopes.proofs.Widening.{legal_wider}
use Rattle.node_lines.specs.Workers.{OwnWithin, Sends, sent_by}
use Rattle.node_lines.proofs.workers.a_worker_is_legal.Goals as goal

pub returns-clause-within : goal.returns-clause-within
returns-clause-within g c = let p = g.P.Rules in λ who journal seat desks h.
    legal_wider p.law (Sends who p.law.may (sent_by desks) journal) (OwnWithin who p.law.may (sent_by desks)) (λ user e k. k.0) journal h.ok.node.legal

pub returns-clause-legal : goal.returns-clause-legal
returns-clause-legal g c = let p = g.P.Rules in λ who journal seat desks h.
    legal_wider p.law (Sends who p.law.may (sent_by desks) journal) p.law.may (λ user e k. k.0.0) journal h.ok.node.legal
