use Rattle.std.proofs.Common.{Some, None, subst}
use Rattle.virtual_log.specs.Holding.{Holds}
use Rattle.base_engine.specs.Settling.{Failing}
use Rattle.node_lines.proofs.Moving.{moves-settle}
use Rattle.node_lines.proofs.steps.settle.Goals as goal

pub returns-in-Ok-clause-moves : goal.returns-in-Ok-clause-moves
returns-in-Ok-clause-moves g c =
    let p = g.T.Law.Rules in
    moves-settle p.law c.requires.floor c.args.node.now c.settle_all.new.self None c.in-Ok.ensures.keeps c.in-Ok.ensures.replica c.in-Ok.ensures.calm.settled

pub returns-in-Err-Because-clause-moves : goal.returns-in-Err-Because-clause-moves
returns-in-Err-Because-clause-moves g c =
    let p = g.T.Law.Rules in
    moves-settle p.law c.requires.floor c.args.node.now c.settle_all.new.self (Some c.in-Err-Because.field-0-0) c.in-Err-Because.ensures.keeps c.in-Err-Because.ensures.replica (subst (λ f. Failing Holds c.args.node.now.who c.args.node.now.seen c.args.node.now.outbox f c.settle_all.new.self.seen c.settle_all.new.self.outbox) c.in-Err-Because.field-0-is c.in-Err-Because.ensures.failing).settled

pub returns-in-Err-Because-clause-unsettled : goal.returns-in-Err-Because-clause-unsettled
returns-in-Err-Because-clause-unsettled g c =
    (subst (λ f. Failing Holds c.args.node.now.who c.args.node.now.seen c.args.node.now.outbox f c.settle_all.new.self.seen c.settle_all.new.self.outbox) c.in-Err-Because.field-0-is c.in-Err-Because.ensures.failing).answered
