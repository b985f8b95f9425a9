use Rattle.std.proofs.Common.{subst}
use Rattle.virtual_log.specs.Holding.{Holds}
use Rattle.base_engine.specs.Settling.{Failing}
use Rattle.node_lines.proofs.Reporting.{tells-landed, tells-lost}
use Rattle.node_lines.proofs.report.tell.Goals as goal

pub returns-in-Ok : goal.returns-in-Ok
returns-in-Ok g c =
    let p = g.T.Law.Rules in
    let e = c.in-Ok.ensures in
    record {
      tells = tells-landed p.law c.requires.floor c.args.node.now c.lay_down.new.node c.settle_all.new.self c.args.item c.in_ok-lay_down.ensures.lays e.keeps e.replica e.calm e.landed;
    }

pub returns-in-Err-Because : goal.returns-in-Err-Because
returns-in-Err-Because g c =
    let p = g.T.Law.Rules in
    let e = c.in-Err-Because.ensures in
    let m = c.lay_down.new.node in
    let n = c.settle_all.new.self in
    record {
      tells = tells-lost p.law c.requires.floor c.args.node.now m n c.args.item c.in-Err-Because.cause c.requires.item c.requires.plain c.in_ok-lay_down.ensures.lays c.requires.unsettled e.keeps e.replica
          (subst (λ f. Failing Holds m.who m.seen m.outbox f n.seen n.outbox) c.in-Err-Because.field-0-is e.failing);
    }
