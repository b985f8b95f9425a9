use Rattle.std.proofs.Common.{subst}
use Rattle.base_engine.specs.Arming.{StoreTwice}
use Rattle.base_engine.specs.Causes.{Blames}
use Rattle.node_lines.proofs.Spending.{strikes-stay}
use Rattle.run_closing.proofs.Ending.{moves_on, played, failed}
use Rattle.run_closing.proofs.last.play_out.Goals as goal

pub returns-in-Ok-clause-moves : goal.returns-in-Ok-clause-moves
returns-in-Ok-clause-moves g c =
    let p = g.T.Law.Rules in
    let e = c.in-Ok.ensures in
    moves_on p.law c.requires.floor c.args.node.now c.reopen.new.node c.sync.new.self c.in_ok-reopen.ensures e.keeps (strikes-stay c.reopen.new.node.replica c.sync.new.self.replica e.keeps.counts e.arming.down) e.kept e.outbox e.arming

pub returns-in-Ok-clause-plays : goal.returns-in-Ok-clause-plays
returns-in-Ok-clause-plays g c =
    let p = g.T.Law.Rules in
    let e = c.in-Ok.ensures in
    played p.law c.args.node.now c.reopen.new.node c.sync.new.self c.in-Ok.field-0 c.in_ok-reopen.ensures e.synced e.cursor e.exact

pub returns-in-Err-Because-clause-moves : goal.returns-in-Err-Because-clause-moves
returns-in-Err-Because-clause-moves g c =
    let p = g.T.Law.Rules in
    let e = c.in-Err-Because.ensures in
    moves_on p.law c.requires.floor c.args.node.now c.reopen.new.node c.sync.new.self c.in_ok-reopen.ensures e.keeps (strikes-stay c.reopen.new.node.replica c.sync.new.self.replica e.keeps.counts e.arming.down) e.kept e.outbox e.arming

pub returns-in-Err-Because-clause-plays : goal.returns-in-Err-Because-clause-plays
returns-in-Err-Because-clause-plays g c =
    let p = g.T.Law.Rules in
    let m = c.reopen.new.node in
    let n = c.sync.new.self in
    let e = c.in-Err-Because.ensures in
    failed p.law c.args.node.now m n c.in-Err-Because.field-0-0 c.in_ok-reopen.ensures e.keeps (strikes-stay m.replica n.replica e.keeps.counts e.arming.down)
    (subst (λ f. Blames m.who m.seen m.replica.faults f n.seen n.replica.faults) c.in-Err-Because.field-0-is e.blames)
    (subst (λ f. StoreTwice m.replica f n.replica) c.in-Err-Because.field-0-is e.twice)
