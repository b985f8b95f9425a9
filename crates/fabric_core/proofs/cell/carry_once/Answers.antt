use Rattle.fabric_core.proofs.Carried.{decided_taken, carried_taken}
use Rattle.fabric_core.proofs.cell.carry_once.Goals as goal

pub returns-then-steps-eq0 : goal.returns-then-steps-eq0
returns-then-steps-eq0 g c =
    let view = g.L.Loglet.view in
    let serving = g.L.Loglet.serving in
    decided_taken (record { loglet = view c.args.loglet.now; serving = serving c.args.loglet.now }) (record { loglet = view c.take.new.self; serving = serving c.take.new.self })
    c.args.ticket c.args.word _ _ c.take.result c.left-rounds.ensures c.if-rounds-eq0.true c.if-steps-eq0.true c.take.ensures.step c.take.ensures.serves

pub returns-in-Ok : goal.returns-in-Ok
returns-in-Ok g c =
    let view = g.L.Loglet.view in
    let serving = g.L.Loglet.serving in
    carried_taken (record { loglet = view c.args.loglet.now; serving = serving c.args.loglet.now }) (record { loglet = view c.carry.new.self; serving = serving c.carry.new.self })
    (record { loglet = view c.take-in-Ok.new.self; serving = serving c.take-in-Ok.new.self })
    c.args.ticket c.args.word c.take-in-Ok.result c.in-Ok.ensures.step c.in-Ok.ensures.serves c.take-in-Ok.ensures.step c.take-in-Ok.ensures.serves
