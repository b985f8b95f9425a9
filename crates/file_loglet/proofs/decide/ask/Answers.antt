use Rattle.std.proofs.Common.{◌≡◌, ◌+◌, min, inr, refl, arith}
use Rattle.file_loglet.proofs.Heeding.{heeds_log}
use Rattle.file_loglet.proofs.decide.ask.Goals as goal

pub returns-in-Placing-clause-heeds : goal.returns-in-Placing-clause-heeds
returns-in-Placing-clause-heeds g c =
    rw c.in-Placing.is (heeds_log c.args.entries.now c.args.cut (c.args.p.now.size + 1) c.args.server.now.server c.store.new.server.server c.store.result c.requires.cut c.store.ensures.heeds)

pub returns-in-Settling-clause-heeds : goal.returns-in-Settling-clause-heeds
returns-in-Settling-clause-heeds g c =
    let e : c.min.result ≡ min c.in-Settling.n c.args.p.now.size = omega arith in
    rw (c.in-Settling.is, ← e) (heeds_log c.args.entries.now c.args.cut c.min.result c.args.server.now.server c.store-in-Settling.new.server.server c.store-in-Settling.result c.requires.cut c.store-in-Settling.ensures.heeds)

pub returns-in-Finding-clause-heeds : goal.returns-in-Finding-clause-heeds
returns-in-Finding-clause-heeds g c = rw c.in-Finding.is (inr refl)

pub returns-in-Sealing-clause-heeds : goal.returns-in-Sealing-clause-heeds
returns-in-Sealing-clause-heeds g c = rw c.in-Sealing.is c.seal.ensures.heeds
