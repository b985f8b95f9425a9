use Rattle.std.proofs.Common.{refl}
use Rattle.file_loglet.proofs.Laters.{trim_reaches}
use Rattle.file_loglet.proofs.decide.trim.Goals as goal

pub returns-clause-trimmed : goal.returns-clause-trimmed
returns-clause-trimmed g c =
    let done = c.in_ok-trim.ensures in
    (refl, trim_reaches c.args.cut c.args.server.now c.trim.new.self c.in_ok-trim.field-0 done.above (λ le. (done.gone le).1))
