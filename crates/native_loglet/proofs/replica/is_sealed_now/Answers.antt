use Rattle.std.proofs.Common.{◌∙◌, ap}
use Rattle.native_loglet.specs.Telling.{seal_told_by}
use Rattle.native_loglet.proofs.Rules.{seal_known}
use Rattle.native_loglet.proofs.replica.is_sealed_now.Goals as goal

pub returns : goal.returns
returns g c = c.seal_told.ensures ∙ ap (λ z. seal_told_by z c.args.before) c.tail.ensures.answer ∙ seal_known c.args.server.now.server c.args.before
