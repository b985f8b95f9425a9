use Rattle.std.proofs.Common.{sym, ◌∙◌}
use Rattle.file_loglet.proofs.Heeding.{heeds_refused}
use Rattle.file_loglet.proofs.decide.store.Goals as goal

pub returns-then-is_sealed-clause-heeds : goal.returns-then-is_sealed-clause-heeds
returns-then-is_sealed-clause-heeds g c = heeds_refused c.args.entries.now c.args.server.now.server c.args.end (sym c.is_sealed.ensures ∙ c.if-is_sealed.true)
