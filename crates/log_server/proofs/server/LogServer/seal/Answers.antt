use Rattle.std.proofs.Common.{refl}
use Rattle.quorum_cell.specs.declared.message.Ask.TheVariants.{Seal}
use Rattle.log_server.proofs.Keeping.{stays_during}
use Rattle.log_server.proofs.server.LogServer.seal.Goals as goal

pub returns-then-not-is_up-clause-any_crash : goal.returns-then-not-is_up-clause-any_crash
returns-then-not-is_up-clause-any_crash g c = stays_during c.args.self.now Seal c.args.self.now.disk refl c.is_up.ensures.survives

pub returns-then-is_sealed-clause-any_crash : goal.returns-then-is_sealed-clause-any_crash
returns-then-is_sealed-clause-any_crash g c = stays_during c.args.self.now Seal c.args.self.now.disk refl c.is_up.ensures.survives
