use Rattle.std.proofs.Common.{refl}
use Rattle.quorum_cell.specs.declared.message.Ask.TheVariants.{Repair}
use Rattle.log_server.proofs.Keeping.{stays_during}
use Rattle.log_server.proofs.server.LogServer.repair.Goals as goal

pub returns-then-not-is_up-clause-any_crash : goal.returns-then-not-is_up-clause-any_crash
returns-then-not-is_up-clause-any_crash g c = stays_during c.args.self.now (Repair c.args.place c.args.entry.now) c.args.self.now.disk refl c.is_up.ensures.survives

pub returns-then-not-is_sealed-clause-any_crash : goal.returns-then-not-is_sealed-clause-any_crash
returns-then-not-is_sealed-clause-any_crash g c = stays_during c.args.self.now (Repair c.args.place c.args.entry.now) c.args.self.now.disk refl c.is_up.ensures.survives

pub returns-then-place-len-clause-any_crash : goal.returns-then-place-len-clause-any_crash
returns-then-place-len-clause-any_crash g c = stays_during c.args.self.now (Repair c.args.place c.args.entry.now) c.args.self.now.disk refl c.is_up.ensures.survives
