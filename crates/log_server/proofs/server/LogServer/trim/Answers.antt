use Rattle.std.proofs.Common.{◌<◌, refl, arith}
use Rattle.quorum_cell.specs.declared.message.Ask.TheVariants.{Trim}
use Rattle.log_server.proofs.Servers.{can_trim}
use Rattle.log_server.proofs.Keeping.{stays_during}
use Rattle.log_server.proofs.server.LogServer.trim.Goals as goal

pub returns-then-not-is_up-clause-any_crash : goal.returns-then-not-is_up-clause-any_crash
returns-then-not-is_up-clause-any_crash g c = stays_during c.args.self.now (Trim c.args.place) c.args.self.now.disk refl c.is_up.ensures.survives

pub returns-then-place-base-clause-any_crash : goal.returns-then-place-base-clause-any_crash
returns-then-place-base-clause-any_crash g c = stays_during c.args.self.now (Trim c.args.place) c.args.self.now.disk refl c.is_up.ensures.survives

pub write-requires-clause-can : goal.write-requires-clause-can
write-requires-clause-can g c =
    let above : c.args.self.now.server.base < c.args.place = omega (arith, c.base-base.ensures.value) in
    can_trim c.args.self.now.server c.args.place c.base-base.ensures.small above c.requires
