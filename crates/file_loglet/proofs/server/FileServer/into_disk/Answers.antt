use Rattle.file_loglet.proofs.Writing.{found_held}
use Rattle.file_loglet.proofs.server.FileServer.into_disk.Goals as goal

pub returns-clause-left : goal.returns-clause-left
returns-clause-left g c = found_held c.args.self c.self.inside.journal c.self.inside.extent c.self.inside.torn c.self.view_is c.self.invariant
