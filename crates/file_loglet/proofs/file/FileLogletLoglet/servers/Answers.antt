use Rattle.file_loglet.proofs.Wholes.{sound}
use Rattle.file_loglet.proofs.file.FileLogletLoglet.servers.Goals as goal

pub returns-clause-sound : goal.returns-clause-sound
returns-clause-sound g c = sound _ _ _ _ _ _ c.self.view_is c.self.invariant
