use Rattle.file_loglet.proofs.Wholes.{served}
use Rattle.file_loglet.proofs.file.FileLoglet.into_disk.Goals as goal

pub returns-clause-served : goal.returns-clause-served
returns-clause-served g c = served _ _ _ _ _ _ c.self.view_is c.self.invariant c.into_disk.ensures.left c.into_disk.ensures.running
