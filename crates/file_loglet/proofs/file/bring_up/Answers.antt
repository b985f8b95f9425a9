use Rattle.std.proofs.Common.{inr}
use Rattle.file_loglet.proofs.file.bring_up.Goals as goal

pub returns-in-Ok : goal.returns-in-Ok
returns-in-Ok g c = inr c.in-Ok.ensures
