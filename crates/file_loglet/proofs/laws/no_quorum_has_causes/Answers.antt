use Rattle.file_loglet.proofs.Runs.{lacks_have_causes}
use Rattle.file_loglet.proofs.laws.no_quorum_has_causes.Goals as goal

pub returns : goal.returns
returns c = λ before after cell ticket unreached h s. lacks_have_causes before after cell ticket unreached h s
