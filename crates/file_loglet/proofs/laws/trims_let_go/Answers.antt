use Rattle.file_loglet.proofs.Runs.{trims_gone}
use Rattle.file_loglet.proofs.laws.trims_let_go.Goals as goal

pub returns : goal.returns
returns c = λ before after cell ticket h s. trims_gone before after cell ticket h s
