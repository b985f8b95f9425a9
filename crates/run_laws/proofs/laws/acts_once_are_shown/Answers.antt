use Rattle.run_laws.proofs.Acting.{shown-acts}
use Rattle.run_laws.proofs.laws.acts_once_are_shown.Goals as goal

pub returns : goal.returns
returns c = shown-acts
