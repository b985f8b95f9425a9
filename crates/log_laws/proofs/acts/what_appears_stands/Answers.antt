use Rattle.log_laws.proofs.Places.{all-stand}
use Rattle.log_laws.proofs.acts.what_appears_stands.Goals as goal

pub returns : goal.returns
returns c = all-stand
