use Rattle.log_laws.proofs.Whole.{grows}
use Rattle.log_laws.proofs.state.grows_by_an_entry.Goals as goal

pub returns : goal.returns
returns c = λ log e m m' acted small state applied. grows log e m m' acted small state applied
