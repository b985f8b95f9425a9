use Rattle.log_laws.proofs.Start.{starts}
use Rattle.log_laws.proofs.state.starts_empty.Goals as goal

pub returns : goal.returns
returns c = starts
