use Rattle.engine_api.proofs.Appends.{acted_log-append}
use Rattle.engine_api.proofs.laws.grows_at_its_end.Goals as goal

pub returns : goal.returns
returns c = λ m start pos entries more. acted_log-append m start pos entries more
