use Rattle.std.proofs.Common.{ap}
use Rattle.engine_api.specs.Acted.{replied, asked_in}
use Rattle.engine_api.proofs.InTurn.{acted_from-in_turn}
use Rattle.engine_api.proofs.laws.acts_where_it_stands.Goals as goal

pub returns : goal.returns
returns c = λ m start pos entries e. ap (replied m) (acted_from-in_turn start (asked_in pos entries) e)
