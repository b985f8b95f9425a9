use Rattle.std.proofs.Common.{ap}
use Rattle.kept_value.specs.View.{calm}
use Rattle.kept_value.proofs.kept.Kept.shut_on.Goals as goal

pub returns-clause-shut : goal.returns-clause-shut
returns-clause-shut g c = ap calm c.shut_on.ensures.shut
