use Rattle.native_plan.proofs.Verdicts.{verdict_allowed}
use Rattle.native_plan.proofs.laws.verdicts_are_allowed.Goals as goal

pub returns : goal.returns
returns c = λ cell operation aims ms got law course told. verdict_allowed cell operation aims ms got law course told
