use Rattle.fitting_run.proofs.Leaving.{none-retired}
use Rattle.fitting_run.proofs.laws.who_left_is_named_no_more.Goals as goal

pub returns : goal.returns
returns c = none-retired
