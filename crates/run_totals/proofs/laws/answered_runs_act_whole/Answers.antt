use Rattle.run_totals.proofs.Whole.{answered-acts}
use Rattle.run_totals.proofs.laws.answered_runs_act_whole.Goals as goal

pub returns : goal.returns
returns c = answered-acts
