use Rattle.cell_steps.proofs.Majorities.{outcomes_rest}
use Rattle.cell_steps.proofs.laws.outcomes_rest_on_majorities.Goals as goal

pub returns : goal.returns
returns c = outcomes_rest
