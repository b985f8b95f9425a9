use Rattle.cell_steps.proofs.Telling.{all_told, step_tells}
use Rattle.cell_steps.proofs.laws.moves_are_told.Goals as goal

pub returns-clause-tells : goal.returns-clause-tells
returns-clause-tells c = step_tells

pub returns-clause-run : goal.returns-clause-run
returns-clause-run c = all_told
