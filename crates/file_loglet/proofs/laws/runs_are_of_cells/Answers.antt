use Rattle.file_loglet.proofs.Runs.{run_in, run_shown}
use Rattle.file_loglet.proofs.laws.runs_are_of_cells.Goals as goal

pub returns-clause-cells : goal.returns-clause-cells
returns-clause-cells c = λ before after calls cell h r. run_in calls before after cell h r

pub returns-clause-run : goal.returns-clause-run
returns-clause-run c = λ before after calls r. run_shown calls before after r
