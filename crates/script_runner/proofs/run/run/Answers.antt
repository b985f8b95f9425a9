use Rattle.script_runner.proofs.Standing.{begun_by, ended_by}
use Rattle.script_runner.proofs.run.run.Goals as goal

pub returns-in-Ok-clause-ended : goal.returns-in-Ok-clause-ended
returns-in-Ok-clause-ended g c = ended_by _ _ _ _ _ _ c.in-Ok.ensures.reads c.run_plan.ensures.ended

pub returns-in-Err-BadWords-clause-ended : goal.returns-in-Err-BadWords-clause-ended
returns-in-Err-BadWords-clause-ended g c = ended_by _ _ _ _ _ _ (rw c.in-Err-BadWords.field-0-is at c.in-Err-BadWords.ensures.reads) c.run_plan-in-Err-BadWords.ensures.ended

pub returns-in-Ok-clause-begun : goal.returns-in-Ok-clause-begun
returns-in-Ok-clause-begun g c = begun_by _ _ _ _ _ c.in-Ok.ensures.reads c.run_plan.ensures.begun

pub returns-in-Err-BadWords-clause-begun : goal.returns-in-Err-BadWords-clause-begun
returns-in-Err-BadWords-clause-begun g c = begun_by _ _ _ _ _ (rw c.in-Err-BadWords.field-0-is at c.in-Err-BadWords.ensures.reads) c.run_plan-in-Err-BadWords.ensures.begun
