use Rattle.script_words.proofs.Words.{read_sized}
use Rattle.script_words.proofs.plan.read_words.Goals as goal

pub returns-clause-plan : goal.returns-clause-plan
returns-clause-plan c = read_sized _ _ c.planned.ensures
