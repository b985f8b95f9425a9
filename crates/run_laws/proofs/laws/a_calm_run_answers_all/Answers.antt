use Rattle.run_laws.proofs.Calm.{calm-answers}
use Rattle.run_laws.proofs.laws.a_calm_run_answers_all.Goals as goal

pub returns : goal.returns
returns c = calm-answers
