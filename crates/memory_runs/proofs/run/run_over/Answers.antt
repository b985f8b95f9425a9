use Rattle.memory_runs.proofs.Ended.{ended_by_words, untaken_by_words}
use Rattle.memory_runs.proofs.run.run_over.Goals as goal

pub returns-clause-ended : goal.returns-clause-ended
returns-clause-ended g c = ended_by_words _ _ _ _ _ (λ e. e.end) _ c.in_ok-plan.ensures.is c.run_with.ensures.ended

pub returns-clause-untaken : goal.returns-clause-untaken
returns-clause-untaken g c = untaken_by_words _ _ _ _ _ c.in_ok-plan.ensures.is c.run_with.ensures.untaken
