use Rattle.native_plan.proofs.Hears.{knows_heard, knows_other}
use Rattle.native_plan.proofs.laws.answers_are_noted.Goals as goal

pub returns-clause-heard : goal.returns-clause-heard
returns-clause-heard c = λ server operation i m reply cut want phase errand told knows want_is comes well. knows_heard server operation i m reply knows cut want phase errand told want_is comes well

pub returns-clause-others : goal.returns-clause-others
returns-clause-others c = λ server operation reply i m other knows. knows_other server operation reply i m other knows
