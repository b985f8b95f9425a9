use Rattle.log_laws.proofs.Membership.{left_says, says_left}
use Rattle.log_laws.proofs.members.who_left_said_so.Goals as goal

pub returns-clause-says : goal.returns-clause-says
returns-clause-says c = left_says

pub returns-clause-left : goal.returns-clause-left
returns-clause-left c = says_left
