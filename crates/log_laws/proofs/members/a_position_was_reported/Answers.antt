use Rattle.log_laws.proofs.Membership.{position_says, says_position}
use Rattle.log_laws.proofs.members.a_position_was_reported.Goals as goal

pub returns-clause-says : goal.returns-clause-says
returns-clause-says c = position_says

pub returns-clause-most : goal.returns-clause-most
returns-clause-most c = says_position
