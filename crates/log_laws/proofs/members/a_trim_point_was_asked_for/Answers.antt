use Rattle.log_laws.proofs.Membership.{point_says, says_point}
use Rattle.log_laws.proofs.members.a_trim_point_was_asked_for.Goals as goal

pub returns-clause-says : goal.returns-clause-says
returns-clause-says c = point_says

pub returns-clause-most : goal.returns-clause-most
returns-clause-most c = says_point
