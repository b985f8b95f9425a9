use Rattle.log_laws.proofs.Membership.{longer_point, longer_least}
use Rattle.log_laws.proofs.members.a_longer_log_needs_less.Goals as goal

pub returns-clause-point : goal.returns-clause-point
returns-clause-point c = longer_point

pub returns-clause-least : goal.returns-clause-least
returns-clause-least c = longer_least
