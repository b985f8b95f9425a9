use Rattle.log_laws.proofs.Membership.{least_upto, least_at, least_some}
use Rattle.log_laws.proofs.members.the_least_is_a_members.Goals as goal

pub returns-clause-upto : goal.returns-clause-upto
returns-clause-upto c = least_upto

pub returns-clause-at : goal.returns-clause-at
returns-clause-at c = least_at

pub returns-clause-some : goal.returns-clause-some
returns-clause-some c = least_some
