use Rattle.majority_rule.proofs.Majorities.{majorities_meet}
use Rattle.majority_rule.proofs.majority.majorities_share_a_member.Goals as goal

pub returns : goal.returns
returns c = majorities_meet
