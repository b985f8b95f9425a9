use Rattle.majority_rule.proofs.Majorities.{tally_is_votes}
use Rattle.majority_rule.proofs.majority.tally_counts_members.Goals as goal

pub returns : goal.returns
returns c = tally_is_votes
