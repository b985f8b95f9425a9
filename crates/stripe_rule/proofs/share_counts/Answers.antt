use Rattle.stripe_rule.proofs.Shares.{share_standing}
use Rattle.stripe_rule.proofs.share_counts.Goals as goal

pub returns : goal.returns
returns c m j length l = share_standing m j length l
