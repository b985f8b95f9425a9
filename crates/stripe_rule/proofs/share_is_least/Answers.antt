use Rattle.stripe_rule.proofs.Shares.{share_covers, share_least, share_own, share_own_next, share_other}
use Rattle.stripe_rule.proofs.share_is_least.Goals as goal

pub returns-clause-covers : goal.returns-clause-covers
returns-clause-covers c m j length l = share_covers m j length l

pub returns-clause-least : goal.returns-clause-least
returns-clause-least c m j length n l h = share_least m j length n l h

pub returns-clause-own : goal.returns-clause-own
returns-clause-own c m length some = (share_own m length some, share_own_next m length some)

pub returns-clause-other : goal.returns-clause-other
returns-clause-other c m j length l other = share_other m j length l other
