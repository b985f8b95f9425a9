use Rattle.batch_engine.proofs.AllSay.{kept_more}
use Rattle.batch_engine.proofs.keep.Goals as goal

pub returns-then-len-lt-LIMIT-clause-kept : goal.returns-then-len-lt-LIMIT-clause-kept
returns-then-len-lt-LIMIT-clause-kept c = kept_more _ _ _ c.in_ok-push.ensures.items c.requires.kept c.requires.item
