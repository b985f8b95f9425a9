use Rattle.stripe_rule.proofs.Striping.{striped_covers, striped_greatest, striped_rises}
use Rattle.stripe_rule.proofs.tail_is_greatest.Goals as goal

pub returns-clause-covers : goal.returns-clause-covers
returns-clause-covers c tails some p below = striped_covers tails some p below

pub returns-clause-greatest : goal.returns-clause-greatest
returns-clause-greatest c tails tail some h = striped_greatest tails tail some h

pub returns-clause-rises : goal.returns-clause-rises
returns-clause-rises c ns ks some h = striped_rises ns ks some h
