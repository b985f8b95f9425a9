use Rattle.run_ends.proofs.Standing.{front_below}
use Rattle.run_ends.proofs.shown.a_front_is_below_the_tail.Goals as goal

pub returns : goal.returns
returns g c = let p = g.P.Rules in λ low seen log legal front. front_below p.law seen legal low log front
