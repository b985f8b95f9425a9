use Rattle.turn_scopes.proofs.Moments.{held_before}
use Rattle.turn_scopes.proofs.standing.what_is_below_the_tail_stays.Goals as goal

pub returns : goal.returns
returns g c = let p = g.P.Rules in λ low early late pos e legal below h. held_before p.law low early late pos e legal below h
