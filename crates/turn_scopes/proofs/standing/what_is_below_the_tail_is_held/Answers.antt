use Rattle.base_engine.proofs.Showing.{held_below}
use Rattle.turn_scopes.proofs.standing.what_is_below_the_tail_is_held.Goals as goal

pub returns : goal.returns
returns g c = let p = g.P.Rules in λ low seen pos legal below. held_below p.law low seen pos legal below
