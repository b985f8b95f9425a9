use Rattle.base_engine.specs.Holding.{held_stays}
use Rattle.run_ends.proofs.shown.a_front_grows.Goals as goal

pub returns : goal.returns
returns g c = let p = g.P.Rules in λ early late log legal front pos e is. held_stays p.law early late pos e legal (front pos e is)
