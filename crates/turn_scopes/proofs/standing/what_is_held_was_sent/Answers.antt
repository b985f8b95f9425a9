use Rattle.turn_scopes.proofs.Moments.{held_sent}
use Rattle.turn_scopes.proofs.standing.what_is_held_was_sent.Goals as goal

pub returns : goal.returns
returns g c = let p = g.P.Rules in λ seen pos e legal h. held_sent p.law seen pos e legal h
