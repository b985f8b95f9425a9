use Rattle.turn_scopes.proofs.Bounds.{trim_below, stands_below}
use Rattle.turn_scopes.proofs.standing.what_stands_is_below_the_tail.Goals as goal

pub returns-clause-trim : goal.returns-clause-trim
returns-clause-trim g c = let p = g.P.Rules in λ low seen legal. trim_below p.law low seen legal

pub returns-clause-stands : goal.returns-clause-stands
returns-clause-stands g c = let p = g.P.Rules in λ low seen pos e legal h. stands_below p.law low seen pos e legal h
