use Rattle.node_lines.proofs.Chains.{last_within}
use Rattle.node_lines.proofs.chain.a_last_loglet_is_of_the_shelf.Goals as goal

pub returns : goal.returns
returns g c = let p = g.P.Rules in λ seen legal. last_within p.law seen legal
