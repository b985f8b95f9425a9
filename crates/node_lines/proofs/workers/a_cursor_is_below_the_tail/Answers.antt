use Rattle.node_lines.proofs.Bounding.{front_below}
use Rattle.node_lines.proofs.workers.a_cursor_is_below_the_tail.Goals as goal

pub returns : goal.returns
returns g c = let p = g.P.Rules in λ low seen log legal front. front_below p.law low seen log legal front
