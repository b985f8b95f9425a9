use Rattle.node_lines.proofs.Bounding.{tail_bounds}
use Rattle.node_lines.proofs.workers.a_tail_bounds_what_is_sent.Goals as goal

pub returns : goal.returns
returns g c = let p = g.P.Rules in λ low counts early late s r pos e within legal held has above.
    tail_bounds p.law low counts early late s r pos e within legal held has above
