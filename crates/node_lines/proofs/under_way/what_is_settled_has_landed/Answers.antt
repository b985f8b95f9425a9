use Rattle.node_lines.proofs.Settling.{settled_landed}
use Rattle.node_lines.proofs.under_way.what_is_settled_has_landed.Goals as goal

pub returns : goal.returns
returns g c = let p = g.P.Rules in λ low who s r old new was is legal none empty h x. settled_landed p.law low who s r old new was is legal none empty h x
