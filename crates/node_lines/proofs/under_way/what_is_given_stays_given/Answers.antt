use Rattle.node_lines.proofs.Settling.{settled_given}
use Rattle.node_lines.proofs.under_way.what_is_given_stays_given.Goals as goal

pub returns : goal.returns
returns g c = let p = g.P.Rules in λ low who s sent old new was is kept legal none h given. settled_given p.law low who s sent old new was is kept legal none h given
