use Rattle.node_lines.proofs.Looking.{looks_whole}
use Rattle.node_lines.proofs.under_way.a_read_sees_its_session.Goals as goal

pub returns : goal.returns
returns g c = let p = g.P.Rules in λ low who origin s sent tail old flushed settled seen o was is cause kept kept' log legal all few given sends answers none above size front bound.
    looks_whole p.law low who origin s sent tail old flushed settled seen o was is cause kept kept' log legal all few given sends answers none above size front bound
