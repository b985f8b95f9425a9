use Rattle.node_lines.proofs.Proposed.{found_acted}
use Rattle.node_lines.proofs.under_way.what_has_landed_is_found.Goals as goal

pub returns : goal.returns
returns g c = let p = g.P.Rules in λ who s n tail early seen log legal above size front all. found_acted p.law who s n tail early seen log legal above size front all
