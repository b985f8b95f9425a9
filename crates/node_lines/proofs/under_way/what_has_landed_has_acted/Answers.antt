use Rattle.std.proofs.Common.{◌++◌, refl}
use Rattle.node_lines.proofs.Catching.{landed_acted}
use Rattle.node_lines.proofs.under_way.what_has_landed_has_acted.Goals as goal

pub returns : goal.returns
returns g c = let p = g.P.Rules in λ early late log s n legal reached front all. landed_acted p.law early (early ++ late) log s n legal (late, refl) reached front all
