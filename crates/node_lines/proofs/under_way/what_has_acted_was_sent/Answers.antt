use Rattle.node_lines.proofs.Catching.{acted_sent}
use Rattle.node_lines.proofs.under_way.what_has_acted_was_sent.Goals as goal

pub returns : goal.returns
returns g c = let p = g.P.Rules in λ seen log s n legal front bound. acted_sent p.law seen log s n legal front bound
