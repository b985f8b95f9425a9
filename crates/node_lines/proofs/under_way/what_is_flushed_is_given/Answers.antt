use Rattle.node_lines.proofs.Queueing.{flushed_given}
use Rattle.node_lines.proofs.under_way.what_is_flushed_is_given.Goals as goal

pub returns : goal.returns
returns g c = let p = g.P.Rules in λ low who origin s sent old new was is kept kept' legal none all few h given. flushed_given p.law low who origin s sent old new was is kept kept' legal none all few h given
