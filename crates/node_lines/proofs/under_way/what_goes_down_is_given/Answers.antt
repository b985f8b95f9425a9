use Rattle.node_lines.proofs.Queueing.{sent_given, sent_other}
use Rattle.node_lines.proofs.under_way.what_goes_down_is_given.Goals as goal

pub returns-clause-own : goal.returns-clause-own
returns-clause-own g c = let p = g.P.Rules in λ low who origin s sent old new was is kept kept' item legal none all fine own h given. sent_given p.law low who origin s sent old new was is kept kept' item legal none all fine own h given

pub returns-clause-other : goal.returns-clause-other
returns-clause-other g c = let p = g.P.Rules in λ low who origin s sent old new was is kept kept' item legal none all fine other h given. sent_other p.law low who origin s sent old new was is kept kept' item legal none all fine other h given
