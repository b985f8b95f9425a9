use Rattle.node_lines.proofs.Proposed.{proposed_given}
use Rattle.node_lines.proofs.under_way.what_is_proposed_is_given.Goals as goal

pub returns : goal.returns
returns g c = let p = g.P.Rules in λ low who s sent old new was is v v' item log word legal none small all few fine says own size front state here h given.
    proposed_given p.law low who s sent old new was is v v' item log word legal none small all few fine says own size front state here h given
