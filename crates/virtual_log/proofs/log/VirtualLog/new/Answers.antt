use Rattle.virtual_log.proofs.Going.{goes_first}
use Rattle.virtual_log.proofs.log.VirtualLog.new.Goals as goal

pub invariant_of-result : goal.invariant_of-result
invariant_of-result g c =
    let p = g.T.Law.Rules in
    record { count = c.requires.shelf; legal = c.requires.legal; goes_by = goes_first p.law (g.T.Turns.seen c.args.turns) c.in-Ok.chain c.requires.legal c.in-Ok.ensures }
