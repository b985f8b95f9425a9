use Rattle.base_engine.proofs.Showing.{shows_all}
use Rattle.base_engine.proofs.over_virtual_log.what_is_held_is_shown.Goals as goal

pub returns : goal.returns
returns g c = let p = g.P.Rules in shows_all p.law
