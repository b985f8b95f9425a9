use Rattle.virtual_log.proofs.Holding.{holds_stands}
use Rattle.virtual_log.proofs.held.what_is_held_stands.Goals as goal

pub returns : goal.returns
returns g c = λ events pos e legal h.
    let p = g.P.Rules in
    holds_stands p.law events pos e legal h
