use Rattle.virtual_log.proofs.Agreeing.{holds_agree}
use Rattle.virtual_log.proofs.held.what_is_held_agrees.Goals as goal

pub returns : goal.returns
returns g c = λ events pos e f legal h k.
    let p = g.P.Rules in
    holds_agree p.law events pos e f legal h k
