use Rattle.virtual_log.proofs.Agreeing.{holds_agree}
use Rattle.run_ends.proofs.Fronts.{begins}
use Rattle.run_ends.proofs.shown.two_fronts_agree.Goals as goal

pub returns : goal.returns
returns g c =
    let p = g.P.Rules in λ seen log log' legal front front'.
    begins log log' (λ pos e f h k. holds_agree p.law seen pos e f legal (front pos e h) (front' pos f k))
