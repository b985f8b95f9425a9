use Rattle.virtual_log.proofs.Outlasting.{going_outlasts}
use Rattle.virtual_log.proofs.underway.what_is_going_outlasts_calls.Goals as goal

pub returns : goal.returns
returns g c = λ who early old new known newer left going later up does h. going_outlasts g.P.Rules.law who early old new known newer left going later up does h
