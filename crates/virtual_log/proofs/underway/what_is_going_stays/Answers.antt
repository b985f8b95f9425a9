use Rattle.virtual_log.proofs.Sparing.{going_later}
use Rattle.virtual_log.proofs.underway.what_is_going_stays.Goals as goal

pub returns : goal.returns
returns g c = λ who early seen more known newer going legal up leave h. going_later g.P.Rules.law who early seen more known newer going legal up leave h
