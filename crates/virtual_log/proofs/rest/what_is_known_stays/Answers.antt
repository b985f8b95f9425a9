use Rattle.std.proofs.Common.{refl}
use Rattle.virtual_log.proofs.Going.{goes_later}
use Rattle.virtual_log.proofs.rest.what_is_known_stays.Goals as goal

pub returns : goal.returns
returns g c = λ early late version known chain legal goes.
    let p = g.P.Rules in
    goes_later p.law early _ version known chain (record { more = late; seen = refl; legal = legal }) goes
