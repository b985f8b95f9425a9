use Rattle.std.proofs.Common.{refl, ◌++◌}
use Rattle.virtual_log.specs.Turning.{Later}
use Rattle.base_engine.proofs.Whole.{ok_same}
use Rattle.base_engine.proofs.Following.{follows_later, known_more}
use Rattle.base_engine.specs.Node.{awake}
use Rattle.base_engine.proofs.rest.what_a_node_has_stays.Goals as goal

pub returns : goal.returns
returns g c r who known known' early late legal le ok =
    let p = g.L.Law.Rules in
    let t = g.L.SharedLog in
    let s = g.R.Replica in
    let on : Later p.law early (early ++ late) = record { more = late; seen = refl; legal = legal } in
    ok_same p.law t.holds s.meaning (awake r who early known) (awake r who (early ++ late) known') ok legal refl
    (follows_later p.law t.holds s.meaning g.met.L.SharedLog.stays early (early ++ late) r.replica on ok.follows) (known_more known known' r.replica le ok.bounded) refl refl refl refl
