use Rattle.std.proofs.Common.{ap}
use Rattle.replica_api.specs.Replica.{ReplicaView}
use Rattle.base_engine.proofs.Whole.{kept_waiting}
use Rattle.base_engine.proofs.propose.flush.Goals as goal

pub returns-in-Err-clause-waiting : goal.returns-in-Err-clause-waiting
returns-in-Err-clause-waiting g c = c.requires.own

pub returns-in-Err-flush-clause-waiting : goal.returns-in-Err-flush-clause-waiting
returns-in-Err-flush-clause-waiting g c =
    let r = g.R.Replica in
    let a = r.shows c.args.replica.now in
    let v = r.shows c.flush.new.self in
    kept_waiting g.L.Law.Rules.law.may (g.L.SharedLog.who c.args.log.now) a.origin a.kept v.kept (ap (λ (x : ReplicaView). x.kept) c.in-Err-flush.ensures.err) c.requires.own
