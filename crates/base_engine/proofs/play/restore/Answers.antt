use Rattle.std.proofs.Common.{ap}
use Rattle.replica_api.specs.Replica.{ReplicaView, saved_in}
use Rattle.base_engine.proofs.Following.{follows_same, follows_reopened, found_state, found_near, goes_none, goes_found, crash_in_reopen, known_reopened, known_same}
use Rattle.base_engine.proofs.play.restore.Goals as goal

pub returns-in-Ok-clause-follows : goal.returns-in-Ok-clause-follows
returns-in-Ok-clause-follows g c =
    let t = g.L.SharedLog in
    let r = g.R.Replica in
    let seen = t.seen c.args._log.now in
    let v = r.shows c.args.replica.now in
    let w = r.shows c.recover.new.replica in
    follows_reopened t.holds r.meaning seen c.args.word v w c.requires.follows c.in-Ok.ensures.up c.in-Ok.ensures.survives

pub returns-in-Ok-clause-bounded : goal.returns-in-Ok-clause-bounded
returns-in-Ok-clause-bounded g c =
    let t = g.L.SharedLog in
    let r = g.R.Replica in
    let seen = t.seen c.args._log.now in
    let v = r.shows c.args.replica.now in
    let w = r.shows c.recover.new.replica in
    known_reopened c.args.word (t.reaches c.args._log.now) v w c.requires.bounded c.in-Ok.ensures.up

pub returns-in-Ok-clause-forward : goal.returns-in-Ok-clause-forward
returns-in-Ok-clause-forward g c =
    let t = g.L.SharedLog in
    let r = g.R.Replica in
    let seen = t.seen c.args._log.now in
    let v = r.shows c.args.replica.now in
    let w = r.shows c.recover.new.replica in
    (found_state t.holds r.meaning seen v (saved_in w) c.requires.follows c.in-Ok.ensures.up.found).forward

pub returns-in-Ok-clause-near : goal.returns-in-Ok-clause-near
returns-in-Ok-clause-near g c =
    let t = g.L.SharedLog in
    let r = g.R.Replica in
    let seen = t.seen c.args._log.now in
    let v = r.shows c.args.replica.now in
    let w = r.shows c.recover.new.replica in
    found_near t.holds r.meaning seen v (saved_in w) c.requires.follows c.in-Ok.ensures.up.found

pub returns-in-Ok-clause-any_crash : goal.returns-in-Ok-clause-any_crash
returns-in-Ok-clause-any_crash g c =
    let t = g.L.SharedLog in
    let r = g.R.Replica in
    let seen = t.seen c.args._log.now in
    let v = r.shows c.args.replica.now in
    let w = r.shows c.recover.new.replica in
    crash_in_reopen t.holds r.meaning seen v w c.requires.follows c.in-Ok.ensures.any_crash

pub returns-in-Err-clause-follows : goal.returns-in-Err-clause-follows
returns-in-Err-clause-follows g c =
    let t = g.L.SharedLog in
    let r = g.R.Replica in
    let seen = t.seen c.args._log.now in
    let v = r.shows c.args.replica.now in
    let w = r.shows c.recover.new.replica in
    let d = c.in-Err.ensures.down in
    follows_same t.holds r.meaning seen v w c.requires.follows (ap saved_in d.is) (ap (λ (x : ReplicaView). x.asked) d.is) c.in-Err.ensures.survives

pub returns-in-Err-clause-bounded : goal.returns-in-Err-clause-bounded
returns-in-Err-clause-bounded g c =
    let t = g.L.SharedLog in
    let r = g.R.Replica in
    let seen = t.seen c.args._log.now in
    let v = r.shows c.args.replica.now in
    let w = r.shows c.recover.new.replica in
    let d = c.in-Err.ensures.down in
    known_same (t.reaches c.args._log.now) v w c.requires.bounded (ap saved_in d.is) (ap (λ (x : ReplicaView). x.asked) d.is)

pub returns-in-Err-clause-any_crash : goal.returns-in-Err-clause-any_crash
returns-in-Err-clause-any_crash g c =
    let t = g.L.SharedLog in
    let r = g.R.Replica in
    let seen = t.seen c.args._log.now in
    let v = r.shows c.args.replica.now in
    let w = r.shows c.recover.new.replica in
    crash_in_reopen t.holds r.meaning seen v w c.requires.follows c.in-Err.ensures.any_crash

pub returns-in-Ok-clause-goes_on : goal.returns-in-Ok-clause-goes_on
returns-in-Ok-clause-goes_on g c =
    let t = g.L.SharedLog in
    let r = g.R.Replica in
    goes_found t.holds r.meaning (t.seen c.args._log.now) (r.shows c.args.replica.now) (saved_in (r.shows c.recover.new.replica)) c.requires.follows c.in-Ok.ensures.up.found

pub returns-in-Err-clause-goes_on : goal.returns-in-Err-clause-goes_on
returns-in-Err-clause-goes_on g c =
    let t = g.L.SharedLog in
    let r = g.R.Replica in
    goes_none t.holds r.meaning (t.seen c.args._log.now) (saved_in (r.shows c.args.replica.now)) (saved_in (r.shows c.recover.new.replica)) (ap saved_in c.in-Err.ensures.down.is)
