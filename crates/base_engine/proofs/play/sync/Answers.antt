use Rattle.std.proofs.Common.{◌≤◌, refl, subst, arith}
use Rattle.replica_api.specs.Replica.{saved_in}
use Rattle.base_engine.specs.Following.{KeepsTail}
use Rattle.base_engine.proofs.Tails.{ends_on}
use Rattle.base_engine.proofs.Following.{follows_later, goes_none, crash_at_rest, above_later, at_tail}
use Rattle.base_engine.specs.Causes.{Blames}
use Rattle.base_engine.proofs.Arming.{arming_refl, twice_told}
use Rattle.base_engine.proofs.Landing.{blames_since}
use Rattle.base_engine.proofs.Settling.{more_of}
use Rattle.base_engine.proofs.play.sync.Goals as goal

pub returns-in-Err-clause-follows : goal.returns-in-Err-clause-follows
returns-in-Err-clause-follows g c =
    let p = g.L.Law.Rules in
    let t = g.L.SharedLog in
    let r = g.R.Replica in
    follows_later p.law t.holds r.meaning g.met.L.SharedLog.stays _ (t.seen c.check_tail.new.self) (r.shows c.args.replica.now) c.in-Err.ensures.later c.requires.follows

pub returns-in-Err-clause-any_crash : goal.returns-in-Err-clause-any_crash
returns-in-Err-clause-any_crash g c =
    let p = g.L.Law.Rules in
    let t = g.L.SharedLog in
    let r = g.R.Replica in
    let new = t.seen c.check_tail.new.self in
    let v = r.shows c.args.replica.now in
    crash_at_rest t.holds r.meaning new v (follows_later p.law t.holds r.meaning g.met.L.SharedLog.stays _ new v c.in-Err.ensures.later c.requires.follows)

pub play-requires-clause-follows : goal.play-requires-clause-follows
play-requires-clause-follows g c =
    let p = g.L.Law.Rules in
    let t = g.L.SharedLog in
    let r = g.R.Replica in
    follows_later p.law t.holds r.meaning g.met.L.SharedLog.stays _ (t.seen c.check_tail.new.self) (r.shows c.args.replica.now) c.in-Ok.ensures.later c.requires.follows

pub returns-in-Ok-play-clause-synced : goal.returns-in-Ok-play-clause-synced
returns-in-Ok-play-clause-synced g c =
    let p = g.L.Law.Rules in
    let t = g.L.SharedLog in
    above_later p.law (t.who c.args.log.now) c.in-Ok.tail (t.seen c.args.log.now) (t.seen c.check_tail.new.self) (t.seen c.play.new.log) c.in-Ok.ensures.above c.play.ensures.later

pub returns-in-Ok-play-clause-cursor : goal.returns-in-Ok-play-clause-cursor
returns-in-Ok-play-clause-cursor g c =
    let t = g.L.SharedLog in
    let r = g.R.Replica in
    let below : (r.shows c.args.replica.now).cursor ≤ c.in-Ok.tail = omega (arith, c.requires.bounded.now, c.in-Ok.ensures.forward) in
    at_tail (r.shows c.args.replica.now) (r.shows c.play.new.replica) c.in-Ok.tail (t.seen c.play.new.log) below c.in-Ok-play.ensures.reaches

pub returns-in-Ok-play-clause-exact : goal.returns-in-Ok-play-clause-exact
returns-in-Ok-play-clause-exact g c =
    let p = g.L.Law.Rules in
    let t = g.L.SharedLog in
    let who = t.who c.args.log.now in
    let pos = (g.R.Replica.shows c.args.replica.now).cursor in
    let mid = t.seen c.check_tail.new.self in
    let new = t.seen c.play.new.log in
    ends_on p.law who pos (t.seen c.args.log.now) mid new c.in-Ok.ensures.later c.play.ensures.later c.in-Ok.tail c.in-Ok.ensures.exact
    (subst (λ w. KeepsTail w pos mid new) c.in-Ok.ensures.who c.in-Ok-play.ensures.quiet)

pub returns-in-Err-clause-arming : goal.returns-in-Err-clause-arming
returns-in-Err-clause-arming g c = arming_refl 0 (g.R.Replica.shows c.args.replica.now)

pub returns-in-Err-clause-twice : goal.returns-in-Err-clause-twice
returns-in-Err-clause-twice g c =
    let a = g.R.Replica.shows c.args.replica.now in
    twice_told a a c.in-Err.fault c.told.result c.told.ensures

pub returns-in-Err-clause-goes_on : goal.returns-in-Err-clause-goes_on
returns-in-Err-clause-goes_on g c =
    let t = g.L.SharedLog in
    let r = g.R.Replica in
    let s = saved_in (r.shows c.args.replica.now) in
    goes_none t.holds r.meaning (t.seen c.check_tail.new.self) s s refl

pub returns-in-Err-play-clause-blames : goal.returns-in-Err-play-clause-blames
returns-in-Err-play-clause-blames g c =
    let p = g.L.Law.Rules in
    let t = g.L.SharedLog in
    let r = g.R.Replica in
    let old = t.seen c.args.log.now in
    let mid = t.seen c.check_tail.new.self in
    let new = t.seen c.play.new.log in
    let a = r.shows c.args.replica.now in
    let b = r.shows c.play.new.replica in
    let f = c.in-Err-play.fault in
    blames_since (t.who c.args.log.now) old mid new a.faults a.faults b.faults f (more_of p.law old mid c.in-Ok.ensures.later) (omega arith) c.play.ensures.counts
    (subst (λ x. Blames x mid a.faults f new b.faults) c.in-Ok.ensures.who c.in-Err-play.ensures.blames)
