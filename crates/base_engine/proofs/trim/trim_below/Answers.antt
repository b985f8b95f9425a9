use Rattle.std.proofs.Common.{◌≤◌, ◌≡◌, ◌∙◌, sym, subst, arith}
use Rattle.virtual_log.specs.Truncating.{IsPrefixTrimmed}
use Rattle.virtual_log.proofs.OneTurn.{later_trans}
use Rattle.base_engine.specs.Causes.{Blames}
use Rattle.base_engine.specs.Following.{IsAt}
use Rattle.base_engine.specs.Trimming.{trim_to}
use Rattle.base_engine.proofs.Following.{follows_later, crash_at_rest, crash_on, at_tail}
use Rattle.base_engine.proofs.Settling.{more_of}
use Rattle.base_engine.proofs.Landing.{blames_since}
use Rattle.base_engine.proofs.Freeing.{floor_applied}
use Rattle.base_engine.proofs.Arming.{never_store}
use Rattle.base_engine.proofs.trim.trim_below.Goals as goal

pub trim_applied-requires-clause-free : goal.trim_applied-requires-clause-free
trim_applied-requires-clause-free g c =
    let p = g.L.Law.Rules in
    let r = g.R.Replica in
    floor_applied p.law g.L.SharedLog.holds (g.L.SharedLog.seen c.play.new.log) c.play.ensures.later.legal c.requires.shown r.meaning c.args.nodes (r.shows c.play.new.replica) c.play.ensures.follows c.requires.floor

pub returns-in-Err-trim_applied-clause-later : goal.returns-in-Err-trim_applied-clause-later
returns-in-Err-trim_applied-clause-later g c =
    let t = g.L.SharedLog in
    later_trans g.L.Law.Rules.law (t.seen c.args.log.now) (t.seen c.play.new.log) (t.seen c.trim_applied.new.log) c.play.ensures.later c.trim_applied.ensures.later

pub returns-in-Ok-trim_applied-clause-follows : goal.returns-in-Ok-trim_applied-clause-follows
returns-in-Ok-trim_applied-clause-follows g c =
    let p = g.L.Law.Rules in
    let t = g.L.SharedLog in
    let r = g.R.Replica in
    follows_later p.law t.holds r.meaning g.met.L.SharedLog.stays (t.seen c.play.new.log) (t.seen c.trim_applied.new.log) (r.shows c.play.new.replica) c.trim_applied.ensures.later c.play.ensures.follows

pub returns-in-Err-trim_applied-clause-follows : goal.returns-in-Err-trim_applied-clause-follows
returns-in-Err-trim_applied-clause-follows g c =
    let p = g.L.Law.Rules in
    let t = g.L.SharedLog in
    let r = g.R.Replica in
    follows_later p.law t.holds r.meaning g.met.L.SharedLog.stays (t.seen c.play.new.log) (t.seen c.trim_applied.new.log) (r.shows c.play.new.replica) c.trim_applied.ensures.later c.play.ensures.follows

pub returns-in-Ok-trim_applied-clause-any_crash : goal.returns-in-Ok-trim_applied-clause-any_crash
returns-in-Ok-trim_applied-clause-any_crash g c =
    let p = g.L.Law.Rules in
    let t = g.L.SharedLog in
    let r = g.R.Replica in
    let v = r.shows c.play.new.replica in
    let new = t.seen c.trim_applied.new.log in
    crash_on p.law t.holds r.meaning g.met.L.SharedLog.stays (t.seen c.play.new.log) new (r.shows c.args.replica.now) v v c.trim_applied.ensures.later c.play.ensures.forward c.play.ensures.any_crash
    (crash_at_rest t.holds r.meaning new v (follows_later p.law t.holds r.meaning g.met.L.SharedLog.stays (t.seen c.play.new.log) new v c.trim_applied.ensures.later c.play.ensures.follows))

pub returns-in-Err-trim_applied-clause-any_crash : goal.returns-in-Err-trim_applied-clause-any_crash
returns-in-Err-trim_applied-clause-any_crash g c =
    let p = g.L.Law.Rules in
    let t = g.L.SharedLog in
    let r = g.R.Replica in
    let v = r.shows c.play.new.replica in
    let new = t.seen c.trim_applied.new.log in
    crash_on p.law t.holds r.meaning g.met.L.SharedLog.stays (t.seen c.play.new.log) new (r.shows c.args.replica.now) v v c.trim_applied.ensures.later c.play.ensures.forward c.play.ensures.any_crash
    (crash_at_rest t.holds r.meaning new v (follows_later p.law t.holds r.meaning g.met.L.SharedLog.stays (t.seen c.play.new.log) new v c.trim_applied.ensures.later c.play.ensures.follows))

pub returns-in-Ok-trim_applied-clause-trims : goal.returns-in-Ok-trim_applied-clause-trims
returns-in-Ok-trim_applied-clause-trims g c =
    let p = g.L.Law.Rules in
    let t = g.L.SharedLog in
    let r = g.R.Replica in
    let w = t.who c.args.log.now in
    let old = t.seen c.args.log.now in
    let played = t.seen c.play.new.log in
    let new = t.seen c.trim_applied.new.log in
    let a = r.shows c.args.replica.now in
    let v = r.shows c.play.new.replica in
    let below : a.cursor ≤ c.known-end.result = omega (arith, c.known-end.ensures.value, c.requires.bounded.now) in
    let same : c.known-end.result ≡ t.reaches c.trim_applied.new.log = c.known-end.ensures.value ∙ (sym c.play.ensures.known ∙ sym c.trim_applied.ensures.known) in
    record {
      played = played;
      since = more_of p.law old played c.play.ensures.later;
      at = subst (λ n. IsAt n v played) same (at_tail a v c.known-end.result played below c.in-Ok.ensures.reaches);
      trimmed = subst (λ x. IsPrefixTrimmed x played (trim_to c.args.nodes v) c.in-Ok-trim_applied.trim new) c.play.ensures.who c.in-Ok-trim_applied.ensures.trims;
    }

pub returns-in-Err-trim_applied-clause-blames : goal.returns-in-Err-trim_applied-clause-blames
returns-in-Err-trim_applied-clause-blames g c =
    let p = g.L.Law.Rules in
    let t = g.L.SharedLog in
    let r = g.R.Replica in
    let old = t.seen c.args.log.now in
    let played = t.seen c.play.new.log in
    let new = t.seen c.trim_applied.new.log in
    let w = t.who c.args.log.now in
    let before = (r.shows c.args.replica.now).faults in
    let after = (r.shows c.play.new.replica).faults in
    let f = c.in-Err-trim_applied.fault in
    blames_since w old played new before after after f (more_of p.law old played c.play.ensures.later) c.play.ensures.counts (omega arith)
    (subst (λ x. Blames x played after f new after) c.play.ensures.who (c.in-Err-trim_applied.ensures.blames after after))

pub returns-in-Err-trim_applied-clause-twice : goal.returns-in-Err-trim_applied-clause-twice
returns-in-Err-trim_applied-clause-twice g c = λ store.
    let t = g.L.SharedLog in
    absurd (never_store (t.who c.play.new.log) (t.seen c.play.new.log) (t.seen c.trim_applied.new.log) c.in-Err-trim_applied.fault c.in-Err-trim_applied.ensures.blames store)

pub returns-in-Ok-trim_applied-clause-later : goal.returns-in-Ok-trim_applied-clause-later
returns-in-Ok-trim_applied-clause-later g c =
    let t = g.L.SharedLog in
    later_trans g.L.Law.Rules.law (t.seen c.args.log.now) (t.seen c.play.new.log) (t.seen c.trim_applied.new.log) c.in-Ok.ensures.later c.in-Ok-trim_applied.ensures.later
