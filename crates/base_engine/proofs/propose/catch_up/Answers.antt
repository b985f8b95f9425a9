use Rattle.std.proofs.Common.{◌∙◌, ◌++◌, ◌∷◌, [], List, subst, ap, append_assoc, arith}
use Rattle.base_engine.specs.declared.outbox.Given.{Given}
use Rattle.base_engine.specs.Causes.{Blames}
use Rattle.virtual_log.specs.Turning.{IsAbove}
use Rattle.base_engine.specs.Settling.{view_of}
use Rattle.base_engine.proofs.Following.{follows_later, crash_at_rest}
use Rattle.base_engine.proofs.Settling.{settled_on, settled_given, more_of, gave_is}
use Rattle.base_engine.proofs.Landing.{blames_since}
use Rattle.base_engine.proofs.Arming.{arming_refl}
use Rattle.base_engine.proofs.propose.catch_up.Goals as goal

pub returns-in_err-carry_all-clause-follows : goal.returns-in_err-carry_all-clause-follows
returns-in_err-carry_all-clause-follows g c =
    let p = g.L.Law.Rules in
    let t = g.L.SharedLog in
    let r = g.R.Replica in
    let v = r.shows c.args.replica.now in
    follows_later p.law t.holds r.meaning g.met.L.SharedLog.stays _ (t.seen c.carry_all.new.log) v c.carry_all.ensures.later c.requires.follows

pub returns-in_err-carry_all-clause-any_crash : goal.returns-in_err-carry_all-clause-any_crash
returns-in_err-carry_all-clause-any_crash g c =
    let p = g.L.Law.Rules in
    let t = g.L.SharedLog in
    let r = g.R.Replica in
    let v = r.shows c.args.replica.now in
    crash_at_rest t.holds r.meaning (t.seen c.carry_all.new.log) v (follows_later p.law t.holds r.meaning g.met.L.SharedLog.stays _ (t.seen c.carry_all.new.log) v c.carry_all.ensures.later c.requires.follows)

pub returns-in_err-sessions-clause-follows : goal.returns-in_err-sessions-clause-follows
returns-in_err-sessions-clause-follows g c =
    let p = g.L.Law.Rules in
    let t = g.L.SharedLog in
    let r = g.R.Replica in
    let v = r.shows c.args.replica.now in
    follows_later p.law t.holds r.meaning g.met.L.SharedLog.stays _ (t.seen c.carry_all.new.log) v c.carry_all.ensures.later c.requires.follows

pub returns-in_err-sessions-clause-any_crash : goal.returns-in_err-sessions-clause-any_crash
returns-in_err-sessions-clause-any_crash g c =
    let p = g.L.Law.Rules in
    let t = g.L.SharedLog in
    let r = g.R.Replica in
    let v = r.shows c.args.replica.now in
    crash_at_rest t.holds r.meaning (t.seen c.carry_all.new.log) v (follows_later p.law t.holds r.meaning g.met.L.SharedLog.stays _ (t.seen c.carry_all.new.log) v c.carry_all.ensures.later c.requires.follows)

pub returns-in_err-reserve-clause-follows : goal.returns-in_err-reserve-clause-follows
returns-in_err-reserve-clause-follows g c =
    let p = g.L.Law.Rules in
    let t = g.L.SharedLog in
    let r = g.R.Replica in
    let v = r.shows c.args.replica.now in
    follows_later p.law t.holds r.meaning g.met.L.SharedLog.stays _ (t.seen c.carry_all.new.log) v c.carry_all.ensures.later c.requires.follows

pub returns-in_err-reserve-clause-any_crash : goal.returns-in_err-reserve-clause-any_crash
returns-in_err-reserve-clause-any_crash g c =
    let p = g.L.Law.Rules in
    let t = g.L.SharedLog in
    let r = g.R.Replica in
    let v = r.shows c.args.replica.now in
    crash_at_rest t.holds r.meaning (t.seen c.carry_all.new.log) v (follows_later p.law t.holds r.meaning g.met.L.SharedLog.stays _ (t.seen c.carry_all.new.log) v c.carry_all.ensures.later c.requires.follows)

pub sync-requires-clause-follows : goal.sync-requires-clause-follows
sync-requires-clause-follows g c =
    let p = g.L.Law.Rules in
    let t = g.L.SharedLog in
    let r = g.R.Replica in
    let v = r.shows c.args.replica.now in
    follows_later p.law t.holds r.meaning g.met.L.SharedLog.stays _ (t.seen c.carry_all.new.log) v c.carry_all.ensures.later c.requires.follows

pub returns-in-Ok-clause-caught : goal.returns-in-Ok-clause-caught
returns-in-Ok-clause-caught g c =
    let p = g.L.Law.Rules in
    let t = g.L.SharedLog in
    let r = g.R.Replica in
    let v = r.shows c.args.replica.now in
    let w = t.who c.args.log.now in
    let old = t.seen c.args.log.now in
    let mid = t.seen c.carry_all.new.log in
    let new = t.seen c.sync.new.log in
    let s = c.carry_all.ensures.settled in
    let on = more_of p.law mid new c.sync.ensures.later in
    record {
      settled = record {
        done = s.done;
        given = s.given;
        all = s.all;
        gained = c.reserve.ensures.items ∙ s.gained;
        moment = s.moment;
        fates = s.fates;
        rest = (s.rest.0 ++ on.0, on.1 ∙ ap (λ l. l ++ on.0) s.rest.1 ∙ append_assoc s.moment s.rest.0 on.0);
      };
      none = c.in_ok-carry_all.ensures.none;
      mid = mid;
      since = s.rest;
      tail = c.in-Ok.field-0;
      above = subst (λ x. IsAbove x mid c.in-Ok.field-0 new) c.carry_all.ensures.who c.in-Ok.ensures.synced;
      at = c.in-Ok.ensures.cursor;
    }

pub returns-in-Memory-clause-gave_up : goal.returns-in-Memory-clause-gave_up
returns-in-Memory-clause-gave_up g c =
    let p = g.L.Law.Rules in
    let t = g.L.SharedLog in
    let r = g.R.Replica in
    let v = r.shows c.args.replica.now in
    let w = t.who c.args.log.now in
    let old = t.seen c.args.log.now in
    let mid = t.seen c.carry_all.new.log in
    let new = t.seen c.sync.new.log in
    let was = view_of c.args.outbox.now in
    let is = view_of c.carry_all.new.outbox in
    let settled = settled_on t.holds w old mid new was is c.carry_all.ensures.settled (more_of p.law mid new c.sync.ensures.later) in
    settled_given t.holds w old new was is c.reserve.new.self.items settled c.reserve.ensures.items

pub returns-in-Because-clause-gave_up : goal.returns-in-Because-clause-gave_up
returns-in-Because-clause-gave_up g c =
    let p = g.L.Law.Rules in
    let t = g.L.SharedLog in
    let r = g.R.Replica in
    let v = r.shows c.args.replica.now in
    let w = t.who c.args.log.now in
    let old = t.seen c.args.log.now in
    let mid = t.seen c.carry_all.new.log in
    let new = t.seen c.sync.new.log in
    let was = view_of c.args.outbox.now in
    let is = view_of c.carry_all.new.outbox in
    let settled = settled_on t.holds w old mid new was is c.carry_all.ensures.settled (more_of p.law mid new c.sync.ensures.later) in
    let none = c.in_ok-carry_all.ensures.none in
    record {
      mid = is;
      settled = settled;
      none = none;
      gave = gave_is c.carry_all.new.outbox.entries.items c.carry_all.new.outbox.given.items c.push.new.self.items c.carry_all.new.outbox.unsettled c.in_ok-sessions.sessions c.args.session c.in-Because.cause none
          (c.in-Ok-push.ensures.items ∙ ap (λ (x : List Given). x ++ record { sessions = c.in_ok-sessions.sessions; cause = c.in-Because.cause } ∷ []) c.reserve.ensures.items)
          c.in_ok-sessions.ensures;
    }

pub returns-in_err-carry_all-clause-arming : goal.returns-in_err-carry_all-clause-arming
returns-in_err-carry_all-clause-arming g c = arming_refl 0 (g.R.Replica.shows c.args.replica.now)

pub returns-in_err-sessions-clause-arming : goal.returns-in_err-sessions-clause-arming
returns-in_err-sessions-clause-arming g c = arming_refl 0 (g.R.Replica.shows c.args.replica.now)

pub returns-in_err-reserve-clause-arming : goal.returns-in_err-reserve-clause-arming
returns-in_err-reserve-clause-arming g c = arming_refl 0 (g.R.Replica.shows c.args.replica.now)

pub returns-in-Because-clause-blames : goal.returns-in-Because-clause-blames
returns-in-Because-clause-blames g c =
    let p = g.L.Law.Rules in
    let t = g.L.SharedLog in
    let r = g.R.Replica in
    let w = t.who c.args.log.now in
    let old = t.seen c.args.log.now in
    let mid = t.seen c.carry_all.new.log in
    let new = t.seen c.sync.new.log in
    let before = (r.shows c.args.replica.now).faults in
    let after = (r.shows c.sync.new.replica).faults in
    let f = c.in-Err.fault in
    let blames = blames_since w old mid new before before after f (more_of p.law old mid c.carry_all.ensures.later) (omega arith) c.sync.ensures.counts (subst (λ x. Blames x mid before f new after) c.carry_all.ensures.who c.in-Err.ensures.blames) in
    subst (λ x. Blames w old before x new after) c.in-Because.is blames
