use Rattle.std.proofs.Common.{◌∙◌, None, ap, subst, ⊎_elim}
use Rattle.replica_api.specs.Replica.{ReplicaView, Flushes}
use Rattle.virtual_log.proofs.OneTurn.{later_trans}
use Rattle.base_engine.specs.Proposing.{Sent, IsFarAt, GaveUpAt}
use Rattle.base_engine.specs.Settling.{view_of, Settled, Answers, Failing}
use Rattle.base_engine.proofs.Following.{follows_rest, crash_rest}
use Rattle.base_engine.proofs.Settling.{more_of, no_more}
use Rattle.base_engine.proofs.Landing.{item_landed, owned_none, owned_sent, blames_failing}
use Rattle.base_engine.proofs.Pushing.{refused_down, unflushed, went_through, push_failed}
use Rattle.base_engine.proofs.Arming.{arming_rest, arming_trans, never_store}
use Rattle.base_engine.proofs.trim.push_through.Goals as goal

pub returns-in-Err-flush-clause-follows : goal.returns-in-Err-flush-clause-follows
returns-in-Err-flush-clause-follows g c =
    let p = g.L.Law.Rules in
    let t = g.L.SharedLog in
    let r = g.R.Replica in
    follows_rest p.law t.holds r.meaning g.met.L.SharedLog.stays (t.seen c.propose.new.log) (t.seen c.flush.new.log) (r.shows c.propose.new.replica) (r.shows c.flush.new.replica) c.flush.ensures.later c.flush.ensures.rest c.propose.ensures.follows

pub returns-in-Err-flush-clause-any_crash : goal.returns-in-Err-flush-clause-any_crash
returns-in-Err-flush-clause-any_crash g c =
    let p = g.L.Law.Rules in
    let t = g.L.SharedLog in
    let r = g.R.Replica in
    crash_rest p.law t.holds r.meaning g.met.L.SharedLog.stays (t.seen c.propose.new.log) (t.seen c.flush.new.log) (r.shows c.args.replica.now) (r.shows c.propose.new.replica) (r.shows c.flush.new.replica) c.flush.ensures.later c.flush.ensures.rest c.propose.ensures.any_crash

pub returns-in-Ok-settle_all-clause-follows : goal.returns-in-Ok-settle_all-clause-follows
returns-in-Ok-settle_all-clause-follows g c =
    let p = g.L.Law.Rules in
    let t = g.L.SharedLog in
    let r = g.R.Replica in
    let on = later_trans p.law (t.seen c.propose.new.log) (t.seen c.flush.new.log) (t.seen c.settle_all.new.log) c.flush.ensures.later c.settle_all.ensures.later in
    follows_rest p.law t.holds r.meaning g.met.L.SharedLog.stays (t.seen c.propose.new.log) (t.seen c.settle_all.new.log) (r.shows c.propose.new.replica) (r.shows c.flush.new.replica) on c.flush.ensures.rest c.propose.ensures.follows

pub returns-in-Ok-settle_all-clause-any_crash : goal.returns-in-Ok-settle_all-clause-any_crash
returns-in-Ok-settle_all-clause-any_crash g c =
    let p = g.L.Law.Rules in
    let t = g.L.SharedLog in
    let r = g.R.Replica in
    let on = later_trans p.law (t.seen c.propose.new.log) (t.seen c.flush.new.log) (t.seen c.settle_all.new.log) c.flush.ensures.later c.settle_all.ensures.later in
    crash_rest p.law t.holds r.meaning g.met.L.SharedLog.stays (t.seen c.propose.new.log) (t.seen c.settle_all.new.log) (r.shows c.args.replica.now) (r.shows c.propose.new.replica) (r.shows c.flush.new.replica) on c.flush.ensures.rest c.propose.ensures.any_crash

pub returns-in-Err-settle_all-clause-follows : goal.returns-in-Err-settle_all-clause-follows
returns-in-Err-settle_all-clause-follows g c =
    let p = g.L.Law.Rules in
    let t = g.L.SharedLog in
    let r = g.R.Replica in
    let on = later_trans p.law (t.seen c.propose.new.log) (t.seen c.flush.new.log) (t.seen c.settle_all.new.log) c.flush.ensures.later c.settle_all.ensures.later in
    follows_rest p.law t.holds r.meaning g.met.L.SharedLog.stays (t.seen c.propose.new.log) (t.seen c.settle_all.new.log) (r.shows c.propose.new.replica) (r.shows c.flush.new.replica) on c.flush.ensures.rest c.propose.ensures.follows

pub returns-in-Err-settle_all-clause-any_crash : goal.returns-in-Err-settle_all-clause-any_crash
returns-in-Err-settle_all-clause-any_crash g c =
    let p = g.L.Law.Rules in
    let t = g.L.SharedLog in
    let r = g.R.Replica in
    let on = later_trans p.law (t.seen c.propose.new.log) (t.seen c.flush.new.log) (t.seen c.settle_all.new.log) c.flush.ensures.later c.settle_all.ensures.later in
    crash_rest p.law t.holds r.meaning g.met.L.SharedLog.stays (t.seen c.propose.new.log) (t.seen c.settle_all.new.log) (r.shows c.args.replica.now) (r.shows c.propose.new.replica) (r.shows c.flush.new.replica) on c.flush.ensures.rest c.propose.ensures.any_crash

pub returns-in-Ok-settle_all-clause-landed : goal.returns-in-Ok-settle_all-clause-landed
returns-in-Ok-settle_all-clause-landed g c =
    let p = g.L.Law.Rules in
    let t = g.L.SharedLog in
    let r = g.R.Replica in
    let w = t.who c.args.log.now in
    let old = t.seen c.args.log.now in
    let m1 = t.seen c.propose.new.log in
    let m2 = t.seen c.flush.new.log in
    let new = t.seen c.settle_all.new.log in
    let was = view_of c.args.outbox.now in
    let o1 = view_of c.propose.new.outbox in
    let o2 = view_of c.flush.new.outbox in
    let is = view_of c.settle_all.new.outbox in
    let a = r.shows c.args.replica.now in
    let v1 = r.shows c.propose.new.replica in
    let v2 = r.shows c.flush.new.replica in
    let flushed = subst (λ x. Sent t.holds x m1 o1 (λ packed. Flushes v1.origin v1.kept packed v2.kept) m2 o2) c.propose.ensures.who c.in-Ok-flush.ensures.sent in
    let by = subst (λ o. Sent t.holds w m1 o1 (λ packed. Flushes o v1.kept packed v2.kept) m2 o2) c.propose.ensures.origin flushed in
    let settled = subst (λ x. Answers t.holds x m2 o2 None new is) (c.flush.ensures.who ∙ c.propose.ensures.who) c.in-Ok-settle_all.ensures.calm in
    ⊎_elim
    (λ k. item_landed t.holds w a.origin old m1 m2 new was o1 o2 is a.kept v1.kept v2.kept c.args.item (more_of p.law old m1 c.propose.ensures.later) (more_of p.law m1 m2 c.flush.ensures.later) k.0 by settled)
    (λ k. absurd (subst (IsFarAt v1.contents) c.requires.plain k.1))
    c.in-Ok.ensures.proposed

pub returns-in-Err-settle_all-clause-blames : goal.returns-in-Err-settle_all-clause-blames
returns-in-Err-settle_all-clause-blames g c none =
    let p = g.L.Law.Rules in
    let t = g.L.SharedLog in
    let r = g.R.Replica in
    let w = t.who c.args.log.now in
    let old = t.seen c.args.log.now in
    let m1 = t.seen c.propose.new.log in
    let m2 = t.seen c.flush.new.log in
    let new = t.seen c.settle_all.new.log in
    let was = view_of c.args.outbox.now in
    let o1 = view_of c.propose.new.outbox in
    let o2 = view_of c.flush.new.outbox in
    let is = view_of c.settle_all.new.outbox in
    let a = r.shows c.args.replica.now in
    let v1 = r.shows c.propose.new.replica in
    let v2 = r.shows c.flush.new.replica in
    let flushed = subst (λ x. Sent t.holds x m1 o1 (λ packed. Flushes v1.origin v1.kept packed v2.kept) m2 o2) c.propose.ensures.who c.in-Ok-flush.ensures.sent in
    let failing = subst (λ x. Failing t.holds x m2 o2 c.in-Err-settle_all.fault new is) (c.flush.ensures.who ∙ c.propose.ensures.who) c.in-Err-settle_all.ensures.failing in
    let on1 = more_of p.law old m1 c.propose.ensures.later in
    let on2 = more_of p.law m1 m2 c.flush.ensures.later in
    ⊎_elim
    (λ k. blames_failing t.holds w old m1 m2 new o1 o2 is _ c.in-Err-settle_all.fault a.faults v2.faults on1 on2 (owned_sent t.holds w old old m1 was o1 _ (no_more old) (owned_none w old old was none) k.0) flushed failing)
    (λ k. absurd (subst (IsFarAt v1.contents) c.requires.plain k.1))
    c.in-Ok.ensures.proposed

pub returns-in-Err-flush-clause-arming : goal.returns-in-Err-flush-clause-arming
returns-in-Err-flush-clause-arming g c =
    let r = g.R.Replica in
    let v = r.shows c.propose.new.replica in
    let u = r.shows c.flush.new.replica in
    arming_trans 0 (r.shows c.args.replica.now) v u c.propose.ensures.arming (arming_rest 0 v u c.flush.ensures.rest)

pub returns-in-Ok-settle_all-clause-arming : goal.returns-in-Ok-settle_all-clause-arming
returns-in-Ok-settle_all-clause-arming g c =
    let r = g.R.Replica in
    let v = r.shows c.propose.new.replica in
    let u = r.shows c.flush.new.replica in
    arming_trans 0 (r.shows c.args.replica.now) v u c.propose.ensures.arming (arming_rest 0 v u c.flush.ensures.rest)

pub returns-in-Err-settle_all-clause-arming : goal.returns-in-Err-settle_all-clause-arming
returns-in-Err-settle_all-clause-arming g c =
    let r = g.R.Replica in
    let v = r.shows c.propose.new.replica in
    let u = r.shows c.flush.new.replica in
    arming_trans 0 (r.shows c.args.replica.now) v u c.propose.ensures.arming (arming_rest 0 v u c.flush.ensures.rest)

-- a settling's cause is none of the store
pub returns-in-Err-settle_all-clause-twice : goal.returns-in-Err-settle_all-clause-twice
returns-in-Err-settle_all-clause-twice g c none =
    let p = g.L.Law.Rules in
    let t = g.L.SharedLog in
    let r = g.R.Replica in
    let w = t.who c.args.log.now in
    let old = t.seen c.args.log.now in
    let m1 = t.seen c.propose.new.log in
    let m2 = t.seen c.flush.new.log in
    let new = t.seen c.settle_all.new.log in
    let was = view_of c.args.outbox.now in
    let o1 = view_of c.propose.new.outbox in
    let o2 = view_of c.flush.new.outbox in
    let is = view_of c.settle_all.new.outbox in
    let f = c.in-Err-settle_all.fault in
    let v1 = r.shows c.propose.new.replica in
    let v2 = r.shows c.flush.new.replica in
    let flushed = subst (λ x. Sent t.holds x m1 o1 (λ packed. Flushes v1.origin v1.kept packed v2.kept) m2 o2) c.propose.ensures.who c.in-Ok-flush.ensures.sent in
    let failing = subst (λ x. Failing t.holds x m2 o2 f new is) (c.flush.ensures.who ∙ c.propose.ensures.who) c.in-Err-settle_all.ensures.failing in
    let on1 = more_of p.law old m1 c.propose.ensures.later in
    let on2 = more_of p.law m1 m2 c.flush.ensures.later in
    ⊎_elim
    (λ k. λ store. absurd (never_store w old new f (λ faults faults'. blames_failing t.holds w old m1 m2 new o1 o2 is _ f faults faults' on1 on2 (owned_sent t.holds w old old m1 was o1 _ (no_more old) (owned_none w old old was none) k.0) flushed failing) store))
    (λ k. absurd (subst (IsFarAt v1.contents) c.requires.plain k.1))
    c.in-Ok.ensures.proposed

pub returns-in-Err-clause-unpushed : goal.returns-in-Err-clause-unpushed
returns-in-Err-clause-unpushed g c =
    let p = g.L.Law.Rules in
    let t = g.L.SharedLog in
    let r = g.R.Replica in
    let w = t.who c.args.log.now in
    let old = t.seen c.args.log.now in
    let m1 = t.seen c.propose.new.log in
    let was = view_of c.args.outbox.now in
    let o1 = view_of c.propose.new.outbox in
    let a = r.shows c.args.replica.now in
    let v1 = r.shows c.propose.new.replica in
    refused_down t.holds w a.origin old m1 was o1 a.kept v1.kept c.args.item c.in-Err.fault (subst (λ word. GaveUpAt t.holds w old was word c.in-Err.fault m1 o1) c.requires.plain c.in-Err.ensures.refused) c.in-Err.ensures.same

pub returns-in-Err-flush-clause-unpushed : goal.returns-in-Err-flush-clause-unpushed
returns-in-Err-flush-clause-unpushed g c =
    let p = g.L.Law.Rules in
    let t = g.L.SharedLog in
    let r = g.R.Replica in
    let w = t.who c.args.log.now in
    let old = t.seen c.args.log.now in
    let m1 = t.seen c.propose.new.log in
    let was = view_of c.args.outbox.now in
    let o1 = view_of c.propose.new.outbox in
    let a = r.shows c.args.replica.now in
    let v1 = r.shows c.propose.new.replica in
    let m2 = t.seen c.flush.new.log in
    let o2 = view_of c.flush.new.outbox in
    let v2 = r.shows c.flush.new.replica in
    let unsent = subst (λ x. Settled t.holds x m1 o1 m2 o2) c.propose.ensures.who c.in-Err-flush.ensures.unsent in
    ⊎_elim
    (λ k. unflushed p.law t.holds w a.origin old m1 m2 was o1 o2 a.kept v1.kept v2.kept c.args.item c.flush.ensures.later.legal k.0 unsent (ap (λ (x : ReplicaView). x.kept) c.in-Err-flush.ensures.same))
    (λ k. absurd (subst (IsFarAt v1.contents) c.requires.plain k.1))
    c.in-Ok.ensures.proposed

pub returns-in-Ok-settle_all-clause-through : goal.returns-in-Ok-settle_all-clause-through
returns-in-Ok-settle_all-clause-through g c =
    let p = g.L.Law.Rules in
    let t = g.L.SharedLog in
    let r = g.R.Replica in
    let w = t.who c.args.log.now in
    let old = t.seen c.args.log.now in
    let m1 = t.seen c.propose.new.log in
    let was = view_of c.args.outbox.now in
    let o1 = view_of c.propose.new.outbox in
    let a = r.shows c.args.replica.now in
    let v1 = r.shows c.propose.new.replica in
    let m2 = t.seen c.flush.new.log in
    let o2 = view_of c.flush.new.outbox in
    let v2 = r.shows c.flush.new.replica in
    let new = t.seen c.settle_all.new.log in
    let is = view_of c.settle_all.new.outbox in
    let flushed = subst (λ x. Sent t.holds x m1 o1 (λ packed. Flushes v1.origin v1.kept packed v2.kept) m2 o2) c.propose.ensures.who c.in-Ok-flush.ensures.sent in
    let by = subst (λ o. Sent t.holds w m1 o1 (λ packed. Flushes o v1.kept packed v2.kept) m2 o2) c.propose.ensures.origin flushed in
    let settled = subst (λ x. Answers t.holds x m2 o2 None new is) (c.flush.ensures.who ∙ c.propose.ensures.who) c.in-Ok-settle_all.ensures.calm in
    ⊎_elim
    (λ k. went_through p.law t.holds w a.origin old m1 m2 new was o1 o2 is a.kept v1.kept v2.kept c.args.item None c.flush.ensures.later.legal c.settle_all.ensures.later.legal k.0 by settled)
    (λ k. absurd (subst (IsFarAt v1.contents) c.requires.plain k.1))
    c.in-Ok.ensures.proposed

pub returns-in-Err-settle_all-clause-unpushed : goal.returns-in-Err-settle_all-clause-unpushed
returns-in-Err-settle_all-clause-unpushed g c =
    let p = g.L.Law.Rules in
    let t = g.L.SharedLog in
    let r = g.R.Replica in
    let w = t.who c.args.log.now in
    let old = t.seen c.args.log.now in
    let m1 = t.seen c.propose.new.log in
    let was = view_of c.args.outbox.now in
    let o1 = view_of c.propose.new.outbox in
    let a = r.shows c.args.replica.now in
    let v1 = r.shows c.propose.new.replica in
    let m2 = t.seen c.flush.new.log in
    let o2 = view_of c.flush.new.outbox in
    let v2 = r.shows c.flush.new.replica in
    let new = t.seen c.settle_all.new.log in
    let is = view_of c.settle_all.new.outbox in
    let flushed = subst (λ x. Sent t.holds x m1 o1 (λ packed. Flushes v1.origin v1.kept packed v2.kept) m2 o2) c.propose.ensures.who c.in-Ok-flush.ensures.sent in
    let by = subst (λ o. Sent t.holds w m1 o1 (λ packed. Flushes o v1.kept packed v2.kept) m2 o2) c.propose.ensures.origin flushed in
    let f = c.in-Err-settle_all.fault in
    let failing = subst (λ x. Failing t.holds x m2 o2 f new is) (c.flush.ensures.who ∙ c.propose.ensures.who) c.in-Err-settle_all.ensures.failing in
    ⊎_elim
    (λ k. push_failed p.law t.holds w a.origin old m1 m2 new was o1 o2 is a.kept v1.kept v2.kept c.args.item f c.flush.ensures.later.legal c.settle_all.ensures.later.legal k.0 by failing)
    (λ k. absurd (subst (IsFarAt v1.contents) c.requires.plain k.1))
    c.in-Ok.ensures.proposed
