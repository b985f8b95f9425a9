use Rattle.std.proofs.Common.{inl, inr, ◌∙◌, ◌++◌, ◌∷◌, [], sym, subst, ap}
use Rattle.engine_api.specs.Packing.{packed}
use Rattle.replica_api.specs.Replica.{ReplicaView, Queues}
use Rattle.base_engine.specs.Settling.{view_of, Settled}
use Rattle.base_engine.specs.Proposing.{Readied, Sent}
use Rattle.engine_steps.specs.Words.{under}
use Rattle.base_engine.proofs.Following.{follows_rest, crash_rest, known_rest}
use Rattle.base_engine.proofs.Proposing.{sent_after, settled_after, refused_memory}
use Rattle.base_engine.proofs.Whole.{kept_waiting, queued_waiting}
use Rattle.base_engine.proofs.Arming.{arming_rest, arming_trans}
use Rattle.base_engine.proofs.propose.propose.Goals as goal

pub returns-then-not-ready-clause-proposed : goal.returns-then-not-ready-clause-proposed
returns-then-not-ready-clause-proposed g c =
    let p = g.L.Law.Rules in
    let t = g.L.SharedLog in
    let r = g.R.Replica in
    let w = t.who c.args.log.now in
    let old = t.seen c.args.log.now in
    let mid = t.seen c.is_ready.new.log in
    let was = view_of c.args.outbox.now in
    let now = view_of c.is_ready.new.outbox in
    let a = r.shows c.args.replica.now in
    let v = r.shows c.is_ready.new.replica in
    let e = c.in-Ok.ensures in
    let far = subst (λ b. Readied t.holds w old was c.args.item b mid now v) c.if-not-ready.true e.ready in
    inr (far.0, far.1, e.kept)

pub send-requires-clause-own : goal.send-requires-clause-own
send-requires-clause-own g c =
    let p = g.L.Law.Rules in
    let t = g.L.SharedLog in
    let r = g.R.Replica in
    let w = t.who c.args.log.now in
    let old = t.seen c.args.log.now in
    let mid = t.seen c.is_ready.new.log in
    let was = view_of c.args.outbox.now in
    let now = view_of c.is_ready.new.outbox in
    let a = r.shows c.args.replica.now in
    let v = r.shows c.is_ready.new.replica in
    let e = c.in-Ok.ensures in
    subst (λ x. p.law.may x (packed v.origin (v.kept ++ c.args.item ∷ []))) (sym e.who)
    (subst (λ o. p.law.may w (packed o (v.kept ++ c.args.item ∷ []))) (sym e.origin) (subst (λ k. p.law.may w (packed a.origin (k ++ c.args.item ∷ []))) (sym e.kept) c.requires.own))

pub returns-in-Ok-send-clause-follows : goal.returns-in-Ok-send-clause-follows
returns-in-Ok-send-clause-follows g c =
    let p = g.L.Law.Rules in
    let t = g.L.SharedLog in
    let r = g.R.Replica in
    let w = t.who c.args.log.now in
    let old = t.seen c.args.log.now in
    let mid = t.seen c.is_ready.new.log in
    let was = view_of c.args.outbox.now in
    let now = view_of c.is_ready.new.outbox in
    let a = r.shows c.args.replica.now in
    let v = r.shows c.is_ready.new.replica in
    let e = c.in-Ok.ensures in
    follows_rest p.law t.holds r.meaning g.met.L.SharedLog.stays mid (t.seen c.send.new.log) v (r.shows c.send.new.replica) c.send.ensures.later c.send.ensures.rest e.follows

pub returns-in-Ok-send-clause-bounded : goal.returns-in-Ok-send-clause-bounded
returns-in-Ok-send-clause-bounded g c =
    let p = g.L.Law.Rules in
    let t = g.L.SharedLog in
    let r = g.R.Replica in
    let w = t.who c.args.log.now in
    let old = t.seen c.args.log.now in
    let mid = t.seen c.is_ready.new.log in
    let was = view_of c.args.outbox.now in
    let now = view_of c.is_ready.new.outbox in
    let a = r.shows c.args.replica.now in
    let v = r.shows c.is_ready.new.replica in
    let e = c.in-Ok.ensures in
    known_rest (t.reaches c.is_ready.new.log) (t.reaches c.send.new.log) v (r.shows c.send.new.replica) c.send.ensures.known c.send.ensures.rest e.bounded

pub returns-in-Ok-send-clause-any_crash : goal.returns-in-Ok-send-clause-any_crash
returns-in-Ok-send-clause-any_crash g c =
    let p = g.L.Law.Rules in
    let t = g.L.SharedLog in
    let r = g.R.Replica in
    let w = t.who c.args.log.now in
    let old = t.seen c.args.log.now in
    let mid = t.seen c.is_ready.new.log in
    let was = view_of c.args.outbox.now in
    let now = view_of c.is_ready.new.outbox in
    let a = r.shows c.args.replica.now in
    let v = r.shows c.is_ready.new.replica in
    let e = c.in-Ok.ensures in
    crash_rest p.law t.holds r.meaning g.met.L.SharedLog.stays mid (t.seen c.send.new.log) a v (r.shows c.send.new.replica) c.send.ensures.later c.send.ensures.rest e.any_crash

pub returns-in-Err-send-clause-follows : goal.returns-in-Err-send-clause-follows
returns-in-Err-send-clause-follows g c =
    let p = g.L.Law.Rules in
    let t = g.L.SharedLog in
    let r = g.R.Replica in
    let w = t.who c.args.log.now in
    let old = t.seen c.args.log.now in
    let mid = t.seen c.is_ready.new.log in
    let was = view_of c.args.outbox.now in
    let now = view_of c.is_ready.new.outbox in
    let a = r.shows c.args.replica.now in
    let v = r.shows c.is_ready.new.replica in
    let e = c.in-Ok.ensures in
    follows_rest p.law t.holds r.meaning g.met.L.SharedLog.stays mid (t.seen c.send.new.log) v (r.shows c.send.new.replica) c.send.ensures.later c.send.ensures.rest e.follows

pub returns-in-Err-send-clause-bounded : goal.returns-in-Err-send-clause-bounded
returns-in-Err-send-clause-bounded g c =
    let p = g.L.Law.Rules in
    let t = g.L.SharedLog in
    let r = g.R.Replica in
    let w = t.who c.args.log.now in
    let old = t.seen c.args.log.now in
    let mid = t.seen c.is_ready.new.log in
    let was = view_of c.args.outbox.now in
    let now = view_of c.is_ready.new.outbox in
    let a = r.shows c.args.replica.now in
    let v = r.shows c.is_ready.new.replica in
    let e = c.in-Ok.ensures in
    known_rest (t.reaches c.is_ready.new.log) (t.reaches c.send.new.log) v (r.shows c.send.new.replica) c.send.ensures.known c.send.ensures.rest e.bounded

pub returns-in-Err-send-clause-any_crash : goal.returns-in-Err-send-clause-any_crash
returns-in-Err-send-clause-any_crash g c =
    let p = g.L.Law.Rules in
    let t = g.L.SharedLog in
    let r = g.R.Replica in
    let w = t.who c.args.log.now in
    let old = t.seen c.args.log.now in
    let mid = t.seen c.is_ready.new.log in
    let was = view_of c.args.outbox.now in
    let now = view_of c.is_ready.new.outbox in
    let a = r.shows c.args.replica.now in
    let v = r.shows c.is_ready.new.replica in
    let e = c.in-Ok.ensures in
    crash_rest p.law t.holds r.meaning g.met.L.SharedLog.stays mid (t.seen c.send.new.log) a v (r.shows c.send.new.replica) c.send.ensures.later c.send.ensures.rest e.any_crash

pub returns-in-Ok-send-clause-proposed : goal.returns-in-Ok-send-clause-proposed
returns-in-Ok-send-clause-proposed g c =
    let p = g.L.Law.Rules in
    let t = g.L.SharedLog in
    let r = g.R.Replica in
    let w = t.who c.args.log.now in
    let old = t.seen c.args.log.now in
    let mid = t.seen c.is_ready.new.log in
    let was = view_of c.args.outbox.now in
    let now = view_of c.is_ready.new.outbox in
    let a = r.shows c.args.replica.now in
    let v = r.shows c.is_ready.new.replica in
    let e = c.in-Ok.ensures in
    let new = t.seen c.send.new.log in
    let is = view_of c.send.new.outbox in
    let u = r.shows c.send.new.replica in
    let ready = subst (λ b. Readied t.holds w old was c.args.item b mid now v) c.if-not-ready.false e.ready in
    let sent = subst (λ x. Sent t.holds x mid now (λ packed. Queues v.origin v.kept c.args.item packed u.kept) new is) e.who c.in-Ok-send.ensures.sent in
    let from = subst (λ k. Sent t.holds w mid now (λ packed. Queues v.origin k c.args.item packed u.kept) new is) e.kept sent in
    let by = subst (λ o. Sent t.holds w mid now (λ packed. Queues o a.kept c.args.item packed u.kept) new is) e.origin from in
    inl (sent_after t.holds w old mid new was now is v u c.args.item (λ packed. Queues a.origin a.kept c.args.item packed u.kept) ready by (ap (λ (x : ReplicaView). x.contents) c.send.ensures.rest))

pub returns-in-Err-send-clause-refused : goal.returns-in-Err-send-clause-refused
returns-in-Err-send-clause-refused g c =
    let p = g.L.Law.Rules in
    let t = g.L.SharedLog in
    let r = g.R.Replica in
    let w = t.who c.args.log.now in
    let old = t.seen c.args.log.now in
    let mid = t.seen c.is_ready.new.log in
    let was = view_of c.args.outbox.now in
    let now = view_of c.is_ready.new.outbox in
    let a = r.shows c.args.replica.now in
    let v = r.shows c.is_ready.new.replica in
    let e = c.in-Ok.ensures in
    let new = t.seen c.send.new.log in
    let is = view_of c.send.new.outbox in
    let u = r.shows c.send.new.replica in
    let ready = subst (λ b. Readied t.holds w old was c.args.item b mid now v) c.if-not-ready.false e.ready in
    refused_memory t.holds w old was (under 2 c.args.item) new is (settled_after t.holds w old mid new was now is v c.args.item ready (subst (λ x. Settled t.holds x mid now new is) e.who c.in-Err-send.ensures.unsent))

pub returns-in-Err-clause-waiting : goal.returns-in-Err-clause-waiting
returns-in-Err-clause-waiting g c =
    let r = g.R.Replica in
    let a = r.shows c.args.replica.now in
    let v = r.shows c.is_ready.new.replica in
    kept_waiting g.L.Law.Rules.law.may (g.L.SharedLog.who c.args.log.now) a.origin a.kept v.kept c.in-Err.ensures.kept c.requires.waits

pub returns-then-not-ready-clause-waiting : goal.returns-then-not-ready-clause-waiting
returns-then-not-ready-clause-waiting g c =
    let p = g.L.Law.Rules in
    let t = g.L.SharedLog in
    let r = g.R.Replica in
    let w = t.who c.args.log.now in
    let old = t.seen c.args.log.now in
    let mid = t.seen c.is_ready.new.log in
    let was = view_of c.args.outbox.now in
    let now = view_of c.is_ready.new.outbox in
    let a = r.shows c.args.replica.now in
    let v = r.shows c.is_ready.new.replica in
    let e = c.in-Ok.ensures in
    kept_waiting p.law.may w a.origin a.kept v.kept e.kept c.requires.waits

pub returns-in-Ok-send-clause-waiting : goal.returns-in-Ok-send-clause-waiting
returns-in-Ok-send-clause-waiting g c =
    let p = g.L.Law.Rules in
    let t = g.L.SharedLog in
    let r = g.R.Replica in
    let w = t.who c.args.log.now in
    let old = t.seen c.args.log.now in
    let mid = t.seen c.is_ready.new.log in
    let was = view_of c.args.outbox.now in
    let now = view_of c.is_ready.new.outbox in
    let a = r.shows c.args.replica.now in
    let v = r.shows c.is_ready.new.replica in
    let e = c.in-Ok.ensures in
    let u = r.shows c.send.new.replica in
    let q = c.in-Ok-send.ensures.sent in
    let from = subst (λ k. Queues v.origin k c.args.item q.packed u.kept) e.kept q.out in
    let by = subst (λ o. Queues o a.kept c.args.item q.packed u.kept) e.origin from in
    queued_waiting p.law.may w a.origin a.kept u.kept c.args.item q.packed by c.requires.own

pub returns-in-Err-send-clause-waiting : goal.returns-in-Err-send-clause-waiting
returns-in-Err-send-clause-waiting g c =
    let p = g.L.Law.Rules in
    let t = g.L.SharedLog in
    let r = g.R.Replica in
    let w = t.who c.args.log.now in
    let old = t.seen c.args.log.now in
    let mid = t.seen c.is_ready.new.log in
    let was = view_of c.args.outbox.now in
    let now = view_of c.is_ready.new.outbox in
    let a = r.shows c.args.replica.now in
    let v = r.shows c.is_ready.new.replica in
    let e = c.in-Ok.ensures in
    let u = r.shows c.send.new.replica in
    kept_waiting p.law.may w a.origin a.kept u.kept (ap (λ (x : ReplicaView). x.kept) c.in-Err-send.ensures.same ∙ e.kept) c.requires.waits

pub returns-in-Ok-send-clause-arming : goal.returns-in-Ok-send-clause-arming
returns-in-Ok-send-clause-arming g c =
    let r = g.R.Replica in
    let v = r.shows c.is_ready.new.replica in
    let u = r.shows c.send.new.replica in
    arming_trans 0 (r.shows c.args.replica.now) v u c.in-Ok.ensures.arming (arming_rest 0 v u c.send.ensures.rest)

pub returns-in-Err-send-clause-arming : goal.returns-in-Err-send-clause-arming
returns-in-Err-send-clause-arming g c =
    let r = g.R.Replica in
    let v = r.shows c.is_ready.new.replica in
    let u = r.shows c.send.new.replica in
    arming_trans 0 (r.shows c.args.replica.now) v u c.in-Ok.ensures.arming (arming_rest 0 v u c.send.ensures.rest)
