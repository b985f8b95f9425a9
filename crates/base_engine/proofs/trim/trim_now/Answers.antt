use Rattle.std.proofs.Common.{◌≡◌, ◌<◌, ◌^◌, ◌∙◌, ◌++◌, ◌∷◌, [], None, inr, refl, sym, subst, arith}
use Rattle.std.specs.Prelude.{All}
use Rattle.engine_api.specs.Packing.{packed, trim_item}
use Rattle.engine_steps.specs.Words.{under}
use Rattle.virtual_log.proofs.OneTurn.{later_trans}
use Rattle.base_engine.specs.declared.fault.Fault.TheVariants.{Memory}
use Rattle.base_engine.specs.Causes.{Blames}
use Rattle.base_engine.specs.Arming.{StoreTwice}
use Rattle.base_engine.specs.Settling.{view_of, MaySend}
use Rattle.base_engine.specs.Trimming.{HasLanded, TrimsBelow, GoesThrough, Unpushed}
use Rattle.base_engine.proofs.Following.{crash_on}
use Rattle.base_engine.proofs.Settling.{more_of}
use Rattle.base_engine.proofs.Whole.{kept_waiting}
use Rattle.base_engine.proofs.Landing.{on_on, blames_since, plain_trim}
use Rattle.base_engine.proofs.Pushing.{through_from, unpushed_from, untrimmed_before, untrimmed_push, untrimmed_after, earlier_answers, earlier_or, memory_twice}
use Rattle.base_engine.proofs.Arming.{arming_trans, store_since}
use Rattle.base_engine.proofs.trim.trim_now.Goals as goal

pub push_through-requires-clause-plain : goal.push_through-requires-clause-plain
push_through-requires-clause-plain g c = subst (λ i. under 2 i ≡ None) (sym c.in-Ok-trim_item.ensures.item) (plain_trim c.in-Ok.position)

pub push_through-requires-clause-may : goal.push_through-requires-clause-may
push_through-requires-clause-may g c = subst (λ x. All (λ e. MaySend g.L.Law.Rules.law.may x e) c.args.outbox.now.entries.items) (sym c.find_least.ensures.who) c.requires.may

pub push_through-requires-clause-own : goal.push_through-requires-clause-own
push_through-requires-clause-own g c =
    let p = g.L.Law.Rules in
    let t = g.L.SharedLog in
    let r = g.R.Replica in
    let w = t.who c.args.log.now in
    let a = r.shows c.args.replica.now in
    let v = r.shows c.find_least.new.replica in
    let e = c.find_least.ensures in
    let item = c.in-Ok-trim_item.item in
    let small : c.in-Ok.position < 2 ^ 64 = omega arith in
    subst (λ x. p.law.may x (packed v.origin (v.kept ++ item ∷ []))) (sym e.who)
    (subst (λ o. p.law.may w (packed o (v.kept ++ item ∷ []))) (sym e.origin)
    (subst (λ k. p.law.may w (packed a.origin (k ++ item ∷ []))) (sym e.kept)
    (subst (λ i. p.law.may w (packed a.origin (a.kept ++ i ∷ []))) (sym c.in-Ok-trim_item.ensures.item) (c.requires.own c.in-Ok.position small))))

pub push_through-requires-clause-waits : goal.push_through-requires-clause-waits
push_through-requires-clause-waits g c = λ some.
    let p = g.L.Law.Rules in
    let t = g.L.SharedLog in
    let r = g.R.Replica in
    let w = t.who c.args.log.now in
    let a = r.shows c.args.replica.now in
    let v = r.shows c.find_least.new.replica in
    let e = c.find_least.ensures in
    subst (λ x. p.law.may x (packed v.origin v.kept)) (sym e.who)
    (subst (λ o. p.law.may w (packed o v.kept)) (sym e.origin)
    (subst (λ k. p.law.may w (packed a.origin k)) (sym e.kept) (c.requires.waits (λ none. some (e.kept ∙ none)))))

pub returns-in-Err-push_through-clause-later : goal.returns-in-Err-push_through-clause-later
returns-in-Err-push_through-clause-later g c =
    let p = g.L.Law.Rules in
    let t = g.L.SharedLog in
    later_trans p.law (t.seen c.args.log.now) (t.seen c.find_least.new.log) (t.seen c.push_through.new.log) c.find_least.ensures.later c.push_through.ensures.later

pub returns-in-Err-push_through-clause-any_crash : goal.returns-in-Err-push_through-clause-any_crash
returns-in-Err-push_through-clause-any_crash g c =
    let p = g.L.Law.Rules in
    let t = g.L.SharedLog in
    let r = g.R.Replica in
    crash_on p.law t.holds r.meaning g.met.L.SharedLog.stays (t.seen c.find_least.new.log) (t.seen c.push_through.new.log) (r.shows c.args.replica.now) (r.shows c.find_least.new.replica) (r.shows c.push_through.new.replica)
    c.push_through.ensures.later c.find_least.ensures.forward c.find_least.ensures.any_crash c.push_through.ensures.any_crash

pub returns-in-Ok-trim_below-clause-any_crash : goal.returns-in-Ok-trim_below-clause-any_crash
returns-in-Ok-trim_below-clause-any_crash g c =
    let p = g.L.Law.Rules in
    let t = g.L.SharedLog in
    let r = g.R.Replica in
    let a = r.shows c.args.replica.now in
    let v = r.shows c.find_least.new.replica in
    let u = r.shows c.push_through.new.replica in
    let first = crash_on p.law t.holds r.meaning g.met.L.SharedLog.stays (t.seen c.find_least.new.log) (t.seen c.push_through.new.log) a v u
    c.push_through.ensures.later c.find_least.ensures.forward c.find_least.ensures.any_crash c.push_through.ensures.any_crash in
    crash_on p.law t.holds r.meaning g.met.L.SharedLog.stays (t.seen c.push_through.new.log) (t.seen c.trim_below.new.log) a u (r.shows c.trim_below.new.replica)
    c.trim_below.ensures.later (omega (arith, c.find_least.ensures.forward, c.push_through.ensures.forward)) first c.trim_below.ensures.any_crash

pub returns-in-Err-trim_below-clause-any_crash : goal.returns-in-Err-trim_below-clause-any_crash
returns-in-Err-trim_below-clause-any_crash g c =
    let p = g.L.Law.Rules in
    let t = g.L.SharedLog in
    let r = g.R.Replica in
    let a = r.shows c.args.replica.now in
    let v = r.shows c.find_least.new.replica in
    let u = r.shows c.push_through.new.replica in
    let first = crash_on p.law t.holds r.meaning g.met.L.SharedLog.stays (t.seen c.find_least.new.log) (t.seen c.push_through.new.log) a v u
    c.push_through.ensures.later c.find_least.ensures.forward c.find_least.ensures.any_crash c.push_through.ensures.any_crash in
    crash_on p.law t.holds r.meaning g.met.L.SharedLog.stays (t.seen c.push_through.new.log) (t.seen c.trim_below.new.log) a u (r.shows c.trim_below.new.replica)
    c.trim_below.ensures.later (omega (arith, c.find_least.ensures.forward, c.push_through.ensures.forward)) first c.trim_below.ensures.any_crash

pub returns-in-Ok-trim_below-clause-trims : goal.returns-in-Ok-trim_below-clause-trims
returns-in-Ok-trim_below-clause-trims g c =
    let t = g.L.SharedLog in
    let r = g.R.Replica in
    let w = t.who c.args.log.now in
    let a = r.shows c.args.replica.now in
    let v = r.shows c.find_least.new.replica in
    let synced = t.seen c.find_least.new.log in
    let asked = t.seen c.push_through.new.log in
    let e = c.find_least.ensures in
    record {
      there = v;
      synced = synced;
      position = c.in-Ok.position;
      found = c.in-Ok.ensures.found;
      asked = asked;
      landed = subst (λ i. HasLanded t.holds w a.origin synced i asked) c.in-Ok-trim_item.ensures.item
          (subst (λ o. HasLanded t.holds w o synced c.in-Ok-trim_item.item asked) e.origin
          (subst (λ x. HasLanded t.holds x v.origin synced c.in-Ok-trim_item.item asked) e.who c.in-Ok-push_through.ensures.landed));
      below = subst (λ x. TrimsBelow c.args.nodes x asked (t.seen c.trim_below.new.log) (r.shows c.trim_below.new.replica) (t.reaches c.trim_below.new.log) c.in-Ok-trim_below.trim) (c.push_through.ensures.who ∙ e.who) c.in-Ok-trim_below.ensures.trims;
    }

pub returns-in-Err-clause-waiting : goal.returns-in-Err-clause-waiting
returns-in-Err-clause-waiting g c =
    let r = g.R.Replica in
    let a = r.shows c.args.replica.now in
    kept_waiting g.L.Law.Rules.law.may (g.L.SharedLog.who c.args.log.now) a.origin a.kept (r.shows c.find_least.new.replica).kept c.find_least.ensures.kept c.requires.waits

pub returns-in-Err-trim_item-clause-waiting : goal.returns-in-Err-trim_item-clause-waiting
returns-in-Err-trim_item-clause-waiting g c =
    let r = g.R.Replica in
    let a = r.shows c.args.replica.now in
    kept_waiting g.L.Law.Rules.law.may (g.L.SharedLog.who c.args.log.now) a.origin a.kept (r.shows c.find_least.new.replica).kept c.find_least.ensures.kept c.requires.waits

pub returns-in-Err-push_through-clause-waiting : goal.returns-in-Err-push_through-clause-waiting
returns-in-Err-push_through-clause-waiting g c = λ some.
    let p = g.L.Law.Rules in
    let r = g.R.Replica in
    let v = r.shows c.find_least.new.replica in
    let u = r.shows c.push_through.new.replica in
    let e = c.find_least.ensures in
    subst (λ o. p.law.may (g.L.SharedLog.who c.args.log.now) (packed o u.kept)) e.origin (subst (λ x. p.law.may x (packed v.origin u.kept)) e.who (c.push_through.ensures.waiting some))

pub returns-in-Ok-trim_below-clause-waiting : goal.returns-in-Ok-trim_below-clause-waiting
returns-in-Ok-trim_below-clause-waiting g c = λ some.
    let p = g.L.Law.Rules in
    let r = g.R.Replica in
    let w = g.L.SharedLog.who c.args.log.now in
    let a = r.shows c.args.replica.now in
    let v = r.shows c.find_least.new.replica in
    let u = r.shows c.push_through.new.replica in
    let e = c.find_least.ensures in
    let k = c.trim_below.ensures.kept in
    subst (λ i. p.law.may w (packed a.origin i)) (sym k) (subst (λ o. p.law.may w (packed o u.kept)) e.origin (subst (λ x. p.law.may x (packed v.origin u.kept)) e.who (c.push_through.ensures.waiting (λ none. some (k ∙ none)))))

pub returns-in-Err-trim_below-clause-waiting : goal.returns-in-Err-trim_below-clause-waiting
returns-in-Err-trim_below-clause-waiting g c = λ some.
    let p = g.L.Law.Rules in
    let r = g.R.Replica in
    let w = g.L.SharedLog.who c.args.log.now in
    let a = r.shows c.args.replica.now in
    let v = r.shows c.find_least.new.replica in
    let u = r.shows c.push_through.new.replica in
    let e = c.find_least.ensures in
    let k = c.trim_below.ensures.kept in
    subst (λ i. p.law.may w (packed a.origin i)) (sym k) (subst (λ o. p.law.may w (packed o u.kept)) e.origin (subst (λ x. p.law.may x (packed v.origin u.kept)) e.who (c.push_through.ensures.waiting (λ none. some (k ∙ none)))))

pub returns-in-Err-push_through-clause-arming : goal.returns-in-Err-push_through-clause-arming
returns-in-Err-push_through-clause-arming g c =
    let r = g.R.Replica in
    arming_trans 0 (r.shows c.args.replica.now) (r.shows c.find_least.new.replica) (r.shows c.push_through.new.replica) c.find_least.ensures.arming c.push_through.ensures.arming

pub returns-in-Ok-trim_below-clause-arming : goal.returns-in-Ok-trim_below-clause-arming
returns-in-Ok-trim_below-clause-arming g c =
    let r = g.R.Replica in
    let a = r.shows c.args.replica.now in
    let v = r.shows c.find_least.new.replica in
    let u = r.shows c.push_through.new.replica in
    arming_trans 0 a u (r.shows c.trim_below.new.replica) (arming_trans 0 a v u c.find_least.ensures.arming c.push_through.ensures.arming) c.trim_below.ensures.arming

pub returns-in-Err-trim_below-clause-arming : goal.returns-in-Err-trim_below-clause-arming
returns-in-Err-trim_below-clause-arming g c =
    let r = g.R.Replica in
    let a = r.shows c.args.replica.now in
    let v = r.shows c.find_least.new.replica in
    let u = r.shows c.push_through.new.replica in
    arming_trans 0 a u (r.shows c.trim_below.new.replica) (arming_trans 0 a v u c.find_least.ensures.arming c.push_through.ensures.arming) c.trim_below.ensures.arming

pub returns-in-Err-clause-untrimmed : goal.returns-in-Err-clause-untrimmed
returns-in-Err-clause-untrimmed g c =
    let p = g.L.Law.Rules in
    let t = g.L.SharedLog in
    let r = g.R.Replica in
    let w = t.who c.args.log.now in
    let old = t.seen c.args.log.now in
    let mid = t.seen c.find_least.new.log in
    let was = view_of c.args.outbox.now in
    let a = r.shows c.args.replica.now in
    let v = r.shows c.find_least.new.replica in
    let e = c.find_least.ensures in
    let on = more_of p.law old mid e.later in
    untrimmed_before t.holds w a.origin old mid was was a.kept v.kept c.in-Err.fault on refl e.kept

pub returns-in-Err-trim_item-clause-untrimmed : goal.returns-in-Err-trim_item-clause-untrimmed
returns-in-Err-trim_item-clause-untrimmed g c =
    let p = g.L.Law.Rules in
    let t = g.L.SharedLog in
    let r = g.R.Replica in
    let w = t.who c.args.log.now in
    let old = t.seen c.args.log.now in
    let mid = t.seen c.find_least.new.log in
    let was = view_of c.args.outbox.now in
    let a = r.shows c.args.replica.now in
    let v = r.shows c.find_least.new.replica in
    let e = c.find_least.ensures in
    let on = more_of p.law old mid e.later in
    untrimmed_before t.holds w a.origin old mid was was a.kept v.kept Memory on refl e.kept

pub returns-in-Err-push_through-clause-untrimmed : goal.returns-in-Err-push_through-clause-untrimmed
returns-in-Err-push_through-clause-untrimmed g c =
    let p = g.L.Law.Rules in
    let t = g.L.SharedLog in
    let r = g.R.Replica in
    let w = t.who c.args.log.now in
    let old = t.seen c.args.log.now in
    let mid = t.seen c.find_least.new.log in
    let was = view_of c.args.outbox.now in
    let a = r.shows c.args.replica.now in
    let v = r.shows c.find_least.new.replica in
    let e = c.find_least.ensures in
    let on = more_of p.law old mid e.later in
    let asked = t.seen c.push_through.new.log in
    let is = view_of c.push_through.new.outbox in
    let u = r.shows c.push_through.new.replica in
    let item = c.in-Ok-trim_item.item in
    let position = c.in-Ok.position in
    let f = c.in-Err-push_through.fault in
    let by_who = subst (λ x. Unpushed t.holds x v.origin mid was v.kept item f asked is u.kept) e.who c.in-Err-push_through.ensures.unpushed in
    let by_origin = subst (λ o. Unpushed t.holds w o mid was v.kept item f asked is u.kept) e.origin by_who in
    let by_kept = subst (λ k. Unpushed t.holds w a.origin mid was k item f asked is u.kept) e.kept by_origin in
    let by_item = subst (λ i. Unpushed t.holds w a.origin mid was a.kept i f asked is u.kept) c.in-Ok-trim_item.ensures.item by_kept in
    let unpushed = unpushed_from p.law t.holds w a.origin old mid asked was is a.kept u.kept (trim_item position) f on c.push_through.ensures.later.legal by_item in
    untrimmed_push t.holds w a.origin position old asked was is a.kept u.kept f unpushed

pub returns-in-Ok-trim_below-clause-through : goal.returns-in-Ok-trim_below-clause-through
returns-in-Ok-trim_below-clause-through g c =
    let p = g.L.Law.Rules in
    let t = g.L.SharedLog in
    let r = g.R.Replica in
    let w = t.who c.args.log.now in
    let old = t.seen c.args.log.now in
    let mid = t.seen c.find_least.new.log in
    let was = view_of c.args.outbox.now in
    let a = r.shows c.args.replica.now in
    let v = r.shows c.find_least.new.replica in
    let e = c.find_least.ensures in
    let on = more_of p.law old mid e.later in
    let asked = t.seen c.push_through.new.log in
    let is = view_of c.push_through.new.outbox in
    let u = r.shows c.push_through.new.replica in
    let item = c.in-Ok-trim_item.item in
    let position = c.in-Ok.position in
    let new = t.seen c.trim_below.new.log in
    let y = r.shows c.trim_below.new.replica in
    let by_who = subst (λ x. GoesThrough t.holds x v.origin mid was v.kept item None asked is u.kept) e.who c.in-Ok-push_through.ensures.through in
    let by_origin = subst (λ o. GoesThrough t.holds w o mid was v.kept item None asked is u.kept) e.origin by_who in
    let by_kept = subst (λ k. GoesThrough t.holds w a.origin mid was k item None asked is u.kept) e.kept by_origin in
    let by_item = subst (λ i. GoesThrough t.holds w a.origin mid was a.kept i None asked is u.kept) c.in-Ok-trim_item.ensures.item by_kept in
    let kept = subst (λ k. GoesThrough t.holds w a.origin mid was a.kept (trim_item position) None asked is k) (sym c.trim_below.ensures.kept) by_item in
    let through = through_from p.law t.holds w a.origin old mid asked new was is a.kept y.kept (trim_item position) None on c.push_through.ensures.later.legal (more_of p.law asked new c.trim_below.ensures.later) kept in
    record { position = position; through = through }

pub returns-in-Err-trim_below-clause-untrimmed : goal.returns-in-Err-trim_below-clause-untrimmed
returns-in-Err-trim_below-clause-untrimmed g c =
    let p = g.L.Law.Rules in
    let t = g.L.SharedLog in
    let r = g.R.Replica in
    let w = t.who c.args.log.now in
    let old = t.seen c.args.log.now in
    let mid = t.seen c.find_least.new.log in
    let was = view_of c.args.outbox.now in
    let a = r.shows c.args.replica.now in
    let v = r.shows c.find_least.new.replica in
    let e = c.find_least.ensures in
    let on = more_of p.law old mid e.later in
    let asked = t.seen c.push_through.new.log in
    let is = view_of c.push_through.new.outbox in
    let u = r.shows c.push_through.new.replica in
    let item = c.in-Ok-trim_item.item in
    let position = c.in-Ok.position in
    let new = t.seen c.trim_below.new.log in
    let y = r.shows c.trim_below.new.replica in
    let by_who = subst (λ x. GoesThrough t.holds x v.origin mid was v.kept item None asked is u.kept) e.who c.in-Ok-push_through.ensures.through in
    let by_origin = subst (λ o. GoesThrough t.holds w o mid was v.kept item None asked is u.kept) e.origin by_who in
    let by_kept = subst (λ k. GoesThrough t.holds w a.origin mid was k item None asked is u.kept) e.kept by_origin in
    let by_item = subst (λ i. GoesThrough t.holds w a.origin mid was a.kept i None asked is u.kept) c.in-Ok-trim_item.ensures.item by_kept in
    let kept = subst (λ k. GoesThrough t.holds w a.origin mid was a.kept (trim_item position) None asked is k) (sym c.trim_below.ensures.kept) by_item in
    let through = through_from p.law t.holds w a.origin old mid asked new was is a.kept y.kept (trim_item position) None on c.push_through.ensures.later.legal (more_of p.law asked new c.trim_below.ensures.later) kept in
    untrimmed_after t.holds w a.origin position old new was is a.kept y.kept c.in-Err-trim_below.fault through

pub returns-in-Err-clause-blames : goal.returns-in-Err-clause-blames
returns-in-Err-clause-blames g c = inr c.in-Err.ensures.blames

pub returns-in-Err-trim_item-clause-blames : goal.returns-in-Err-trim_item-clause-blames
returns-in-Err-trim_item-clause-blames g c = inr tt

pub returns-in-Err-push_through-clause-blames : goal.returns-in-Err-push_through-clause-blames
returns-in-Err-push_through-clause-blames g c =
    let p = g.L.Law.Rules in
    let t = g.L.SharedLog in
    let r = g.R.Replica in
    let w = t.who c.args.log.now in
    let old = t.seen c.args.log.now in
    let mid = t.seen c.find_least.new.log in
    let was = view_of c.args.outbox.now in
    let a = r.shows c.args.replica.now in
    let v = r.shows c.find_least.new.replica in
    let e = c.find_least.ensures in
    let on = more_of p.law old mid e.later in
    let asked = t.seen c.push_through.new.log in
    let is = view_of c.push_through.new.outbox in
    let u = r.shows c.push_through.new.replica in
    let item = c.in-Ok-trim_item.item in
    let position = c.in-Ok.position in
    let f = c.in-Err-push_through.fault in
    let by_who = subst (λ x. Unpushed t.holds x v.origin mid was v.kept item f asked is u.kept) e.who c.in-Err-push_through.ensures.unpushed in
    let by_origin = subst (λ o. Unpushed t.holds w o mid was v.kept item f asked is u.kept) e.origin by_who in
    let by_kept = subst (λ k. Unpushed t.holds w a.origin mid was k item f asked is u.kept) e.kept by_origin in
    let by_item = subst (λ i. Unpushed t.holds w a.origin mid was a.kept i f asked is u.kept) c.in-Ok-trim_item.ensures.item by_kept in
    let unpushed = unpushed_from p.law t.holds w a.origin old mid asked was is a.kept u.kept (trim_item position) f on c.push_through.ensures.later.legal by_item in
    earlier_or (λ x. Blames w old a.faults x asked u.faults) was.unsettled f tt
    (λ none. blames_since w old mid asked a.faults v.faults u.faults f on e.counts c.push_through.ensures.counts (subst (λ x. Blames x mid v.faults f asked u.faults) e.who (c.in-Err-push_through.ensures.blames none)))
    (λ cause waits. earlier_answers t.holds w a.origin old asked was is a.kept u.kept (trim_item position) cause f waits unpushed)

pub returns-in-Err-trim_below-clause-blames : goal.returns-in-Err-trim_below-clause-blames
returns-in-Err-trim_below-clause-blames g c =
    let p = g.L.Law.Rules in
    let t = g.L.SharedLog in
    let r = g.R.Replica in
    let w = t.who c.args.log.now in
    let old = t.seen c.args.log.now in
    let mid = t.seen c.find_least.new.log in
    let was = view_of c.args.outbox.now in
    let a = r.shows c.args.replica.now in
    let v = r.shows c.find_least.new.replica in
    let e = c.find_least.ensures in
    let on = more_of p.law old mid e.later in
    let asked = t.seen c.push_through.new.log in
    let is = view_of c.push_through.new.outbox in
    let u = r.shows c.push_through.new.replica in
    let item = c.in-Ok-trim_item.item in
    let position = c.in-Ok.position in
    let new = t.seen c.trim_below.new.log in
    let y = r.shows c.trim_below.new.replica in
    let f = c.in-Err-trim_below.fault in
    let all = on_on old mid asked on (more_of p.law mid asked c.push_through.ensures.later) in
    inr (blames_since w old asked new a.faults u.faults y.faults f all (omega (arith, c.find_least.ensures.counts, c.push_through.ensures.counts)) c.trim_below.ensures.counts
    (subst (λ x. Blames x asked u.faults f new y.faults) (c.push_through.ensures.who ∙ c.find_least.ensures.who) c.in-Err-trim_below.ensures.blames))

pub returns-in-Err-clause-twice : goal.returns-in-Err-clause-twice
returns-in-Err-clause-twice g c = inr c.in-Err.ensures.twice

pub returns-in-Err-trim_item-clause-twice : goal.returns-in-Err-trim_item-clause-twice
returns-in-Err-trim_item-clause-twice g c =
    let r = g.R.Replica in
    inr (memory_twice (r.shows c.args.replica.now) (r.shows c.find_least.new.replica))

pub returns-in-Err-push_through-clause-twice : goal.returns-in-Err-push_through-clause-twice
returns-in-Err-push_through-clause-twice g c =
    let p = g.L.Law.Rules in
    let t = g.L.SharedLog in
    let r = g.R.Replica in
    let w = t.who c.args.log.now in
    let old = t.seen c.args.log.now in
    let mid = t.seen c.find_least.new.log in
    let was = view_of c.args.outbox.now in
    let a = r.shows c.args.replica.now in
    let v = r.shows c.find_least.new.replica in
    let e = c.find_least.ensures in
    let on = more_of p.law old mid e.later in
    let asked = t.seen c.push_through.new.log in
    let is = view_of c.push_through.new.outbox in
    let u = r.shows c.push_through.new.replica in
    let item = c.in-Ok-trim_item.item in
    let position = c.in-Ok.position in
    let f = c.in-Err-push_through.fault in
    let by_who = subst (λ x. Unpushed t.holds x v.origin mid was v.kept item f asked is u.kept) e.who c.in-Err-push_through.ensures.unpushed in
    let by_origin = subst (λ o. Unpushed t.holds w o mid was v.kept item f asked is u.kept) e.origin by_who in
    let by_kept = subst (λ k. Unpushed t.holds w a.origin mid was k item f asked is u.kept) e.kept by_origin in
    let by_item = subst (λ i. Unpushed t.holds w a.origin mid was a.kept i f asked is u.kept) c.in-Ok-trim_item.ensures.item by_kept in
    let unpushed = unpushed_from p.law t.holds w a.origin old mid asked was is a.kept u.kept (trim_item position) f on c.push_through.ensures.later.legal by_item in
    earlier_or (λ x. StoreTwice a x u) was.unsettled f (memory_twice a u)
    (λ none. store_since 0 a v u f e.arming c.push_through.ensures.counts (c.in-Err-push_through.ensures.twice none))
    (λ cause waits. earlier_answers t.holds w a.origin old asked was is a.kept u.kept (trim_item position) cause f waits unpushed)

pub returns-in-Err-trim_below-clause-twice : goal.returns-in-Err-trim_below-clause-twice
returns-in-Err-trim_below-clause-twice g c =
    let r = g.R.Replica in
    let a = r.shows c.args.replica.now in
    let v = r.shows c.find_least.new.replica in
    let u = r.shows c.push_through.new.replica in
    inr (store_since 0 a u (r.shows c.trim_below.new.replica) c.in-Err-trim_below.fault (arming_trans 0 a v u c.find_least.ensures.arming c.push_through.ensures.arming) c.trim_below.ensures.counts c.in-Err-trim_below.ensures.twice)
