use Rattle.std.proofs.Common.{◌≡◌, ◌⊎◌, ◌∙◌, ◌≤◌, true, false, inl, inr, subst, refl, sym, ap, ⊎_elim, arith}
use Rattle.std.specs.Prelude.{if◌then◌else◌}
use Rattle.disk_model.specs.Disk.{Rose, bumped}
use Rattle.replica_api.specs.Replica.{ReplicaView, saved_in}
use Rattle.base_engine.specs.Following.{Plays, GoesOn, KeepsTail}
use Rattle.virtual_log.proofs.OneTurn.{later_refl, later_trans}
use Rattle.base_engine.proofs.Following.{follows_same, follows_reopened, found_state, found_near, crash_at_rest, crash_on, goes_none, goes_found, goes_after, crash_in_reopen, known_reopened, known_same, turns_left}
use Rattle.base_engine.proofs.Tails.{keeps_same, keeps_on}
use Rattle.base_engine.proofs.Arming.{arming_refl, arming_trans, down_since, twice_again, store_since, broken_rose, once_spent, once_but, once_from, once_unopened, unspent, spent, repaired_same}
use Rattle.base_engine.proofs.play.play.Goals as goal

pub entry-init : goal.entry-init
entry-init g c =
    let p = g.L.Law.Rules in
    let t = g.L.SharedLog in
    let r = g.R.Replica in
    record {
      later = later_refl p.law (t.seen c.args.log.now) c.requires.legal;
      who = refl;
      known = refl;
      follows = c.requires.follows;
      bounded = c.requires.bounded;
      forward = omega (arith);
      went = goes_none t.holds r.meaning (t.seen c.args.log.now) (saved_in (r.shows c.args.replica.now)) (saved_in (r.shows c.args.replica.now)) refl;
      below = inl refl;
      counts = omega (arith);
      up = λ h. absurd (cc);
      arming = arming_refl 0 (r.shows c.args.replica.now);
      used = λ h. absurd (cc);
      spent = refl;
      stays = λ h. refl;
      kept = refl;
      origin = refl;
      quiet = keeps_same (t.who c.args.log.now) (r.shows c.args.replica.now).cursor (t.seen c.args.log.now);
      any_crash = crash_at_rest t.holds r.meaning (t.seen c.args.log.now) (r.shows c.args.replica.now) c.requires.follows;
    }

pub entry-preserved-in-Ok-Applied : goal.entry-preserved-in-Ok-Applied
entry-preserved-in-Ok-Applied g c =
    let p = g.L.Law.Rules in
    let t = g.L.SharedLog in
    let r = g.R.Replica in
    let l = c.entry in
    let i = l.invariant in
    let e = c.in-Ok-Applied.ensures in
    let first = t.seen c.args.log.now in
    let now = t.seen l.log in
    let new = t.seen c.apply_next.new.log in
    let plays = subst (λ x. Plays x (r.shows l.replica) (r.shows c.apply_next.new.replica) new) c.in-Ok-Applied.field-0-is e.plays in
    record {
      later = later_trans p.law first now new i.later e.later;
      who = e.who ∙ i.who;
      known = e.known ∙ i.known;
      follows = e.follows;
      bounded = e.bounded;
      forward = omega (arith, i.forward, e.forward);
      went = goes_after p.law t.holds r.meaning g.met.L.SharedLog.stays now new (saved_in (r.shows c.args.replica.now)) (saved_in (r.shows l.replica)) (saved_in (r.shows c.apply_next.new.replica)) e.later i.went e.goes_on;
      below = inr (omega (arith, plays.0, c.cursor.ensures.cursor, c.entry-test.true));
      counts = omega (arith, i.counts, plays.1);
      up = λ h. plays.2;
      arming = arming_trans 0 (r.shows c.args.replica.now) (r.shows l.replica) (r.shows c.apply_next.new.replica) i.arming e.arming;
      used = λ h. subst (λ n. ((r.shows c.args.replica.now).down ≡ true) ⊎ Rose (r.shows c.args.replica.now).faults n) (sym plays.1) (i.used h);
      spent = plays.1 ∙ i.spent;
      stays = λ h. plays.2 ∙ sym plays.3 ∙ i.stays h;
      kept = e.kept ∙ i.kept;
      origin = e.origin ∙ i.origin;
      quiet = keeps_on p.law (t.who c.args.log.now) (r.shows c.args.replica.now).cursor first now new i.later e.later (r.shows l.replica).cursor i.forward i.quiet
          (subst (λ w. KeepsTail w (r.shows l.replica).cursor now new) i.who e.quiet);
      any_crash = crash_on p.law t.holds r.meaning g.met.L.SharedLog.stays now new (r.shows c.args.replica.now) (r.shows l.replica) (r.shows c.apply_next.new.replica) e.later i.forward i.any_crash e.any_crash;
    }

pub returns-in-Ok-Trimmed-clause-any_crash : goal.returns-in-Ok-Trimmed-clause-any_crash
returns-in-Ok-Trimmed-clause-any_crash g c =
    let p = g.L.Law.Rules in
    let t = g.L.SharedLog in
    let r = g.R.Replica in
    let l = c.entry in
    let i = l.invariant in
    let e = c.in-Ok-Trimmed.ensures in
    crash_on p.law t.holds r.meaning g.met.L.SharedLog.stays (t.seen l.log) (t.seen c.apply_next.new.log) (r.shows c.args.replica.now) (r.shows l.replica) (r.shows c.apply_next.new.replica) e.later i.forward i.any_crash e.any_crash

pub returns-in-Ok-Trimmed-clause-quiet : goal.returns-in-Ok-Trimmed-clause-quiet
returns-in-Ok-Trimmed-clause-quiet g c =
    let p = g.L.Law.Rules in
    let t = g.L.SharedLog in
    let r = g.R.Replica in
    let l = c.entry in
    let i = l.invariant in
    let e = c.in-Ok-Trimmed.ensures in
    let now = t.seen l.log in
    let new = t.seen c.apply_next.new.log in
    keeps_on p.law (t.who c.args.log.now) (r.shows c.args.replica.now).cursor (t.seen c.args.log.now) now new i.later e.later (r.shows l.replica).cursor i.forward i.quiet
    (subst (λ w. KeepsTail w (r.shows l.replica).cursor now new) i.who e.quiet)

pub returns-then-not-spare-clause-any_crash : goal.returns-then-not-spare-clause-any_crash
returns-then-not-spare-clause-any_crash g c =
    let p = g.L.Law.Rules in
    let t = g.L.SharedLog in
    let r = g.R.Replica in
    let l = c.entry in
    let i = l.invariant in
    let e = c.in-Ok-Broken.ensures in
    crash_on p.law t.holds r.meaning g.met.L.SharedLog.stays (t.seen l.log) (t.seen c.apply_next.new.log) (r.shows c.args.replica.now) (r.shows l.replica) (r.shows c.apply_next.new.replica) e.later i.forward i.any_crash e.any_crash

pub returns-in-Err-clause-any_crash : goal.returns-in-Err-clause-any_crash
returns-in-Err-clause-any_crash g c =
    let p = g.L.Law.Rules in
    let t = g.L.SharedLog in
    let r = g.R.Replica in
    let l = c.entry in
    let i = l.invariant in
    let e = c.in-Err.ensures in
    crash_on p.law t.holds r.meaning g.met.L.SharedLog.stays (t.seen l.log) (t.seen c.apply_next.new.log) (r.shows c.args.replica.now) (r.shows l.replica) (r.shows c.apply_next.new.replica) e.later i.forward i.any_crash e.any_crash

pub returns-in-Err-open_again-clause-follows : goal.returns-in-Err-open_again-clause-follows
returns-in-Err-open_again-clause-follows g c =
    let t = g.L.SharedLog in
    let r = g.R.Replica in
    let d = c.in-Err-open_again.ensures.down in
    follows_same t.holds r.meaning (t.seen c.apply_next.new.log) (r.shows c.apply_next.new.replica) (r.shows c.open_again.new.replica) c.in-Ok-Broken.ensures.follows
    (ap saved_in d.is) (ap (λ (x : ReplicaView). x.asked) d.is) c.in-Err-open_again.ensures.survives

pub returns-in-Err-open_again-clause-bounded : goal.returns-in-Err-open_again-clause-bounded
returns-in-Err-open_again-clause-bounded g c =
    let r = g.R.Replica in
    let d = c.in-Err-open_again.ensures.down in
    known_same (g.L.SharedLog.reaches c.apply_next.new.log) (r.shows c.apply_next.new.replica) (r.shows c.open_again.new.replica) c.in-Ok-Broken.ensures.bounded
    (ap saved_in d.is) (ap (λ (x : ReplicaView). x.asked) d.is)

pub returns-in-Err-open_again-clause-any_crash : goal.returns-in-Err-open_again-clause-any_crash
returns-in-Err-open_again-clause-any_crash g c =
    let p = g.L.Law.Rules in
    let t = g.L.SharedLog in
    let r = g.R.Replica in
    let l = c.entry in
    let i = l.invariant in
    let e = c.in-Ok-Broken.ensures in
    let new = t.seen c.apply_next.new.log in
    let a = r.shows c.args.replica.now in
    let b = r.shows l.replica in
    let v = r.shows c.apply_next.new.replica in
    let w = r.shows c.open_again.new.replica in
    crash_on p.law t.holds r.meaning g.met.L.SharedLog.stays new new a v w (later_refl p.law new e.later.legal) (omega (arith, i.forward, e.forward))
    (crash_on p.law t.holds r.meaning g.met.L.SharedLog.stays (t.seen l.log) new a b v e.later i.forward i.any_crash e.any_crash)
    (crash_in_reopen t.holds r.meaning new v w e.follows c.in-Err-open_again.ensures.any_crash)

pub entry-smaller : goal.entry-smaller
entry-smaller g c =
    let t = g.L.SharedLog in
    let r = g.R.Replica in
    let e = c.in-Ok-Broken.ensures in
    let new = t.seen c.apply_next.new.log in
    let v = r.shows c.apply_next.new.replica in
    let w = r.shows c.open_again.new.replica in
    let found = found_state t.holds r.meaning new v (saved_in w) e.follows c.in-Ok.ensures.up.found in
    let up : v.cursor ≤ w.cursor = found.forward in
    let on : (r.shows c.entry.replica).cursor ≤ v.cursor = e.forward in
    let turn : turns_left c.entry.spare ≡ 1 = ap turns_left c.if-not-spare.false in
    grind (arith, up, on, turn, c.entry-test.true, c.cursor.ensures.cursor)

pub entry-preserved : goal.entry-preserved
entry-preserved g c =
    let p = g.L.Law.Rules in
    let t = g.L.SharedLog in
    let r = g.R.Replica in
    let l = c.entry in
    let i = l.invariant in
    let e = c.in-Ok-Broken.ensures in
    let up = c.in-Ok.ensures.up in
    let first = t.seen c.args.log.now in
    let now = t.seen l.log in
    let new = t.seen c.apply_next.new.log in
    let a = r.shows c.args.replica.now in
    let b = r.shows l.replica in
    let v = r.shows c.apply_next.new.replica in
    let w = r.shows c.open_again.new.replica in
    let plays = subst (λ x. Plays x b v new) c.in-Ok-Broken.field-0-is e.plays in
    let found = found_state t.holds r.meaning new v (saved_in w) e.follows up.found in
    let near = found_near t.holds r.meaning new v (saved_in w) e.follows up.found in
    record {
      later = later_trans p.law first now new i.later e.later;
      who = e.who ∙ i.who;
      known = e.known ∙ i.known;
      follows = follows_reopened t.holds r.meaning new 0 v w e.follows up c.in-Ok.ensures.survives;
      bounded = known_reopened 0 (t.reaches c.apply_next.new.log) v w e.bounded up;
      forward = omega (arith, i.forward, e.forward, found.forward);
      went = goes_after p.law t.holds r.meaning g.met.L.SharedLog.stays new new (saved_in a) (saved_in v) (saved_in w) (later_refl p.law new e.later.legal)
          (goes_after p.law t.holds r.meaning g.met.L.SharedLog.stays now new (saved_in a) (saved_in b) (saved_in v) e.later i.went e.goes_on)
          (goes_found t.holds r.meaning new v (saved_in w) e.follows up.found);
      below = inr (omega (arith, near, plays.0, c.cursor.ensures.cursor, c.entry-test.true));
      counts = omega (arith, i.counts, plays.1, up.faults);
      up = λ h. up.up;
      arming = arming_trans 0 a v w (arming_trans 0 a b v i.arming e.arming) c.in-Ok.ensures.arming;
      used = λ h. subst (λ n. (a.down ≡ true) ⊎ Rose a.faults n) (sym up.faults) (down_since 0 a b v.faults i.arming plays.1 (broken_rose b v plays.1 plays.2));
      spent = up.faults ∙ plays.2 ∙ repaired_same a b (unspent l.spare a b.faults c.if-not-spare.false i.spent) (i.stays c.if-not-spare.false);
      stays = λ h. absurd (cc);
      kept = up.kept ∙ (e.kept ∙ i.kept);
      origin = up.origin ∙ (e.origin ∙ i.origin);
      quiet = keeps_on p.law (t.who c.args.log.now) (r.shows c.args.replica.now).cursor first now new i.later e.later (r.shows l.replica).cursor i.forward i.quiet
          (subst (λ w. KeepsTail w (r.shows l.replica).cursor now new) i.who e.quiet);
      any_crash = crash_on p.law t.holds r.meaning g.met.L.SharedLog.stays new new a v w (later_refl p.law new e.later.legal) (omega (arith, i.forward, e.forward))
          (crash_on p.law t.holds r.meaning g.met.L.SharedLog.stays now new a b v e.later i.forward i.any_crash e.any_crash)
          (crash_in_reopen t.holds r.meaning new v w e.follows c.in-Ok.ensures.any_crash);
    }

pub returns-in-Ok-Trimmed-clause-arming : goal.returns-in-Ok-Trimmed-clause-arming
returns-in-Ok-Trimmed-clause-arming g c =
    let r = g.R.Replica in
    let l = c.entry in
    arming_trans 0 (r.shows c.args.replica.now) (r.shows l.replica) (r.shows c.apply_next.new.replica) l.invariant.arming c.in-Ok-Trimmed.ensures.arming

pub returns-then-not-spare-clause-arming : goal.returns-then-not-spare-clause-arming
returns-then-not-spare-clause-arming g c =
    let r = g.R.Replica in
    let l = c.entry in
    arming_trans 0 (r.shows c.args.replica.now) (r.shows l.replica) (r.shows c.apply_next.new.replica) l.invariant.arming c.in-Ok-Broken.ensures.arming

pub returns-in-Err-clause-arming : goal.returns-in-Err-clause-arming
returns-in-Err-clause-arming g c =
    let r = g.R.Replica in
    let l = c.entry in
    arming_trans 0 (r.shows c.args.replica.now) (r.shows l.replica) (r.shows c.apply_next.new.replica) l.invariant.arming c.in-Err.ensures.arming

pub returns-in-Err-open_again-clause-arming : goal.returns-in-Err-open_again-clause-arming
returns-in-Err-open_again-clause-arming g c =
    let r = g.R.Replica in
    let l = c.entry in
    let a = r.shows c.args.replica.now in
    let v = r.shows c.apply_next.new.replica in
    arming_trans 0 a v (r.shows c.open_again.new.replica) (arming_trans 0 a (r.shows l.replica) v l.invariant.arming c.in-Ok-Broken.ensures.arming) c.in-Err-open_again.ensures.arming

-- the first failure was repaired, so this is the second
pub returns-then-not-spare-clause-twice : goal.returns-then-not-spare-clause-twice
returns-then-not-spare-clause-twice g c = λ is.
    let t = g.L.SharedLog in
    let r = g.R.Replica in
    let l = c.entry in
    let i = l.invariant in
    let b = r.shows l.replica in
    let v = r.shows c.apply_next.new.replica in
    let plays = subst (λ x. Plays x b v (t.seen c.apply_next.new.log)) c.in-Ok-Broken.field-0-is c.in-Ok-Broken.ensures.plays in
    let none = c.if-not-spare.true in
    let rose : Rose b.faults v.faults = ⊎_elim (λ (d : b.down ≡ true). let no : true ≡ false = sym d ∙ i.up none in absurd (cc)) (λ x. x) (broken_rose b v plays.1 plays.2) in
    twice_again (r.shows c.args.replica.now) b.faults v i.counts plays.1 (i.used none) rose

pub returns-in-Err-open_again-clause-twice : goal.returns-in-Err-open_again-clause-twice
returns-in-Err-open_again-clause-twice g c =
    let r = g.R.Replica in
    let l = c.entry in
    let a = r.shows c.args.replica.now in
    let v = r.shows c.apply_next.new.replica in
    let w = r.shows c.open_again.new.replica in
    store_since 0 a v w c.in-Err-open_again.fault (arming_trans 0 a (r.shows l.replica) v l.invariant.arming c.in-Ok-Broken.ensures.arming) c.in-Err-open_again.ensures.down.counts c.in-Err-open_again.ensures.twice

pub returns-in-Ok-Trimmed-clause-goes_on : goal.returns-in-Ok-Trimmed-clause-goes_on
returns-in-Ok-Trimmed-clause-goes_on g c =
    let p = g.L.Law.Rules in
    let t = g.L.SharedLog in
    let r = g.R.Replica in
    let l = c.entry in
    let e = c.in-Ok-Trimmed.ensures in
    goes_after p.law t.holds r.meaning g.met.L.SharedLog.stays (t.seen l.log) (t.seen c.apply_next.new.log) (saved_in (r.shows c.args.replica.now)) (saved_in (r.shows l.replica)) (saved_in (r.shows c.apply_next.new.replica)) e.later l.invariant.went e.goes_on

pub returns-then-not-spare-clause-goes_on : goal.returns-then-not-spare-clause-goes_on
returns-then-not-spare-clause-goes_on g c =
    let p = g.L.Law.Rules in
    let t = g.L.SharedLog in
    let r = g.R.Replica in
    let l = c.entry in
    let e = c.in-Ok-Broken.ensures in
    goes_after p.law t.holds r.meaning g.met.L.SharedLog.stays (t.seen l.log) (t.seen c.apply_next.new.log) (saved_in (r.shows c.args.replica.now)) (saved_in (r.shows l.replica)) (saved_in (r.shows c.apply_next.new.replica)) e.later l.invariant.went e.goes_on

pub returns-in-Err-clause-goes_on : goal.returns-in-Err-clause-goes_on
returns-in-Err-clause-goes_on g c =
    let p = g.L.Law.Rules in
    let t = g.L.SharedLog in
    let r = g.R.Replica in
    let l = c.entry in
    let e = c.in-Err.ensures in
    goes_after p.law t.holds r.meaning g.met.L.SharedLog.stays (t.seen l.log) (t.seen c.apply_next.new.log) (saved_in (r.shows c.args.replica.now)) (saved_in (r.shows l.replica)) (saved_in (r.shows c.apply_next.new.replica)) e.later l.invariant.went e.goes_on

pub returns-in-Err-open_again-clause-goes_on : goal.returns-in-Err-open_again-clause-goes_on
returns-in-Err-open_again-clause-goes_on g c =
    let p = g.L.Law.Rules in
    let t = g.L.SharedLog in
    let r = g.R.Replica in
    let l = c.entry in
    let e = c.in-Ok-Broken.ensures in
    let a = saved_in (r.shows c.args.replica.now) in
    subst (λ s. GoesOn t.holds r.meaning.state (t.seen c.apply_next.new.log) a s) (sym (ap saved_in c.in-Err-open_again.ensures.down.is))
    (goes_after p.law t.holds r.meaning g.met.L.SharedLog.stays (t.seen l.log) (t.seen c.apply_next.new.log) a (saved_in (r.shows l.replica)) (saved_in (r.shows c.apply_next.new.replica)) e.later l.invariant.went e.goes_on)

pub returns-in-Ok-Trimmed-clause-once : goal.returns-in-Ok-Trimmed-clause-once
returns-in-Ok-Trimmed-clause-once g c =
    let r = g.R.Replica in
    let l = c.entry in
    let plays = subst (λ x. Plays x (r.shows l.replica) (r.shows c.apply_next.new.replica) (g.L.SharedLog.seen c.apply_next.new.log)) c.in-Ok-Trimmed.field-0-is c.in-Ok-Trimmed.ensures.plays in
    once_spent l.spare (r.shows c.args.replica.now) (r.shows c.apply_next.new.replica) (ap (λ (v : ReplicaView). v.faults) plays.0 ∙ l.invariant.spent)

pub returns-then-not-spare-clause-once_refused : goal.returns-then-not-spare-clause-once_refused
returns-then-not-spare-clause-once_refused g c =
    let r = g.R.Replica in
    let l = c.entry in
    let a = r.shows c.args.replica.now in
    let b = r.shows l.replica in
    let v = r.shows c.apply_next.new.replica in
    let plays = subst (λ x. Plays x b v (g.L.SharedLog.seen c.apply_next.new.log)) c.in-Ok-Broken.field-0-is c.in-Ok-Broken.ensures.plays in
    let none = c.if-not-spare.true in
    plays.2 ∙ ap (λ d. if d then b.faults else bumped b.faults) (l.invariant.up none) ∙ ap bumped (spent l.spare a b.faults none l.invariant.spent)

pub returns-in-Err-clause-once_refused : goal.returns-in-Err-clause-once_refused
returns-in-Err-clause-once_refused g c =
    let r = g.R.Replica in
    let l = c.entry in
    let e = c.in-Err.ensures in
    once_but (r.shows c.args.replica.now) (r.shows c.apply_next.new.replica) c.in-Err.fault e.never_store (once_spent l.spare (r.shows c.args.replica.now) (r.shows c.apply_next.new.replica) (e.calm.0 ∙ l.invariant.spent))

pub returns-in-Err-open_again-clause-once_refused : goal.returns-in-Err-open_again-clause-once_refused
returns-in-Err-open_again-clause-once_refused g c =
    let r = g.R.Replica in
    let l = c.entry in
    let i = l.invariant in
    let a = r.shows c.args.replica.now in
    let b = r.shows l.replica in
    let v = r.shows c.apply_next.new.replica in
    let plays = subst (λ x. Plays x b v (g.L.SharedLog.seen c.apply_next.new.log)) c.in-Ok-Broken.field-0-is c.in-Ok-Broken.ensures.plays in
    let faults = plays.2 ∙ repaired_same a b (unspent l.spare a b.faults c.if-not-spare.false i.spent) (i.stays c.if-not-spare.false) in
    once_unopened 0 a v (r.shows c.open_again.new.replica) c.in-Err-open_again.fault faults c.in-Err-open_again.ensures.fails
