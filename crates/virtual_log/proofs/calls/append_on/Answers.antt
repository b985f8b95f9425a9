use Rattle.std.proofs.Common.{◌≡◌, ◌∙◌, ◌+◌, ◌-◌, ◌≤◌, Some, IfSome, IfNone, ap, subst, arith, refl, None}
use Rattle.std.specs.Prelude.{slice_get}
use Rattle.std.proofs.lemmas.Result.{err_from_is_err_and}
use Rattle.delos_types.specs.declared.chain.Segment.{Segment}
use Rattle.legal_journal.specs.Journal.{state_of}
use Rattle.virtual_log.specs.Turning.{IsAbove, FirstTurn}
use Rattle.virtual_log.specs.Causes.{HasCause}
use Rattle.virtual_log.specs.Attempts.{AppendsOnce, AppendsNone}
use Rattle.virtual_log.proofs.OneTurn.{later_trans, cause_since, later_refl}
use Rattle.virtual_log.proofs.Appending.{above_since}
use Rattle.virtual_log.proofs.Going.{last_there, there_later, goes_later, goes_further, reach_fits, goes_behind, fewer}
use Rattle.virtual_log.proofs.Holding.{placed_held}
use Rattle.virtual_log.proofs.Saying.{drawn_refl, drawn_then, draws_then}
use Rattle.virtual_log.proofs.Sealing.{seals_refl, seals_then}
use Rattle.virtual_log.proofs.Calming.{calm_refl, calm_then}
use Rattle.virtual_log.proofs.Operating.{operates_refl, operates_then, left_then}
use Rattle.virtual_log.proofs.Attempts.{idle_refl, attempts_then, at_most_none, at_most_then}
use Rattle.virtual_log.proofs.calls.append_on.Goals as goal

pub append_to-requires-clause-started : goal.append_to-requires-clause-started
append_to-requires-clause-started g c =
    let p = g.T.Law.Rules in
    let t = g.T.Turns in
    let l = c.segment in
    let i = l.invariant in
    let k = l.known in
    let now = t.seen l.turns in
    let last = c.last_of-last.result in
    let there = last_there p.law now k.version k.tail k.chain last i.later.legal i.goes_by c.last_of-last.ensures in
    there

pub returns-in_err-position-clause-goes_by : goal.returns-in_err-position-clause-goes_by
returns-in_err-position-clause-goes_by g c =
    let p = g.T.Law.Rules in
    let t = g.T.Turns in
    let l = c.segment in
    let i = l.invariant in
    let k = l.known in
    let now = t.seen l.turns in
    let last = c.last_of-last.result in
    let there = last_there p.law now k.version k.tail k.chain last i.later.legal i.goes_by c.last_of-last.ensures in
    let mid = t.seen c.append_to.new.turns in
    goes_later p.law now mid k.version k.tail k.chain c.in_err-position.ensures.later i.goes_by

pub overflow_add-position : goal.overflow_add-position
overflow_add-position g c =
    let p = g.T.Law.Rules in
    let t = g.T.Turns in
    let l = c.segment in
    let i = l.invariant in
    let k = l.known in
    let now = t.seen l.turns in
    let last = c.last_of-last.result in
    let there = last_there p.law now k.version k.tail k.chain last i.later.legal i.goes_by c.last_of-last.ensures in
    let mid = t.seen c.append_to.new.turns in
    let to_mid = c.in_ok-position.ensures.later in
    let low = subst (λ o. IfSome o (λ pos. pos + 1 ≤ last.start + ((state_of mid).cells last.id).told.reach)) c.in-Some.is c.in_ok-position.ensures.reached in
    omega (arith, reach_fits p.law mid last.id last.start (c.in-Some.position + 1) to_mid.legal (there_later p.law now mid last.id last.start to_mid there) low)

pub returns-in-Some-clause-goes_by : goal.returns-in-Some-clause-goes_by
returns-in-Some-clause-goes_by g c =
    let p = g.T.Law.Rules in
    let t = g.T.Turns in
    let l = c.segment in
    let i = l.invariant in
    let k = l.known in
    let now = t.seen l.turns in
    let last = c.last_of-last.result in
    let there = last_there p.law now k.version k.tail k.chain last i.later.legal i.goes_by c.last_of-last.ensures in
    let mid = t.seen c.append_to.new.turns in
    let to_mid = c.in_ok-position.ensures.later in
    let low = subst (λ o. IfSome o (λ pos. pos + 1 ≤ last.start + ((state_of mid).cells last.id).told.reach)) c.in-Some.is c.in_ok-position.ensures.reached in
    goes_further p.law mid k.version k.tail (c.in-Some.position + 1) c.max-known.result k.chain last (goes_later p.law now mid k.version k.tail k.chain to_mid i.goes_by) c.last_of-last.ensures low c.max-known.ensures

pub returns-in-Some-clause-above : goal.returns-in-Some-clause-above
returns-in-Some-clause-above g c =
    let p = g.T.Law.Rules in
    let t = g.T.Turns in
    let l = c.segment in
    let i = l.invariant in
    let k = l.known in
    let now = t.seen l.turns in
    let last = c.last_of-last.result in
    let there = last_there p.law now k.version k.tail k.chain last i.later.legal i.goes_by c.last_of-last.ensures in
    let mid = t.seen c.append_to.new.turns in
    let to_mid = c.in_ok-position.ensures.later in
    let up = subst (λ o. IfSome o (λ pos. IsAbove (t.who l.turns) now pos mid)) c.in-Some.is c.in_ok-position.ensures.above in
    i.above c.in-Some.position mid to_mid (subst (λ w. IsAbove w now c.in-Some.position mid) i.who up)

pub returns-in-Some-clause-held : goal.returns-in-Some-clause-held
returns-in-Some-clause-held g c =
    let p = g.T.Law.Rules in
    let t = g.T.Turns in
    let l = c.segment in
    let i = l.invariant in
    let k = l.known in
    let now = t.seen l.turns in
    let last = c.last_of-last.result in
    let there = last_there p.law now k.version k.tail k.chain last i.later.legal i.goes_by c.last_of-last.ensures in
    let mid = t.seen c.append_to.new.turns in
    let to_mid = c.in_ok-position.ensures.later in
    let made = c.in_ok-position.ensures in
    let low = subst (λ o. IfSome o (λ pos. pos + 1 ≤ last.start + ((state_of mid).cells last.id).told.reach)) c.in-Some.is made.reached in
    let up = subst (λ o. IfSome o (λ pos. last.start ≤ pos)) c.in-Some.is made.start in
    let placed = subst (λ o. IfSome o (λ pos. slice_get ((state_of mid).cells last.id).entries (pos - last.start) ≡ Some c.args.entry.now)) c.in-Some.is made.placed in
    placed_held p.law mid k.version k.tail c.in-Some.position k.chain last c.args.entry.now to_mid.legal (goes_later p.law now mid k.version k.tail k.chain to_mid i.goes_by) c.last_of-last.ensures up low placed

pub chain_behind-requires-clause-started : goal.chain_behind-requires-clause-started
chain_behind-requires-clause-started g c =
    let p = g.T.Law.Rules in
    let t = g.T.Turns in
    let l = c.segment in
    let i = l.invariant in
    let k = l.known in
    let now = t.seen l.turns in
    let last = c.last_of-last.result in
    let there = last_there p.law now k.version k.tail k.chain last i.later.legal i.goes_by c.last_of-last.ensures in
    let mid = t.seen c.append_to.new.turns in
    let to_mid = c.in_ok-position.ensures.later in
    there_later p.law now mid last.id last.start to_mid there

pub returns-in_err-version-clause-goes_by : goal.returns-in_err-version-clause-goes_by
returns-in_err-version-clause-goes_by g c =
    let p = g.T.Law.Rules in
    let t = g.T.Turns in
    let l = c.segment in
    let i = l.invariant in
    let k = l.known in
    let now = t.seen l.turns in
    let last = c.last_of-last.result in
    let there = last_there p.law now k.version k.tail k.chain last i.later.legal i.goes_by c.last_of-last.ensures in
    let mid = t.seen c.append_to.new.turns in
    let to_mid = c.in_ok-position.ensures.later in
    let end = t.seen c.chain_behind.new.turns in
    goes_later p.law now end k.version k.tail k.chain (later_trans p.law now mid end to_mid c.in_err-version.ensures.later) i.goes_by

pub returns-in_err-version-clause-err : goal.returns-in_err-version-clause-err
returns-in_err-version-clause-err g c =
    let p = g.T.Law.Rules in
    let t = g.T.Turns in
    let l = c.segment in
    let i = l.invariant in
    let k = l.known in
    let now = t.seen l.turns in
    let last = c.last_of-last.result in
    let there = last_there p.law now k.version k.tail k.chain last i.later.legal i.goes_by c.last_of-last.ensures in
    let mid = t.seen c.append_to.new.turns in
    let to_mid = c.in_ok-position.ensures.later in
    let end = t.seen c.chain_behind.new.turns in
    let r = err_from_is_err_and c.from_residual-in_err-version.result c.from_residual-in_err-version.ensures.1 in
    let f = c.in_err-version.field-0.0 in
    let before = later_trans p.law (t.seen c.args.turns.now) now mid i.later to_mid in
    rw (r.1, r.2) (cause_since (t.who c.args.turns.now) f (t.seen c.args.turns.now) mid end before.more before.seen
    (subst (λ w. HasCause w mid f end) (c.in_ok-position.ensures.who ∙ i.who) c.in_err-version.ensures.err))

pub segment-smaller : goal.segment-smaller
segment-smaller g c =
    let p = g.T.Law.Rules in
    let t = g.T.Turns in
    let l = c.segment in
    let i = l.invariant in
    let k = l.known in
    let now = t.seen l.turns in
    let last = c.last_of-last.result in
    let there = last_there p.law now k.version k.tail k.chain last i.later.legal i.goes_by c.last_of-last.ensures in
    let mid = t.seen c.append_to.new.turns in
    let to_mid = c.in_ok-position.ensures.later in
    let end = t.seen c.chain_behind.new.turns in
    let from = c.in_ok-version.ensures in
    let behind = goes_behind p.law now end k.version k.tail c.in_ok-version.version k.chain c.in_ok-version.chain last i.later.legal (later_trans p.law now mid end to_mid from.later) i.goes_by c.last_of-last.ensures from.given from.behind in
    let less = fewer p.law end c.in_ok-version.version k.tail last.id c.in_ok-version.chain from.later.legal behind from.behind in
    omega (arith, less, ap (λ (x : Segment). x.id) c.last_of-last.ensures)

pub segment-preserved : goal.segment-preserved
segment-preserved g c =
    let p = g.T.Law.Rules in
    let t = g.T.Turns in
    let l = c.segment in
    let i = l.invariant in
    let k = l.known in
    let now = t.seen l.turns in
    let last = c.last_of-last.result in
    let there = last_there p.law now k.version k.tail k.chain last i.later.legal i.goes_by c.last_of-last.ensures in
    let mid = t.seen c.append_to.new.turns in
    let to_mid = c.in_ok-position.ensures.later in
    let end = t.seen c.chain_behind.new.turns in
    let from = c.in_ok-version.ensures in
    let behind = goes_behind p.law now end k.version k.tail c.in_ok-version.version k.chain c.in_ok-version.chain last i.later.legal (later_trans p.law now mid end to_mid from.later) i.goes_by c.last_of-last.ensures from.given from.behind in
    let first = subst (λ o. IfNone o (FirstTurn (t.who l.turns) now mid)) c.in_default.is c.in_ok-position.ensures.retry in
    record {
      later = later_trans p.law (t.seen c.args.turns.now) now end i.later (later_trans p.law now mid end to_mid from.later);
      who = from.who ∙ (c.in_ok-position.ensures.who ∙ i.who);
      goes_by = behind;
      tail = i.tail;
      rises = omega (arith, i.rises, from.behind, ap (λ (x : Segment). x.id) c.last_of-last.ensures);
      above = λ pos new later x.
          i.above pos new (later_trans p.law now end new (later_trans p.law now mid end to_mid from.later) later)
          (above_since p.law (t.who c.args.turns.now) pos now mid end new (subst (λ w. FirstTurn w now mid) i.who first) from.later later x);
      unsealed =
          let who = t.who c.args.turns.now in
          let old = t.seen c.args.turns.now in
          seals_then who (t.who c.append_to.new.turns) old (t.seen c.append_to.new.turns) (t.seen c.chain_behind.new.turns) (c.in_ok-position.ensures.who ∙ i.who) (seals_then who (t.who l.turns) old now (t.seen c.append_to.new.turns) i.who i.unsealed c.in_ok-position.ensures.unsealed) c.in_ok-version.ensures.unsealed;
      calm =
          let who = t.who c.args.turns.now in
          let old = t.seen c.args.turns.now in
          calm_then who (t.who c.append_to.new.turns) old (t.seen c.append_to.new.turns) (t.seen c.chain_behind.new.turns) (c.in_ok-position.ensures.who ∙ i.who) (calm_then who (t.who l.turns) old now (t.seen c.append_to.new.turns) i.who i.calm c.in_ok-position.ensures.calm) c.in_ok-version.ensures.calm;
      closes =
          let who = t.who c.args.turns.now in
          let old = t.seen c.args.turns.now in
          operates_then who (t.who c.append_to.new.turns) old (t.seen c.append_to.new.turns) (t.seen c.chain_behind.new.turns) (c.in_ok-position.ensures.who ∙ i.who) (operates_then who (t.who l.turns) old now (t.seen c.append_to.new.turns) i.who i.closes c.in_ok-position.ensures.closes) c.in_ok-version.ensures.closes;
      draws =
          let who = t.who c.args.turns.now in
          let old = t.seen c.args.turns.now in
          drawn_then who (t.who c.append_to.new.turns) old (t.seen c.append_to.new.turns) (t.seen c.chain_behind.new.turns) (c.in_ok-position.ensures.who ∙ i.who) (drawn_then who (t.who l.turns) old now (t.seen c.append_to.new.turns) i.who i.draws c.in_ok-position.ensures.draws) c.in_ok-version.ensures.draws;
      refused =
          let who = t.who c.args.turns.now in
          let old = t.seen c.args.turns.now in
          let again = subst (λ o. IfNone o (AppendsNone (t.who l.turns) c.args.entry.now now mid)) c.in_default.is c.in_ok-position.ensures.refused in
          attempts_then who (t.who c.append_to.new.turns) c.args.entry.now old mid end (c.in_ok-position.ensures.who ∙ i.who) (attempts_then who (t.who l.turns) c.args.entry.now old now mid i.who i.refused again) (from.idle c.args.entry.now);
    }

pub segment-init : goal.segment-init
segment-init g c =
    let p = g.T.Law.Rules in
    let t = g.T.Turns in
    let old = t.seen c.args.turns.now in
    record {
      later = later_refl p.law old c.requires.legal;
      who = refl;
      goes_by = c.requires.goes_by;
      tail = refl;
      rises = omega arith;
      above = λ pos new later x. x;
      unsealed = seals_refl (t.who c.args.turns.now) old;
      refused = idle_refl (t.who c.args.turns.now) old c.args.entry.now;
      calm = calm_refl (t.who c.args.turns.now) old;
      closes = operates_refl (t.who c.args.turns.now) None old;
      draws = drawn_refl (t.who c.args.turns.now) old;
    }

pub returns-in_err-position-clause-unsealed : goal.returns-in_err-position-clause-unsealed
returns-in_err-position-clause-unsealed g c =
    let t = g.T.Turns in
    let who = t.who c.args.turns.now in
    let old = t.seen c.args.turns.now in
    let l = c.segment in
    let i = l.invariant in
    let now = t.seen l.turns in
    seals_then who (t.who l.turns) old now (t.seen c.append_to.new.turns) i.who i.unsealed c.in_err-position.ensures.unsealed

pub returns-in_err-position-clause-memory : goal.returns-in_err-position-clause-memory
returns-in_err-position-clause-memory g c =
    let t = g.T.Turns in
    let who = t.who c.args.turns.now in
    let old = t.seen c.args.turns.now in
    let l = c.segment in
    let i = l.invariant in
    let now = t.seen l.turns in
    let r = err_from_is_err_and c.from_residual.result c.from_residual.ensures.1 in
    rw (r.1, r.2) (λ is. calm_then who (t.who l.turns) old now (t.seen c.append_to.new.turns) i.who i.calm (c.in_err-position.ensures.memory is))

pub returns-in-Some-clause-unsealed : goal.returns-in-Some-clause-unsealed
returns-in-Some-clause-unsealed g c =
    let t = g.T.Turns in
    let who = t.who c.args.turns.now in
    let old = t.seen c.args.turns.now in
    let l = c.segment in
    let i = l.invariant in
    let now = t.seen l.turns in
    seals_then who (t.who l.turns) old now (t.seen c.append_to.new.turns) i.who i.unsealed c.in_ok-position.ensures.unsealed

pub returns-in-Some-clause-calm : goal.returns-in-Some-clause-calm
returns-in-Some-clause-calm g c =
    let t = g.T.Turns in
    let who = t.who c.args.turns.now in
    let old = t.seen c.args.turns.now in
    let l = c.segment in
    let i = l.invariant in
    let now = t.seen l.turns in
    calm_then who (t.who l.turns) old now (t.seen c.append_to.new.turns) i.who i.calm c.in_ok-position.ensures.calm

pub returns-in_err-version-clause-unsealed : goal.returns-in_err-version-clause-unsealed
returns-in_err-version-clause-unsealed g c =
    let t = g.T.Turns in
    let who = t.who c.args.turns.now in
    let old = t.seen c.args.turns.now in
    let l = c.segment in
    let i = l.invariant in
    let now = t.seen l.turns in
    seals_then who (t.who c.append_to.new.turns) old (t.seen c.append_to.new.turns) (t.seen c.chain_behind.new.turns) (c.in_ok-position.ensures.who ∙ i.who) (seals_then who (t.who l.turns) old now (t.seen c.append_to.new.turns) i.who i.unsealed c.in_ok-position.ensures.unsealed) c.in_err-version.ensures.unsealed

pub returns-in_err-version-clause-memory : goal.returns-in_err-version-clause-memory
returns-in_err-version-clause-memory g c =
    let t = g.T.Turns in
    let who = t.who c.args.turns.now in
    let old = t.seen c.args.turns.now in
    let l = c.segment in
    let i = l.invariant in
    let now = t.seen l.turns in
    let r = err_from_is_err_and c.from_residual-in_err-version.result c.from_residual-in_err-version.ensures.1 in
    rw (r.1, r.2) (λ is. calm_then who (t.who c.append_to.new.turns) old (t.seen c.append_to.new.turns) (t.seen c.chain_behind.new.turns) (c.in_ok-position.ensures.who ∙ i.who) (calm_then who (t.who l.turns) old now (t.seen c.append_to.new.turns) i.who i.calm c.in_ok-position.ensures.calm) (c.in_err-version.ensures.memory is))

pub returns-in_err-position-clause-closes : goal.returns-in_err-position-clause-closes
returns-in_err-position-clause-closes g c =
    let t = g.T.Turns in
    let who = t.who c.args.turns.now in
    let old = t.seen c.args.turns.now in
    let l = c.segment in
    let i = l.invariant in
    let now = t.seen l.turns in
    let r = err_from_is_err_and c.from_residual.result c.from_residual.ensures.1 in
    rw (r.1, r.2) (left_then who (t.who l.turns) old now (t.seen c.append_to.new.turns) c.in_err-position.field-0.0 i.who i.closes c.in_err-position.ensures.closes)

pub returns-in-Some-clause-closes : goal.returns-in-Some-clause-closes
returns-in-Some-clause-closes g c =
    let t = g.T.Turns in
    let who = t.who c.args.turns.now in
    let old = t.seen c.args.turns.now in
    let l = c.segment in
    let i = l.invariant in
    let now = t.seen l.turns in
    operates_then who (t.who l.turns) old now (t.seen c.append_to.new.turns) i.who i.closes c.in_ok-position.ensures.closes

pub returns-in_err-version-clause-closes : goal.returns-in_err-version-clause-closes
returns-in_err-version-clause-closes g c =
    let t = g.T.Turns in
    let who = t.who c.args.turns.now in
    let old = t.seen c.args.turns.now in
    let l = c.segment in
    let i = l.invariant in
    let now = t.seen l.turns in
    let r = err_from_is_err_and c.from_residual-in_err-version.result c.from_residual-in_err-version.ensures.1 in
    rw (r.1, r.2) (left_then who (t.who c.append_to.new.turns) old (t.seen c.append_to.new.turns) (t.seen c.chain_behind.new.turns) c.in_err-version.field-0.0 (c.in_ok-position.ensures.who ∙ i.who) (operates_then who (t.who l.turns) old now (t.seen c.append_to.new.turns) i.who i.closes c.in_ok-position.ensures.closes) c.in_err-version.ensures.closes)

pub returns-in_err-position-clause-err : goal.returns-in_err-position-clause-err
returns-in_err-position-clause-err g c =
    let t = g.T.Turns in
    let who = t.who c.args.turns.now in
    let old = t.seen c.args.turns.now in
    let l = c.segment in
    let i = l.invariant in
    let now = t.seen l.turns in
    let new = t.seen c.append_to.new.turns in
    let f = c.in_err-position.field-0.0 in
    let r = err_from_is_err_and c.from_residual.result c.from_residual.ensures.1 in
    rw (r.1, r.2) (cause_since who f old now new i.later.more i.later.seen (subst (λ w. HasCause w now f new) i.who c.in_err-position.ensures.err))

pub returns-in_err-position-clause-rises : goal.returns-in_err-position-clause-rises
returns-in_err-position-clause-rises g c = c.segment.invariant.rises

pub returns-in-Some-clause-rises : goal.returns-in-Some-clause-rises
returns-in-Some-clause-rises g c = c.segment.invariant.rises

pub returns-in_err-version-clause-rises : goal.returns-in_err-version-clause-rises
returns-in_err-version-clause-rises g c = c.segment.invariant.rises

pub returns-in-Some-clause-once : goal.returns-in-Some-clause-once
returns-in-Some-clause-once g c =
    let t = g.T.Turns in
    let who = t.who c.args.turns.now in
    let old = t.seen c.args.turns.now in
    let l = c.segment in
    let i = l.invariant in
    let now = t.seen l.turns in
    let mid = t.seen c.append_to.new.turns in
    let e = c.args.entry.now in
    attempts_then who (t.who l.turns) e old now mid i.who i.refused (subst (λ o. IfSome o (λ pos. AppendsOnce (t.who l.turns) e now mid)) c.in-Some.is c.in_ok-position.ensures.once)

pub returns-in_err-position-clause-at_most : goal.returns-in_err-position-clause-at_most
returns-in_err-position-clause-at_most g c =
    let t = g.T.Turns in
    let who = t.who c.args.turns.now in
    let old = t.seen c.args.turns.now in
    let l = c.segment in
    let i = l.invariant in
    let now = t.seen l.turns in
    let mid = t.seen c.append_to.new.turns in
    let e = c.args.entry.now in
    let r = err_from_is_err_and c.from_residual.result c.from_residual.ensures.1 in
    rw (r.1, r.2) (at_most_then who (t.who l.turns) e old now mid c.in_err-position.field-0.0 i.who i.refused c.in_err-position.ensures.at_most)

pub returns-in_err-version-clause-at_most : goal.returns-in_err-version-clause-at_most
returns-in_err-version-clause-at_most g c =
    let t = g.T.Turns in
    let who = t.who c.args.turns.now in
    let old = t.seen c.args.turns.now in
    let l = c.segment in
    let i = l.invariant in
    let now = t.seen l.turns in
    let mid = t.seen c.append_to.new.turns in
    let e = c.args.entry.now in
    let end = t.seen c.chain_behind.new.turns in
    let again = subst (λ o. IfNone o (AppendsNone (t.who l.turns) e now mid)) c.in_default.is c.in_ok-position.ensures.refused in
    let r = err_from_is_err_and c.from_residual-in_err-version.result c.from_residual-in_err-version.ensures.1 in
    rw (r.1, r.2) (at_most_none who e old end c.in_err-version.field-0.0 (attempts_then who (t.who c.append_to.new.turns) e old mid end (c.in_ok-position.ensures.who ∙ i.who) (attempts_then who (t.who l.turns) e old now mid i.who i.refused again) (c.in_err-version.ensures.idle e)))

pub returns-in_err-position-clause-draws : goal.returns-in_err-position-clause-draws
returns-in_err-position-clause-draws g c =
    let t = g.T.Turns in
    let who = t.who c.args.turns.now in
    let old = t.seen c.args.turns.now in
    let l = c.segment in
    let i = l.invariant in
    let now = t.seen l.turns in
    let r = err_from_is_err_and c.from_residual.result c.from_residual.ensures.1 in
    rw (r.1, r.2) (draws_then _ who (t.who l.turns) old now (t.seen c.append_to.new.turns) c.in_err-position.field-0.0 i.who i.draws c.in_err-position.ensures.draws)

pub returns-in-Some-clause-draws : goal.returns-in-Some-clause-draws
returns-in-Some-clause-draws g c =
    let t = g.T.Turns in
    let who = t.who c.args.turns.now in
    let old = t.seen c.args.turns.now in
    let l = c.segment in
    let i = l.invariant in
    let now = t.seen l.turns in
    drawn_then who (t.who l.turns) old now (t.seen c.append_to.new.turns) i.who i.draws c.in_ok-position.ensures.draws

pub returns-in_err-version-clause-draws : goal.returns-in_err-version-clause-draws
returns-in_err-version-clause-draws g c =
    let t = g.T.Turns in
    let who = t.who c.args.turns.now in
    let old = t.seen c.args.turns.now in
    let l = c.segment in
    let i = l.invariant in
    let now = t.seen l.turns in
    let r = err_from_is_err_and c.from_residual-in_err-version.result c.from_residual-in_err-version.ensures.1 in
    rw (r.1, r.2) (draws_then _ who (t.who c.append_to.new.turns) old (t.seen c.append_to.new.turns) (t.seen c.chain_behind.new.turns) c.in_err-version.field-0.0 (c.in_ok-position.ensures.who ∙ i.who) (drawn_then who (t.who l.turns) old now (t.seen c.append_to.new.turns) i.who i.draws c.in_ok-position.ensures.draws) c.in_err-version.ensures.draws)
