use Rattle.std.proofs.Common.{◌≡◌, ◌≢◌, ℕ, ◌+◌, ◌<◌, Bool, true, false, None, Some, refl, sym, ap, ◌∙◌, subst, arith}
use Rattle.std.specs.Prelude.{slice_get, slice_index_or, ◌==◌}
use Rattle.std.proofs.lemmas.Bool.Decides.{nat_tests}
use Rattle.std.proofs.lemmas.Option.{slice_get_within}
use Rattle.delos_types.specs.declared.chain.Segment.{Segment}
use Rattle.virtual_log.specs.Truncating.{LetsGo}
use Rattle.virtual_log.specs.Causes.{HasCause}
use Rattle.virtual_log.proofs.OneTurn.{later_trans, later_continues, later_refl, cause_since}
use Rattle.virtual_log.proofs.Trimming.{at_index, lets_go_since, lets_go_until}
use Rattle.virtual_log.proofs.Saying.{drawn_refl, drawn_then, draws_then}
use Rattle.virtual_log.proofs.Sealing.{seals_refl, seals_then}
use Rattle.virtual_log.proofs.Calming.{calm_refl, calm_then}
use Rattle.std.proofs.lemmas.Result.{err_from_is_err_and}
use Rattle.virtual_log.proofs.Operating.{operates_refl, operates_then, left_then}
use Rattle.virtual_log.proofs.truncate.trim_segments.Goals as goal

pub trim_segment-requires-clause-started : goal.trim_segment-requires-clause-started
trim_segment-requires-clause-started g c =
    let p = g.T.Law.Rules in
    let t = g.T.Turns in
    let l = c.segment in
    (later_continues p.law (t.seen c.args.turns.now) (t.seen l.turns) l.invariant.later).starts _ _
    (c.requires.started l.segment-index _ (at_index c.args.segments.now l.segment-index _ (omega arith)))

pub trim_segment-requires-clause-trim : goal.trim_segment-requires-clause-trim
trim_segment-requires-clause-trim g c =
    let p = g.T.Law.Rules in
    let t = g.T.Turns in
    let l = c.segment in
    omega (arith, c.requires.trim, (later_continues p.law (t.seen c.args.turns.now) (t.seen l.turns) l.invariant.later).trim)

pub segment-preserved : goal.segment-preserved
segment-preserved g c =
    let p = g.T.Law.Rules in
    let t = g.T.Turns in
    let who = t.who c.args.turns.now in
    let old = t.seen c.args.turns.now in
    let n = c.args.n in
    let ss = c.args.segments.now in
    let l = c.segment in
    let i = l.invariant in
    let now = t.seen l.turns in
    let new = t.seen c.trim_segment.new.turns in
    let step = c.in_ok-trim_segment.ensures in
    let by_test : (k : ℕ) (s : Segment) → k < l.segment-index + 1 → slice_get ss k ≡ Some s → s.start < n → (b : Bool) → (k == l.segment-index) ≡ b → LetsGo who old s n new = λ k s h at below b.
    elim b as (λ b. (k == l.segment-index) ≡ b → LetsGo who old s n new) [
      | true ↦ λ e.
          let same : k ≡ l.segment-index = grind (arith, nat_tests) in
          let none : Segment = record { id = 0; start = 0; end = None } in
          let both : Some s ≡ Some (slice_index_or ss l.segment-index none) = sym at ∙ (ap (slice_get ss) same ∙ at_index ss l.segment-index none (omega arith)) in
          let is : slice_index_or ss l.segment-index none ≡ s = cc in
          lets_go_since who old now new s n i.later.more i.later.seen
          (subst (λ w. LetsGo w now s n new) i.who (subst (λ (x : Segment). x.start < n → LetsGo (t.who l.turns) now x n new) is step.trimmed below))
      | false ↦ λ e.
          let apart : k ≢ l.segment-index = grind (arith, nat_tests) in
          lets_go_until who old now new s n step.later.more step.later.seen (i.trimmed k s (omega arith) at below)
    ] in
    record {
      later = later_trans p.law old now new i.later step.later;
      who = step.who ∙ i.who;
      trimmed = λ k s h at below. by_test k s h at below (k == l.segment-index) refl;
      unsealed = seals_then who (t.who l.turns) old now new i.who i.unsealed step.unsealed;
      calm = calm_then who (t.who l.turns) old now new i.who i.calm step.calm;
      closes = operates_then who (t.who l.turns) old now new i.who i.closes step.closes;
      draws = drawn_then who (t.who l.turns) old now new i.who i.draws step.draws;
    }

pub returns-clause-trimmed : goal.returns-clause-trimmed
returns-clause-trimmed g c = λ k s at below. c.segment.invariant.trimmed k s (omega (arith, slice_get_within c.args.segments.now k s at)) at below

pub segment-init : goal.segment-init
segment-init g c =
    let p = g.T.Law.Rules in
    let t = g.T.Turns in
    let old = t.seen c.args.turns.now in
    record {
      later = later_refl p.law old c.requires.legal;
      who = refl;
      trimmed = λ k s h at below. absurd (omega (arith, h));
      unsealed = seals_refl (t.who c.args.turns.now) old;
      calm = calm_refl (t.who c.args.turns.now) old;
      closes = operates_refl (t.who c.args.turns.now) None old;
      draws = drawn_refl (t.who c.args.turns.now) old;
    }

pub returns-in_err-trim_segment-clause-unsealed : goal.returns-in_err-trim_segment-clause-unsealed
returns-in_err-trim_segment-clause-unsealed g c =
    let t = g.T.Turns in
    let who = t.who c.args.turns.now in
    let old = t.seen c.args.turns.now in
    let l = c.segment in
    let i = l.invariant in
    let now = t.seen l.turns in
    seals_then who (t.who l.turns) old now (t.seen c.trim_segment.new.turns) i.who i.unsealed c.in_err-trim_segment.ensures.unsealed

pub returns-in_err-trim_segment-clause-memory : goal.returns-in_err-trim_segment-clause-memory
returns-in_err-trim_segment-clause-memory g c =
    let t = g.T.Turns in
    let who = t.who c.args.turns.now in
    let old = t.seen c.args.turns.now in
    let l = c.segment in
    let i = l.invariant in
    let now = t.seen l.turns in
    let r = err_from_is_err_and c.from_residual.result c.from_residual.ensures.1 in
    rw (r.1, r.2) (λ is. calm_then who (t.who l.turns) old now (t.seen c.trim_segment.new.turns) i.who i.calm (c.in_err-trim_segment.ensures.memory is))

pub returns-in_err-trim_segment-clause-closes : goal.returns-in_err-trim_segment-clause-closes
returns-in_err-trim_segment-clause-closes g c =
    let t = g.T.Turns in
    let who = t.who c.args.turns.now in
    let old = t.seen c.args.turns.now in
    let l = c.segment in
    let i = l.invariant in
    let now = t.seen l.turns in
    let r = err_from_is_err_and c.from_residual.result c.from_residual.ensures.1 in
    rw (r.1, r.2) (left_then who (t.who l.turns) old now (t.seen c.trim_segment.new.turns) c.in_err-trim_segment.field-0.0 i.who i.closes c.in_err-trim_segment.ensures.closes)

pub returns-in_err-trim_segment-clause-err : goal.returns-in_err-trim_segment-clause-err
returns-in_err-trim_segment-clause-err g c =
    let t = g.T.Turns in
    let who = t.who c.args.turns.now in
    let old = t.seen c.args.turns.now in
    let l = c.segment in
    let i = l.invariant in
    let now = t.seen l.turns in
    let new = t.seen c.trim_segment.new.turns in
    let f = c.in_err-trim_segment.field-0.0 in
    let r = err_from_is_err_and c.from_residual.result c.from_residual.ensures.1 in
    rw (r.1, r.2) (cause_since who f old now new i.later.more i.later.seen (subst (λ w. HasCause w now f new) i.who c.in_err-trim_segment.ensures.err))

pub returns-in_err-trim_segment-clause-draws : goal.returns-in_err-trim_segment-clause-draws
returns-in_err-trim_segment-clause-draws g c =
    let t = g.T.Turns in
    let who = t.who c.args.turns.now in
    let old = t.seen c.args.turns.now in
    let l = c.segment in
    let i = l.invariant in
    let now = t.seen l.turns in
    let r = err_from_is_err_and c.from_residual.result c.from_residual.ensures.1 in
    rw (r.1, r.2) (draws_then _ who (t.who l.turns) old now (t.seen c.trim_segment.new.turns) c.in_err-trim_segment.field-0.0 i.who i.draws c.in_err-trim_segment.ensures.draws)
