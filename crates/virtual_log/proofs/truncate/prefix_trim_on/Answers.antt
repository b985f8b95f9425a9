use Rattle.std.proofs.Common.{◌≡◌, ◌∙◌, List, Some, subst, arith}
use Rattle.std.specs.Prelude.{slice_get}
use Rattle.std.proofs.lemmas.Result.{err_from_is_err_and}
use Rattle.delos_types.specs.declared.chain.Segment.{Segment}
use Rattle.legal_journal.specs.Journal.{state_of}
use Rattle.virtual_log.specs.Causes.{HasCause}
use Rattle.virtual_log.specs.Truncating.{IsTold, IsTruncated, AreTrimmed}
use Rattle.virtual_log.proofs.OneTurn.{later_trans, later_continues, cause_since, event_until}
use Rattle.virtual_log.proofs.Going.{there_later, goes_later, goes_now, trim_below}
use Rattle.virtual_log.proofs.Raising.{free_later, looked_told, looks_now, looks_later, truncated_in}
use Rattle.virtual_log.proofs.Trimming.{segments_started, trimmed_since}
use Rattle.virtual_log.proofs.Saying.{none_drawn, drawn_then, draws_any, draws_then}
use Rattle.virtual_log.proofs.Sealing.{seals_then}
use Rattle.virtual_log.proofs.Calming.{calm_then}
use Rattle.virtual_log.proofs.Operating.{operates_then, left_then, closes_none}
use Rattle.virtual_log.proofs.Rising.{rises_now}
use Rattle.virtual_log.proofs.truncate.prefix_trim_on.Goals as goal

pub returns-in_err-version-clause-goes_by : goal.returns-in_err-version-clause-goes_by
returns-in_err-version-clause-goes_by g c =
    let p = g.T.Law.Rules in
    let t = g.T.Turns in
    let who = t.who c.args.turns.now in
    let k = c.args.known.now in
    let old = t.seen c.args.turns.now in
    let a = t.seen c.look.new.turns in
    goes_later p.law old a k.version k.tail k.chain c.in_err-version.ensures.later c.requires.goes_by

pub returns-in_err-looked-clause-goes_by : goal.returns-in_err-looked-clause-goes_by
returns-in_err-looked-clause-goes_by g c =
    let p = g.T.Law.Rules in
    let t = g.T.Turns in
    let who = t.who c.args.turns.now in
    let k = c.args.known.now in
    let old = t.seen c.args.turns.now in
    let a = t.seen c.look.new.turns in
    let first = c.in_ok-version.ensures in
    let v = c.in_ok-version.version in
    let chain = c.in_ok-version.chain in
    let goes = goes_now p.law who k.version k.tail v k.chain chain old a c.requires.legal first.later c.requires.goes_by first.ok in
    goes

pub truncate_on-requires-clause-goes_by : goal.truncate_on-requires-clause-goes_by
truncate_on-requires-clause-goes_by g c =
    let p = g.T.Law.Rules in
    let t = g.T.Turns in
    let who = t.who c.args.turns.now in
    let k = c.args.known.now in
    let old = t.seen c.args.turns.now in
    let a = t.seen c.look.new.turns in
    let first = c.in_ok-version.ensures in
    let v = c.in_ok-version.version in
    let chain = c.in_ok-version.chain in
    let goes = goes_now p.law who k.version k.tail v k.chain chain old a c.requires.legal first.later c.requires.goes_by first.ok in
    goes

pub truncate_on-requires-clause-free : goal.truncate_on-requires-clause-free
truncate_on-requires-clause-free g c =
    let p = g.T.Law.Rules in
    let t = g.T.Turns in
    let who = t.who c.args.turns.now in
    let k = c.args.known.now in
    let old = t.seen c.args.turns.now in
    let a = t.seen c.look.new.turns in
    let first = c.in_ok-version.ensures in
    let v = c.in_ok-version.version in
    let chain = c.in_ok-version.chain in
    let goes = goes_now p.law who k.version k.tail v k.chain chain old a c.requires.legal first.later c.requires.goes_by first.ok in
    free_later (state_of old) (state_of a) p.law.floor c.args.n (later_continues p.law old a first.later) c.requires.free

pub returns-in_err-trim-clause-err : goal.returns-in_err-trim-clause-err
returns-in_err-trim-clause-err g c =
    let p = g.T.Law.Rules in
    let t = g.T.Turns in
    let who = t.who c.args.turns.now in
    let k = c.args.known.now in
    let old = t.seen c.args.turns.now in
    let a = t.seen c.look.new.turns in
    let first = c.in_ok-version.ensures in
    let v = c.in_ok-version.version in
    let chain = c.in_ok-version.chain in
    let goes = goes_now p.law who k.version k.tail v k.chain chain old a c.requires.legal first.later c.requires.goes_by first.ok in
    let b = t.seen c.truncate_on.new.turns in
    let r = err_from_is_err_and c.from_residual-in_err-trim.result c.from_residual-in_err-trim.ensures.1 in
    let f = c.in_err-trim.field-0.0 in
    rw (r.1, r.2) (cause_since who f old a b first.later.more first.later.seen (subst (λ w. HasCause w a f b) first.who c.in_err-trim.ensures.err))

pub trim_segments-requires-clause-started : goal.trim_segments-requires-clause-started
trim_segments-requires-clause-started g c =
    let p = g.T.Law.Rules in
    let t = g.T.Turns in
    let who = t.who c.args.turns.now in
    let k = c.args.known.now in
    let old = t.seen c.args.turns.now in
    let a = t.seen c.look.new.turns in
    let first = c.in_ok-version.ensures in
    let v = c.in_ok-version.version in
    let chain = c.in_ok-version.chain in
    let goes = goes_now p.law who k.version k.tail v k.chain chain old a c.requires.legal first.later c.requires.goes_by first.ok in
    let b = t.seen c.truncate_on.new.turns in
    let second = c.in_ok-trim.ensures in
    let z = c.truncate_on.new.known in
    let same : c.as_slice.result.now ≡ chain.segments = c.as_slice.ensures ∙ c.in_ok-looked.ensures.cases in
    λ i s at. there_later p.law a b s.id s.start second.later (segments_started p.law a v k.tail chain first.later.legal goes i s (subst (λ (l : List Segment). slice_get l i ≡ Some s) same at))

pub trim_segments-requires-clause-trim : goal.trim_segments-requires-clause-trim
trim_segments-requires-clause-trim g c =
    let p = g.T.Law.Rules in
    let t = g.T.Turns in
    let who = t.who c.args.turns.now in
    let k = c.args.known.now in
    let old = t.seen c.args.turns.now in
    let a = t.seen c.look.new.turns in
    let first = c.in_ok-version.ensures in
    let v = c.in_ok-version.version in
    let chain = c.in_ok-version.chain in
    let goes = goes_now p.law who k.version k.tail v k.chain chain old a c.requires.legal first.later c.requires.goes_by first.ok in
    let b = t.seen c.truncate_on.new.turns in
    let second = c.in_ok-trim.ensures in
    let z = c.truncate_on.new.known in
    omega (arith, second.truncated.reached, second.stands.1, (trim_below p.law b z.version z.tail z.chain second.later.legal second.goes_by).0)

pub returns-in_err-trim_segments-clause-goes_by : goal.returns-in_err-trim_segments-clause-goes_by
returns-in_err-trim_segments-clause-goes_by g c =
    let p = g.T.Law.Rules in
    let t = g.T.Turns in
    let who = t.who c.args.turns.now in
    let k = c.args.known.now in
    let old = t.seen c.args.turns.now in
    let a = t.seen c.look.new.turns in
    let first = c.in_ok-version.ensures in
    let v = c.in_ok-version.version in
    let chain = c.in_ok-version.chain in
    let goes = goes_now p.law who k.version k.tail v k.chain chain old a c.requires.legal first.later c.requires.goes_by first.ok in
    let b = t.seen c.truncate_on.new.turns in
    let second = c.in_ok-trim.ensures in
    let z = c.truncate_on.new.known in
    let e = t.seen c.trim_segments.new.turns in
    goes_later p.law b e z.version z.tail z.chain c.in_err-trim_segments.ensures.later second.goes_by

pub returns-in_err-trim_segments-clause-err : goal.returns-in_err-trim_segments-clause-err
returns-in_err-trim_segments-clause-err g c =
    let p = g.T.Law.Rules in
    let t = g.T.Turns in
    let who = t.who c.args.turns.now in
    let k = c.args.known.now in
    let old = t.seen c.args.turns.now in
    let a = t.seen c.look.new.turns in
    let first = c.in_ok-version.ensures in
    let v = c.in_ok-version.version in
    let chain = c.in_ok-version.chain in
    let goes = goes_now p.law who k.version k.tail v k.chain chain old a c.requires.legal first.later c.requires.goes_by first.ok in
    let b = t.seen c.truncate_on.new.turns in
    let second = c.in_ok-trim.ensures in
    let z = c.truncate_on.new.known in
    let e = t.seen c.trim_segments.new.turns in
    let r = err_from_is_err_and c.from_residual-in_err-trim_segments.result c.from_residual-in_err-trim_segments.ensures.1 in
    let f = c.in_err-trim_segments.field-0.0 in
    let before = later_trans p.law old a b first.later second.later in
    rw (r.1, r.2) (cause_since who f old b e before.more before.seen (subst (λ w. HasCause w b f e) (second.who ∙ first.who) c.in_err-trim_segments.ensures.err))

pub returns-clause-goes_by : goal.returns-clause-goes_by
returns-clause-goes_by g c =
    let p = g.T.Law.Rules in
    let t = g.T.Turns in
    let who = t.who c.args.turns.now in
    let k = c.args.known.now in
    let old = t.seen c.args.turns.now in
    let a = t.seen c.look.new.turns in
    let first = c.in_ok-version.ensures in
    let v = c.in_ok-version.version in
    let chain = c.in_ok-version.chain in
    let goes = goes_now p.law who k.version k.tail v k.chain chain old a c.requires.legal first.later c.requires.goes_by first.ok in
    let b = t.seen c.truncate_on.new.turns in
    let second = c.in_ok-trim.ensures in
    let z = c.truncate_on.new.known in
    let third = c.in_ok-trim_segments.ensures in
    let e = t.seen c.trim_segments.new.turns in
    goes_later p.law b e z.version z.tail z.chain third.later second.goes_by

pub returns-clause-trimmed : goal.returns-clause-trimmed
returns-clause-trimmed g c =
    let p = g.T.Law.Rules in
    let t = g.T.Turns in
    let who = t.who c.args.turns.now in
    let k = c.args.known.now in
    let old = t.seen c.args.turns.now in
    let a = t.seen c.look.new.turns in
    let first = c.in_ok-version.ensures in
    let v = c.in_ok-version.version in
    let chain = c.in_ok-version.chain in
    let goes = goes_now p.law who k.version k.tail v k.chain chain old a c.requires.legal first.later c.requires.goes_by first.ok in
    let b = t.seen c.truncate_on.new.turns in
    let second = c.in_ok-trim.ensures in
    let z = c.truncate_on.new.known in
    let third = c.in_ok-trim_segments.ensures in
    let e = t.seen c.trim_segments.new.turns in
    let same : c.as_slice.result.now ≡ chain.segments = c.as_slice.ensures ∙ c.in_ok-looked.ensures.cases in
    let to_b = later_trans p.law old a b first.later second.later in
    let to_e = later_trans p.law a b e second.later third.later in
    record {
      version = v;
      chain = chain;
      look = event_until (IsTold who v chain) old a e to_e.more to_e.seen (looked_told who v chain old a first.ok);
      written = z.version;
      truncated = truncated_in who old a b e c.args.n z.version c.in_ok-trim.trim first.later.more third.later.more first.later.seen third.later.seen (subst (λ w. IsTruncated w a c.args.n z.version c.in_ok-trim.trim b) first.who (subst (λ m. IsTruncated (t.who c.look.new.turns) a c.args.n m c.in_ok-trim.trim b) second.stands.0 second.truncated));
      trimmed = subst (λ (l : List Segment). AreTrimmed who old l c.args.n e) same (trimmed_since who old b e c.as_slice.result.now c.args.n to_b.more to_b.seen (subst (λ w. AreTrimmed w b c.as_slice.result.now c.args.n e) (second.who ∙ first.who) third.trimmed));
    }

pub returns-in_err-version-clause-unsealed : goal.returns-in_err-version-clause-unsealed
returns-in_err-version-clause-unsealed g c = c.in_err-version.ensures.unsealed

pub returns-in_err-version-clause-memory : goal.returns-in_err-version-clause-memory
returns-in_err-version-clause-memory g c =
    let r = err_from_is_err_and c.from_residual.result c.from_residual.ensures.1 in
    rw (r.1, r.2) (λ is. (c.in_err-version.ensures.memory is))

pub returns-in_err-looked-clause-unsealed : goal.returns-in_err-looked-clause-unsealed
returns-in_err-looked-clause-unsealed g c = c.in_ok-version.ensures.unsealed

pub returns-in_err-looked-clause-memory : goal.returns-in_err-looked-clause-memory
returns-in_err-looked-clause-memory g c =
    let r = err_from_is_err_and c.from_residual-in_err-looked.result c.from_residual-in_err-looked.ensures.1 in
    rw (r.1, r.2) (λ _. c.in_ok-version.ensures.calm)

pub returns-in_err-trim-clause-unsealed : goal.returns-in_err-trim-clause-unsealed
returns-in_err-trim-clause-unsealed g c =
    let t = g.T.Turns in
    let who = t.who c.args.turns.now in
    let old = t.seen c.args.turns.now in
    let a = t.seen c.look.new.turns in
    let first = c.in_ok-version.ensures in
    seals_then who (t.who c.look.new.turns) old a (t.seen c.truncate_on.new.turns) first.who first.unsealed c.in_err-trim.ensures.unsealed

pub returns-in_err-trim-clause-memory : goal.returns-in_err-trim-clause-memory
returns-in_err-trim-clause-memory g c =
    let t = g.T.Turns in
    let who = t.who c.args.turns.now in
    let old = t.seen c.args.turns.now in
    let a = t.seen c.look.new.turns in
    let first = c.in_ok-version.ensures in
    let r = err_from_is_err_and c.from_residual-in_err-trim.result c.from_residual-in_err-trim.ensures.1 in
    rw (r.1, r.2) (λ is. calm_then who (t.who c.look.new.turns) old a (t.seen c.truncate_on.new.turns) first.who first.calm (c.in_err-trim.ensures.memory is))

pub returns-in_err-trim_segments-clause-unsealed : goal.returns-in_err-trim_segments-clause-unsealed
returns-in_err-trim_segments-clause-unsealed g c =
    let t = g.T.Turns in
    let who = t.who c.args.turns.now in
    let old = t.seen c.args.turns.now in
    let a = t.seen c.look.new.turns in
    let first = c.in_ok-version.ensures in
    let b = t.seen c.truncate_on.new.turns in
    let second = c.in_ok-trim.ensures in
    let to_b = seals_then who (t.who c.look.new.turns) old a b first.who first.unsealed second.unsealed in
    seals_then who (t.who c.truncate_on.new.turns) old b (t.seen c.trim_segments.new.turns) (second.who ∙ first.who) to_b c.in_err-trim_segments.ensures.unsealed

pub returns-in_err-trim_segments-clause-memory : goal.returns-in_err-trim_segments-clause-memory
returns-in_err-trim_segments-clause-memory g c =
    let t = g.T.Turns in
    let who = t.who c.args.turns.now in
    let old = t.seen c.args.turns.now in
    let a = t.seen c.look.new.turns in
    let first = c.in_ok-version.ensures in
    let b = t.seen c.truncate_on.new.turns in
    let second = c.in_ok-trim.ensures in
    let to_b = calm_then who (t.who c.look.new.turns) old a b first.who first.calm second.calm in
    let r = err_from_is_err_and c.from_residual-in_err-trim_segments.result c.from_residual-in_err-trim_segments.ensures.1 in
    rw (r.1, r.2) (λ is. calm_then who (t.who c.truncate_on.new.turns) old b (t.seen c.trim_segments.new.turns) (second.who ∙ first.who) to_b (c.in_err-trim_segments.ensures.memory is))

pub returns-clause-unsealed : goal.returns-clause-unsealed
returns-clause-unsealed g c =
    let t = g.T.Turns in
    let who = t.who c.args.turns.now in
    let old = t.seen c.args.turns.now in
    let a = t.seen c.look.new.turns in
    let first = c.in_ok-version.ensures in
    let b = t.seen c.truncate_on.new.turns in
    let second = c.in_ok-trim.ensures in
    let to_b = seals_then who (t.who c.look.new.turns) old a b first.who first.unsealed second.unsealed in
    seals_then who (t.who c.truncate_on.new.turns) old b (t.seen c.trim_segments.new.turns) (second.who ∙ first.who) to_b c.in_ok-trim_segments.ensures.unsealed

pub returns-clause-calm : goal.returns-clause-calm
returns-clause-calm g c =
    let t = g.T.Turns in
    let who = t.who c.args.turns.now in
    let old = t.seen c.args.turns.now in
    let a = t.seen c.look.new.turns in
    let first = c.in_ok-version.ensures in
    let b = t.seen c.truncate_on.new.turns in
    let second = c.in_ok-trim.ensures in
    let to_b = calm_then who (t.who c.look.new.turns) old a b first.who first.calm second.calm in
    calm_then who (t.who c.truncate_on.new.turns) old b (t.seen c.trim_segments.new.turns) (second.who ∙ first.who) to_b c.in_ok-trim_segments.ensures.calm

pub returns-clause-looked : goal.returns-clause-looked
returns-clause-looked g c =
    let p = g.T.Law.Rules in
    let t = g.T.Turns in
    let who = t.who c.args.turns.now in
    let old = t.seen c.args.turns.now in
    let a = t.seen c.look.new.turns in
    let first = c.in_ok-version.ensures in
    let v = c.in_ok-version.version in
    let chain = c.in_ok-version.chain in
    let b = t.seen c.truncate_on.new.turns in
    let second = c.in_ok-trim.ensures in
    let third = c.in_ok-trim_segments.ensures in
    let e = t.seen c.trim_segments.new.turns in
    let same : c.as_slice.result.now ≡ chain.segments = c.as_slice.ensures ∙ c.in_ok-looked.ensures.cases in
    let to_e = later_trans p.law a b e second.later third.later in
    record {
      chain = chain;
      looks = looks_later who chain old a e to_e.more to_e.seen (looks_now who v chain old a first.ok);
      trimmed = subst (λ (l : List Segment). AreTrimmed who a l c.args.n e) same (trimmed_since who a b e c.as_slice.result.now c.args.n second.later.more second.later.seen (subst (λ w. AreTrimmed w b c.as_slice.result.now c.args.n e) (second.who ∙ first.who) third.trimmed));
    }

pub returns-in_err-version-clause-closes : goal.returns-in_err-version-clause-closes
returns-in_err-version-clause-closes g c = closes_none _ _ _ c.from_residual.result c.in_err-version.ensures.closes

pub returns-in_err-looked-clause-closes : goal.returns-in_err-looked-clause-closes
returns-in_err-looked-clause-closes g c = closes_none _ _ _ c.from_residual-in_err-looked.result c.in_ok-version.ensures.closes

pub returns-in_err-trim-clause-closes : goal.returns-in_err-trim-clause-closes
returns-in_err-trim-clause-closes g c =
    let t = g.T.Turns in
    let who = t.who c.args.turns.now in
    let old = t.seen c.args.turns.now in
    let a = t.seen c.look.new.turns in
    let first = c.in_ok-version.ensures in
    closes_none _ _ _ c.from_residual-in_err-trim.result (operates_then who (t.who c.look.new.turns) old a (t.seen c.truncate_on.new.turns) first.who first.closes c.in_err-trim.ensures.closes)

pub returns-in_err-trim_segments-clause-closes : goal.returns-in_err-trim_segments-clause-closes
returns-in_err-trim_segments-clause-closes g c =
    let t = g.T.Turns in
    let who = t.who c.args.turns.now in
    let old = t.seen c.args.turns.now in
    let a = t.seen c.look.new.turns in
    let first = c.in_ok-version.ensures in
    let b = t.seen c.truncate_on.new.turns in
    let second = c.in_ok-trim.ensures in
    let to_b = operates_then who (t.who c.look.new.turns) old a b first.who first.closes second.closes in
    let r = err_from_is_err_and c.from_residual-in_err-trim_segments.result c.from_residual-in_err-trim_segments.ensures.1 in
    rw (r.1, r.2) (left_then who (t.who c.truncate_on.new.turns) old b (t.seen c.trim_segments.new.turns) c.in_err-trim_segments.field-0.0 (second.who ∙ first.who) to_b c.in_err-trim_segments.ensures.closes)

pub returns-clause-closes : goal.returns-clause-closes
returns-clause-closes g c =
    let t = g.T.Turns in
    let who = t.who c.args.turns.now in
    let old = t.seen c.args.turns.now in
    let a = t.seen c.look.new.turns in
    let first = c.in_ok-version.ensures in
    let b = t.seen c.truncate_on.new.turns in
    let second = c.in_ok-trim.ensures in
    let to_b = operates_then who (t.who c.look.new.turns) old a b first.who first.closes second.closes in
    operates_then who (t.who c.truncate_on.new.turns) old b (t.seen c.trim_segments.new.turns) (second.who ∙ first.who) to_b c.in_ok-trim_segments.ensures.closes

pub returns-in_err-looked-clause-rises : goal.returns-in_err-looked-clause-rises
returns-in_err-looked-clause-rises g c =
    let p = g.T.Law.Rules in
    let t = g.T.Turns in
    let k = c.args.known.now in
    let first = c.in_ok-version.ensures in
    let up = rises_now p.law (t.who c.args.turns.now) k.version k.tail c.in_ok-version.version k.chain c.in_ok-version.chain (t.seen c.args.turns.now) (t.seen c.look.new.turns) first.later c.requires.goes_by first.ok in
    up

pub returns-in_err-trim-clause-rises : goal.returns-in_err-trim-clause-rises
returns-in_err-trim-clause-rises g c =
    let p = g.T.Law.Rules in
    let t = g.T.Turns in
    let k = c.args.known.now in
    let first = c.in_ok-version.ensures in
    let up = rises_now p.law (t.who c.args.turns.now) k.version k.tail c.in_ok-version.version k.chain c.in_ok-version.chain (t.seen c.args.turns.now) (t.seen c.look.new.turns) first.later c.requires.goes_by first.ok in
    omega (arith, up, c.in_err-trim.ensures.rises)

pub returns-in_err-trim_segments-clause-rises : goal.returns-in_err-trim_segments-clause-rises
returns-in_err-trim_segments-clause-rises g c =
    let p = g.T.Law.Rules in
    let t = g.T.Turns in
    let k = c.args.known.now in
    let first = c.in_ok-version.ensures in
    let up = rises_now p.law (t.who c.args.turns.now) k.version k.tail c.in_ok-version.version k.chain c.in_ok-version.chain (t.seen c.args.turns.now) (t.seen c.look.new.turns) first.later c.requires.goes_by first.ok in
    omega (arith, up, c.in_ok-trim.ensures.rises)

pub returns-clause-rises : goal.returns-clause-rises
returns-clause-rises g c =
    let p = g.T.Law.Rules in
    let t = g.T.Turns in
    let k = c.args.known.now in
    let first = c.in_ok-version.ensures in
    let up = rises_now p.law (t.who c.args.turns.now) k.version k.tail c.in_ok-version.version k.chain c.in_ok-version.chain (t.seen c.args.turns.now) (t.seen c.look.new.turns) first.later c.requires.goes_by first.ok in
    omega (arith, up, c.in_ok-trim.ensures.rises)

pub returns-in_err-version-clause-draws : goal.returns-in_err-version-clause-draws
returns-in_err-version-clause-draws g c = draws_any _ _ _ c.from_residual.result (none_drawn c.in_err-version.ensures.silent)

pub returns-in_err-looked-clause-draws : goal.returns-in_err-looked-clause-draws
returns-in_err-looked-clause-draws g c = draws_any _ _ _ c.from_residual-in_err-looked.result (none_drawn c.in_ok-version.ensures.silent)

pub returns-in_err-trim-clause-draws : goal.returns-in_err-trim-clause-draws
returns-in_err-trim-clause-draws g c =
    let t = g.T.Turns in
    let who = t.who c.args.turns.now in
    let old = t.seen c.args.turns.now in
    let a = t.seen c.look.new.turns in
    let first = c.in_ok-version.ensures in
    draws_any _ _ _ c.from_residual-in_err-trim.result (drawn_then who (t.who c.look.new.turns) old a (t.seen c.truncate_on.new.turns) first.who (none_drawn first.silent) (none_drawn c.in_err-trim.ensures.silent))

pub returns-in_err-trim_segments-clause-draws : goal.returns-in_err-trim_segments-clause-draws
returns-in_err-trim_segments-clause-draws g c =
    let t = g.T.Turns in
    let who = t.who c.args.turns.now in
    let old = t.seen c.args.turns.now in
    let a = t.seen c.look.new.turns in
    let first = c.in_ok-version.ensures in
    let b = t.seen c.truncate_on.new.turns in
    let second = c.in_ok-trim.ensures in
    let to_b = drawn_then who (t.who c.look.new.turns) old a b first.who (none_drawn first.silent) (none_drawn second.silent) in
    let r = err_from_is_err_and c.from_residual-in_err-trim_segments.result c.from_residual-in_err-trim_segments.ensures.1 in
    rw (r.1, r.2) (draws_then _ who (t.who c.truncate_on.new.turns) old b (t.seen c.trim_segments.new.turns) c.in_err-trim_segments.field-0.0 (second.who ∙ first.who) to_b c.in_err-trim_segments.ensures.draws)

pub returns-clause-draws : goal.returns-clause-draws
returns-clause-draws g c =
    let t = g.T.Turns in
    let who = t.who c.args.turns.now in
    let old = t.seen c.args.turns.now in
    let a = t.seen c.look.new.turns in
    let first = c.in_ok-version.ensures in
    let b = t.seen c.truncate_on.new.turns in
    let second = c.in_ok-trim.ensures in
    let to_b = drawn_then who (t.who c.look.new.turns) old a b first.who (none_drawn first.silent) (none_drawn second.silent) in
    drawn_then who (t.who c.truncate_on.new.turns) old b (t.seen c.trim_segments.new.turns) (second.who ∙ first.who) to_b c.in_ok-trim_segments.ensures.draws
