use Rattle.std.proofs.Common.{◌≡◌, ◌∙◌, true, ap, subst, arith}
use Rattle.std.proofs.lemmas.Result.{err_from_is_err_and}
use Rattle.delos_types.specs.declared.chain.Segment.{Segment}
use Rattle.delos_types.specs.declared.chain.Chain.{Chain}
use Rattle.chain_map.specs.Chain.{last_of_segments}
use Rattle.legal_journal.specs.Journal.{state_of}
use Rattle.virtual_log.specs.Causes.{HasCause}
use Rattle.virtual_log.proofs.OneTurn.{later_continues, later_trans, cause_since}
use Rattle.virtual_log.proofs.Replacing.{given_now, later_last}
use Rattle.virtual_log.proofs.Saying.{none_drawn, drawn_then, draws_any, draws_then}
use Rattle.virtual_log.proofs.Sealing.{seals_then}
use Rattle.virtual_log.proofs.Calming.{calm_then}
use Rattle.virtual_log.proofs.Operating.{operates_then, left_then, closes_none}
use Rattle.virtual_log.proofs.Attempts.{idle_then}
use Rattle.virtual_log.proofs.replace.chain_behind.Goals as goal

pub returns-then-last_of-segment-clause-given : goal.returns-then-last_of-segment-clause-given
returns-then-last_of-segment-clause-given g c =
    let p = g.T.Law.Rules in
    given_now p.law (g.T.Turns.who c.args.turns.now) _ _ (g.T.Turns.seen c.args.turns.now) (g.T.Turns.seen c.look.new.turns) c.in_ok-version.ensures.later.legal c.in_ok-version.ensures.ok

pub finish-requires-clause-goes_by : goal.finish-requires-clause-goes_by
finish-requires-clause-goes_by g c =
    let p = g.T.Law.Rules in
    record {
      given = given_now p.law (g.T.Turns.who c.args.turns.now) _ _ (g.T.Turns.seen c.args.turns.now) (g.T.Turns.seen c.look.new.turns) c.in_ok-version.ensures.later.legal c.in_ok-version.ensures.ok;
      reached = omega arith;
    }

pub finish-requires-clause-sealed : goal.finish-requires-clause-sealed
finish-requires-clause-sealed g c =
    let p = g.T.Law.Rules in
    let t = g.T.Turns in
    let goes = later_continues p.law (t.seen c.args.turns.now) (t.seen c.look.new.turns) c.in_ok-version.ensures.later in
    let at = goes.starts c.args.segment.id c.args.segment.start c.requires.started in
    let up = later_last p.law (t.who c.args.turns.now) _ c.args.segment.id c.args.segment.start c.in_ok-version.chain (t.seen c.args.turns.now) (t.seen c.look.new.turns) c.in_ok-version.ensures.later.legal c.in_ok-version.ensures.ok at in
    let same : c.args.segment.id ≡ (last_of_segments c.in_ok-version.chain.segments).id = omega (arith, up, c.if-last_of-segment.false, ap (λ (s : Segment). s.id) c.last_of.ensures) in
    subst (λ i. ((state_of (t.seen c.look.new.turns)).cells i).told.sealed ≡ true) same ((goes.cell c.args.segment.id).sealed c.requires.sealed)

pub returns-in_err-finish-clause-err : goal.returns-in_err-finish-clause-err
returns-in_err-finish-clause-err g c =
    let t = g.T.Turns in
    let p = err_from_is_err_and c.from_residual-in_err-finish.result c.from_residual-in_err-finish.ensures.1 in
    let mid = t.seen c.look.new.turns in
    let new = t.seen c.finish.new.turns in
    let f = c.in_err-finish.field-0.0 in
    rw (p.1, p.2) (cause_since (t.who c.args.turns.now) f (t.seen c.args.turns.now) mid new c.in_ok-version.ensures.later.more c.in_ok-version.ensures.later.seen
    (subst (λ k. HasCause k mid f new) c.in_ok-version.ensures.who c.in_err-finish.ensures.err))

pub returns-clause-given : goal.returns-clause-given
returns-clause-given g c =
    let p = g.T.Law.Rules in
    given_now p.law (g.T.Turns.who c.finish.new.turns) _ _ (g.T.Turns.seen c.finish.new.turns) (g.T.Turns.seen c.look-2.new.turns) c.in_ok-newer.ensures.later.legal c.in_ok-newer.ensures.ok

pub returns-clause-behind : goal.returns-clause-behind
returns-clause-behind g c =
    let p = g.T.Law.Rules in
    let t = g.T.Turns in
    let goes = later_continues p.law (t.seen c.args.turns.now) (t.seen c.look.new.turns) c.in_ok-version.ensures.later in
    let at = goes.starts c.args.segment.id c.args.segment.start c.requires.started in
    let up = later_last p.law (t.who c.args.turns.now) _ c.args.segment.id c.args.segment.start c.in_ok-version.chain (t.seen c.args.turns.now) (t.seen c.look.new.turns) c.in_ok-version.ensures.later.legal c.in_ok-version.ensures.ok at in
    let on = later_continues p.law (t.seen c.finish.new.turns) (t.seen c.look-2.new.turns) c.in_ok-newer.ensures.later in
    omega (arith, up, c.in_ok-finish.ensures.ok, on.last, ap (λ (x : Chain). (last_of_segments x.segments).id) c.in_ok-newer.ensures.ok.chain_is)

pub returns-in_err-newer-clause-err : goal.returns-in_err-newer-clause-err
returns-in_err-newer-clause-err g c =
    let t = g.T.Turns in
    let p = g.T.Law.Rules in
    let r = err_from_is_err_and c.from_residual-in_err-newer.result c.from_residual-in_err-newer.ensures.1 in
    let old = t.seen c.args.turns.now in
    let mid = t.seen c.finish.new.turns in
    let new = t.seen c.look-2.new.turns in
    let f = c.in_err-newer.field-0.0 in
    let before = later_trans p.law old (t.seen c.look.new.turns) mid c.in_ok-version.ensures.later c.in_ok-finish.ensures.later in
    rw (r.1, r.2) (cause_since (t.who c.args.turns.now) f old mid new before.more before.seen
    (subst (λ k. HasCause k mid f new) (c.in_ok-finish.ensures.who ∙ c.in_ok-version.ensures.who) c.in_err-newer.ensures.err))

pub returns-in_err-version-clause-unsealed : goal.returns-in_err-version-clause-unsealed
returns-in_err-version-clause-unsealed g c = c.in_err-version.ensures.unsealed

pub returns-in_err-version-clause-memory : goal.returns-in_err-version-clause-memory
returns-in_err-version-clause-memory g c =
    let r = err_from_is_err_and c.from_residual.result c.from_residual.ensures.1 in
    rw (r.1, r.2) (λ is. (c.in_err-version.ensures.memory is))

pub returns-then-last_of-segment-clause-unsealed : goal.returns-then-last_of-segment-clause-unsealed
returns-then-last_of-segment-clause-unsealed g c = c.in_ok-version.ensures.unsealed

pub returns-then-last_of-segment-clause-calm : goal.returns-then-last_of-segment-clause-calm
returns-then-last_of-segment-clause-calm g c = c.in_ok-version.ensures.calm

pub returns-in_err-finish-clause-unsealed : goal.returns-in_err-finish-clause-unsealed
returns-in_err-finish-clause-unsealed g c =
    let t = g.T.Turns in
    let who = t.who c.args.turns.now in
    let old = t.seen c.args.turns.now in
    let a = t.seen c.look.new.turns in
    let first = c.in_ok-version.ensures in
    seals_then who (t.who c.look.new.turns) old a (t.seen c.finish.new.turns) first.who first.unsealed c.in_err-finish.ensures.unsealed

pub returns-in_err-finish-clause-memory : goal.returns-in_err-finish-clause-memory
returns-in_err-finish-clause-memory g c =
    let t = g.T.Turns in
    let who = t.who c.args.turns.now in
    let old = t.seen c.args.turns.now in
    let a = t.seen c.look.new.turns in
    let first = c.in_ok-version.ensures in
    let r = err_from_is_err_and c.from_residual-in_err-finish.result c.from_residual-in_err-finish.ensures.1 in
    rw (r.1, r.2) (λ is. calm_then who (t.who c.look.new.turns) old a (t.seen c.finish.new.turns) first.who first.calm (c.in_err-finish.ensures.memory is))

pub returns-in_err-newer-clause-unsealed : goal.returns-in_err-newer-clause-unsealed
returns-in_err-newer-clause-unsealed g c =
    let t = g.T.Turns in
    let who = t.who c.args.turns.now in
    let old = t.seen c.args.turns.now in
    let a = t.seen c.look.new.turns in
    let first = c.in_ok-version.ensures in
    let b = t.seen c.finish.new.turns in
    let second = c.in_ok-finish.ensures in
    let to_b = seals_then who (t.who c.look.new.turns) old a b first.who first.unsealed second.unsealed in
    seals_then who (t.who c.finish.new.turns) old b (t.seen c.look-2.new.turns) (second.who ∙ first.who) to_b c.in_err-newer.ensures.unsealed

pub returns-in_err-newer-clause-memory : goal.returns-in_err-newer-clause-memory
returns-in_err-newer-clause-memory g c =
    let t = g.T.Turns in
    let who = t.who c.args.turns.now in
    let old = t.seen c.args.turns.now in
    let a = t.seen c.look.new.turns in
    let first = c.in_ok-version.ensures in
    let b = t.seen c.finish.new.turns in
    let second = c.in_ok-finish.ensures in
    let to_b = calm_then who (t.who c.look.new.turns) old a b first.who first.calm second.calm in
    let r = err_from_is_err_and c.from_residual-in_err-newer.result c.from_residual-in_err-newer.ensures.1 in
    rw (r.1, r.2) (λ is. calm_then who (t.who c.finish.new.turns) old b (t.seen c.look-2.new.turns) (second.who ∙ first.who) to_b (c.in_err-newer.ensures.memory is))

pub returns-clause-unsealed : goal.returns-clause-unsealed
returns-clause-unsealed g c =
    let t = g.T.Turns in
    let who = t.who c.args.turns.now in
    let old = t.seen c.args.turns.now in
    let a = t.seen c.look.new.turns in
    let first = c.in_ok-version.ensures in
    let b = t.seen c.finish.new.turns in
    let second = c.in_ok-finish.ensures in
    let to_b = seals_then who (t.who c.look.new.turns) old a b first.who first.unsealed second.unsealed in
    seals_then who (t.who c.finish.new.turns) old b (t.seen c.look-2.new.turns) (second.who ∙ first.who) to_b c.in_ok-newer.ensures.unsealed

pub returns-clause-calm : goal.returns-clause-calm
returns-clause-calm g c =
    let t = g.T.Turns in
    let who = t.who c.args.turns.now in
    let old = t.seen c.args.turns.now in
    let a = t.seen c.look.new.turns in
    let first = c.in_ok-version.ensures in
    let b = t.seen c.finish.new.turns in
    let second = c.in_ok-finish.ensures in
    let to_b = calm_then who (t.who c.look.new.turns) old a b first.who first.calm second.calm in
    calm_then who (t.who c.finish.new.turns) old b (t.seen c.look-2.new.turns) (second.who ∙ first.who) to_b c.in_ok-newer.ensures.calm

pub returns-in_err-version-clause-closes : goal.returns-in_err-version-clause-closes
returns-in_err-version-clause-closes g c = closes_none _ _ _ c.from_residual.result c.in_err-version.ensures.closes

pub returns-then-last_of-segment-clause-closes : goal.returns-then-last_of-segment-clause-closes
returns-then-last_of-segment-clause-closes g c = c.in_ok-version.ensures.closes

pub returns-in_err-finish-clause-closes : goal.returns-in_err-finish-clause-closes
returns-in_err-finish-clause-closes g c =
    let t = g.T.Turns in
    let who = t.who c.args.turns.now in
    let old = t.seen c.args.turns.now in
    let a = t.seen c.look.new.turns in
    let first = c.in_ok-version.ensures in
    let r = err_from_is_err_and c.from_residual-in_err-finish.result c.from_residual-in_err-finish.ensures.1 in
    rw (r.1, r.2) (left_then who (t.who c.look.new.turns) old a (t.seen c.finish.new.turns) c.in_err-finish.field-0.0 first.who first.closes c.in_err-finish.ensures.closes)

pub returns-in_err-newer-clause-closes : goal.returns-in_err-newer-clause-closes
returns-in_err-newer-clause-closes g c =
    let t = g.T.Turns in
    let who = t.who c.args.turns.now in
    let old = t.seen c.args.turns.now in
    let a = t.seen c.look.new.turns in
    let first = c.in_ok-version.ensures in
    let b = t.seen c.finish.new.turns in
    let second = c.in_ok-finish.ensures in
    let to_b = operates_then who (t.who c.look.new.turns) old a b first.who first.closes second.closes in
    closes_none _ _ _ c.from_residual-in_err-newer.result (operates_then who (t.who c.finish.new.turns) old b (t.seen c.look-2.new.turns) (second.who ∙ first.who) to_b c.in_err-newer.ensures.closes)

pub returns-clause-closes : goal.returns-clause-closes
returns-clause-closes g c =
    let t = g.T.Turns in
    let who = t.who c.args.turns.now in
    let old = t.seen c.args.turns.now in
    let a = t.seen c.look.new.turns in
    let first = c.in_ok-version.ensures in
    let b = t.seen c.finish.new.turns in
    let second = c.in_ok-finish.ensures in
    let to_b = operates_then who (t.who c.look.new.turns) old a b first.who first.closes second.closes in
    operates_then who (t.who c.finish.new.turns) old b (t.seen c.look-2.new.turns) (second.who ∙ first.who) to_b c.in_ok-newer.ensures.closes

pub returns-in_err-version-clause-idle : goal.returns-in_err-version-clause-idle
returns-in_err-version-clause-idle g c = c.in_err-version.ensures.idle

pub returns-then-last_of-segment-clause-idle : goal.returns-then-last_of-segment-clause-idle
returns-then-last_of-segment-clause-idle g c = c.in_ok-version.ensures.idle

pub returns-in_err-finish-clause-idle : goal.returns-in_err-finish-clause-idle
returns-in_err-finish-clause-idle g c =
    let t = g.T.Turns in
    let who = t.who c.args.turns.now in
    let old = t.seen c.args.turns.now in
    let a = t.seen c.look.new.turns in
    let first = c.in_ok-version.ensures in
    idle_then who (t.who c.look.new.turns) old a (t.seen c.finish.new.turns) first.who first.idle c.in_err-finish.ensures.idle

pub returns-in_err-newer-clause-idle : goal.returns-in_err-newer-clause-idle
returns-in_err-newer-clause-idle g c =
    let t = g.T.Turns in
    let who = t.who c.args.turns.now in
    let old = t.seen c.args.turns.now in
    let a = t.seen c.look.new.turns in
    let first = c.in_ok-version.ensures in
    let b = t.seen c.finish.new.turns in
    let second = c.in_ok-finish.ensures in
    let to_b = idle_then who (t.who c.look.new.turns) old a b first.who first.idle second.idle in
    idle_then who (t.who c.finish.new.turns) old b (t.seen c.look-2.new.turns) (second.who ∙ first.who) to_b c.in_err-newer.ensures.idle

pub returns-clause-idle : goal.returns-clause-idle
returns-clause-idle g c =
    let t = g.T.Turns in
    let who = t.who c.args.turns.now in
    let old = t.seen c.args.turns.now in
    let a = t.seen c.look.new.turns in
    let first = c.in_ok-version.ensures in
    let b = t.seen c.finish.new.turns in
    let second = c.in_ok-finish.ensures in
    let to_b = idle_then who (t.who c.look.new.turns) old a b first.who first.idle second.idle in
    idle_then who (t.who c.finish.new.turns) old b (t.seen c.look-2.new.turns) (second.who ∙ first.who) to_b c.in_ok-newer.ensures.idle

pub returns-in_err-version-clause-draws : goal.returns-in_err-version-clause-draws
returns-in_err-version-clause-draws g c = draws_any _ _ _ c.from_residual.result (none_drawn c.in_err-version.ensures.silent)

pub returns-then-last_of-segment-clause-draws : goal.returns-then-last_of-segment-clause-draws
returns-then-last_of-segment-clause-draws g c = (none_drawn c.in_ok-version.ensures.silent)

pub returns-in_err-finish-clause-draws : goal.returns-in_err-finish-clause-draws
returns-in_err-finish-clause-draws g c =
    let t = g.T.Turns in
    let who = t.who c.args.turns.now in
    let old = t.seen c.args.turns.now in
    let a = t.seen c.look.new.turns in
    let first = c.in_ok-version.ensures in
    let r = err_from_is_err_and c.from_residual-in_err-finish.result c.from_residual-in_err-finish.ensures.1 in
    rw (r.1, r.2) (draws_then _ who (t.who c.look.new.turns) old a (t.seen c.finish.new.turns) c.in_err-finish.field-0.0 first.who (none_drawn first.silent) c.in_err-finish.ensures.draws)

pub returns-in_err-newer-clause-draws : goal.returns-in_err-newer-clause-draws
returns-in_err-newer-clause-draws g c =
    let t = g.T.Turns in
    let who = t.who c.args.turns.now in
    let old = t.seen c.args.turns.now in
    let a = t.seen c.look.new.turns in
    let first = c.in_ok-version.ensures in
    let b = t.seen c.finish.new.turns in
    let second = c.in_ok-finish.ensures in
    let to_b = drawn_then who (t.who c.look.new.turns) old a b first.who (none_drawn first.silent) second.draws in
    draws_any _ _ _ c.from_residual-in_err-newer.result (drawn_then who (t.who c.finish.new.turns) old b (t.seen c.look-2.new.turns) (second.who ∙ first.who) to_b (none_drawn c.in_err-newer.ensures.silent))

pub returns-clause-draws : goal.returns-clause-draws
returns-clause-draws g c =
    let t = g.T.Turns in
    let who = t.who c.args.turns.now in
    let old = t.seen c.args.turns.now in
    let a = t.seen c.look.new.turns in
    let first = c.in_ok-version.ensures in
    let b = t.seen c.finish.new.turns in
    let second = c.in_ok-finish.ensures in
    let to_b = drawn_then who (t.who c.look.new.turns) old a b first.who (none_drawn first.silent) second.draws in
    drawn_then who (t.who c.finish.new.turns) old b (t.seen c.look-2.new.turns) (second.who ∙ first.who) to_b (none_drawn c.in_ok-newer.ensures.silent)
