use Rattle.std.proofs.Common.{inl, inr, ◌≡◌, refl, ◌+◌, ◌-◌, ◌++◌, Some, sym, subst, arith}
use Rattle.std.specs.Prelude.{slice_get}
use Rattle.delos_types.specs.declared.entry.Entry.{Entry}
use Rattle.delos_types.specs.Spelling.{IsSpellable}
use Rattle.loglet_api.specs.declared.call.Op.TheVariants.{Append}
use Rattle.loglet_api.specs.declared.call.Answer.{Answer}
use Rattle.legal_journal.specs.Told.{started}
use Rattle.legal_journal.specs.Journal.{state_of}
use Rattle.legal_journal.specs.Laws.{Stands}
use Rattle.virtual_log.specs.Turning.{Answered}
use Rattle.virtual_log.specs.declared.fault.Fault.TheVariants as fault
use Rattle.virtual_log.specs.Attempts.{Attempts, refused_by}
use Rattle.virtual_log.proofs.OneTurn.{own_by, lack_cause, cause_since, first_later}
use Rattle.virtual_log.proofs.Appending.{may_append, started_within, placed_ok, sealed_ok}
use Rattle.virtual_log.proofs.Saying.{drawn_refl, none_drawn, drawn_then, draws_any, spares_then}
use Rattle.virtual_log.proofs.Sealing.{seals_refl, seals_then}
use Rattle.virtual_log.proofs.Calming.{calm_refl, calm_then}
use Rattle.virtual_log.proofs.Answering.{append_answers}
use Rattle.std.proofs.lemmas.Result.{err_from_is_err_and}
use Rattle.virtual_log.specs.Causes.{IsCalmAnswer, CalmSince}
use Rattle.virtual_log.proofs.Operating.{operates_refl, operates_then, closes_none}
use Rattle.virtual_log.proofs.Attempts.{idle_refl, attempts_then, one_stays, at_most_none}
use Rattle.virtual_log.proofs.operation.append_to.Goals as goal

pub begin-requires-clause-may : goal.begin-requires-clause-may
begin-requires-clause-may g c =
    let p = g.T.Law.Rules in
    let t = g.T.Turns in
    may_append p.law (t.who c.args.turns.now) (t.seen c.args.turns.now) c.args.segment.id c.in_ok-copy.copy
    (started_within p.law (t.seen c.args.turns.now) c.args.segment.id c.args.segment.start c.requires.legal c.requires.started)
    (subst (λ (e : Entry). p.law.may (t.who c.args.turns.now) e) (sym c.in_ok-copy.ensures.cases) c.requires.may)
    (subst IsSpellable (sym c.in_ok-copy.ensures.cases) c.requires.spelled)

pub carry_on-requires-clause-cell : goal.carry_on-requires-clause-cell
carry_on-requires-clause-cell g c =
    let p = g.T.Law.Rules in
    started_within p.law (g.T.Turns.seen c.args.turns.now) c.args.segment.id c.args.segment.start c.requires.legal c.requires.started

pub overflow_add-result : goal.overflow_add-result
overflow_add-result g c =
    let p = g.T.Law.Rules in
    let t = g.T.Turns in
    let who = t.who c.args.turns.now in
    let mid = t.seen c.begin.new.turns in
    let new = t.seen c.carry_on.new.turns in
    let o = c.in_ok-ticket.ensures.ok in
    let r = started ((state_of (t.seen c.args.turns.now ++ o.first.others)).cells c.args.segment.id).told (Append c.in_ok-copy.copy) in
    let x = subst (λ (a : Answer). Answered who mid c.args.segment.id c.in_ok-ticket.ticket r a new) c.in-Placed.is
    (subst (λ k. Answered k mid c.args.segment.id c.in_ok-ticket.ticket r c.in_ok-place.field-0 new) c.in_ok-ticket.ensures.who (c.in_ok-place.ensures.ok r (own_by _ _ _ _ _ c.in_ok-ticket.ensures.who o.own))) in
    let k = placed_ok p.law who (t.seen c.args.turns.now) mid new c.args.segment.id c.args.segment.start c.in_ok-ticket.ticket c.in-Placed.place c.in_ok-copy.copy
    c.requires.legal c.requires.started c.in_ok-ticket.ensures.later c.in_ok-place.ensures.later o x in
    omega (arith, k.fits)

pub returns-in-Placed-clause-stands : goal.returns-in-Placed-clause-stands
returns-in-Placed-clause-stands g c =
    let p = g.T.Law.Rules in
    let t = g.T.Turns in
    let who = t.who c.args.turns.now in
    let mid = t.seen c.begin.new.turns in
    let new = t.seen c.carry_on.new.turns in
    let o = c.in_ok-ticket.ensures.ok in
    let r = started ((state_of (t.seen c.args.turns.now ++ o.first.others)).cells c.args.segment.id).told (Append c.in_ok-copy.copy) in
    let x = subst (λ (a : Answer). Answered who mid c.args.segment.id c.in_ok-ticket.ticket r a new) c.in-Placed.is
    (subst (λ k. Answered k mid c.args.segment.id c.in_ok-ticket.ticket r c.in_ok-place.field-0 new) c.in_ok-ticket.ensures.who (c.in_ok-place.ensures.ok r (own_by _ _ _ _ _ c.in_ok-ticket.ensures.who o.own))) in
    let k = placed_ok p.law who (t.seen c.args.turns.now) mid new c.args.segment.id c.args.segment.start c.in_ok-ticket.ticket c.in-Placed.place c.in_ok-copy.copy
    c.requires.legal c.requires.started c.in_ok-ticket.ensures.later c.in_ok-place.ensures.later o x in
    subst (λ (e : Entry). Stands (state_of new) (c.args.segment.start + c.in-Placed.place) e) c.in_ok-copy.ensures.cases k.stands

pub returns-in-Placed-clause-above : goal.returns-in-Placed-clause-above
returns-in-Placed-clause-above g c =
    let p = g.T.Law.Rules in
    let t = g.T.Turns in
    let who = t.who c.args.turns.now in
    let mid = t.seen c.begin.new.turns in
    let new = t.seen c.carry_on.new.turns in
    let o = c.in_ok-ticket.ensures.ok in
    let r = started ((state_of (t.seen c.args.turns.now ++ o.first.others)).cells c.args.segment.id).told (Append c.in_ok-copy.copy) in
    let x = subst (λ (a : Answer). Answered who mid c.args.segment.id c.in_ok-ticket.ticket r a new) c.in-Placed.is
    (subst (λ k. Answered k mid c.args.segment.id c.in_ok-ticket.ticket r c.in_ok-place.field-0 new) c.in_ok-ticket.ensures.who (c.in_ok-place.ensures.ok r (own_by _ _ _ _ _ c.in_ok-ticket.ensures.who o.own))) in
    (placed_ok p.law who (t.seen c.args.turns.now) mid new c.args.segment.id c.args.segment.start c.in_ok-ticket.ticket c.in-Placed.place c.in_ok-copy.copy
    c.requires.legal c.requires.started c.in_ok-ticket.ensures.later c.in_ok-place.ensures.later o x).above

pub returns-in-Placed-clause-reached : goal.returns-in-Placed-clause-reached
returns-in-Placed-clause-reached g c =
    let p = g.T.Law.Rules in
    let t = g.T.Turns in
    let who = t.who c.args.turns.now in
    let mid = t.seen c.begin.new.turns in
    let new = t.seen c.carry_on.new.turns in
    let o = c.in_ok-ticket.ensures.ok in
    let r = started ((state_of (t.seen c.args.turns.now ++ o.first.others)).cells c.args.segment.id).told (Append c.in_ok-copy.copy) in
    let x = subst (λ (a : Answer). Answered who mid c.args.segment.id c.in_ok-ticket.ticket r a new) c.in-Placed.is
    (subst (λ k. Answered k mid c.args.segment.id c.in_ok-ticket.ticket r c.in_ok-place.field-0 new) c.in_ok-ticket.ensures.who (c.in_ok-place.ensures.ok r (own_by _ _ _ _ _ c.in_ok-ticket.ensures.who o.own))) in
    (placed_ok p.law who (t.seen c.args.turns.now) mid new c.args.segment.id c.args.segment.start c.in_ok-ticket.ticket c.in-Placed.place c.in_ok-copy.copy
    c.requires.legal c.requires.started c.in_ok-ticket.ensures.later c.in_ok-place.ensures.later o x).reached

pub returns-in-Placed-clause-placed : goal.returns-in-Placed-clause-placed
returns-in-Placed-clause-placed g c =
    let p = g.T.Law.Rules in
    let t = g.T.Turns in
    let who = t.who c.args.turns.now in
    let mid = t.seen c.begin.new.turns in
    let new = t.seen c.carry_on.new.turns in
    let o = c.in_ok-ticket.ensures.ok in
    let r = started ((state_of (t.seen c.args.turns.now ++ o.first.others)).cells c.args.segment.id).told (Append c.in_ok-copy.copy) in
    let x = subst (λ (a : Answer). Answered who mid c.args.segment.id c.in_ok-ticket.ticket r a new) c.in-Placed.is
    (subst (λ k. Answered k mid c.args.segment.id c.in_ok-ticket.ticket r c.in_ok-place.field-0 new) c.in_ok-ticket.ensures.who (c.in_ok-place.ensures.ok r (own_by _ _ _ _ _ c.in_ok-ticket.ensures.who o.own))) in
    let k = placed_ok p.law who (t.seen c.args.turns.now) mid new c.args.segment.id c.args.segment.start c.in_ok-ticket.ticket c.in-Placed.place c.in_ok-copy.copy
    c.requires.legal c.requires.started c.in_ok-ticket.ensures.later c.in_ok-place.ensures.later o x in
    subst (λ (e : Entry). slice_get ((state_of new).cells c.args.segment.id).entries (c.args.segment.start + c.in-Placed.place - c.args.segment.start) ≡ Some e) c.in_ok-copy.ensures.cases k.there

pub returns-in-Sealed-clause-sealed : goal.returns-in-Sealed-clause-sealed
returns-in-Sealed-clause-sealed g c =
    let p = g.T.Law.Rules in
    let t = g.T.Turns in
    let o = c.in_ok-ticket.ensures.ok in
    let r = started ((state_of (t.seen c.args.turns.now ++ o.first.others)).cells c.args.segment.id).told (Append c.in_ok-copy.copy) in
    sealed_ok p.law (t.who c.begin.new.turns) (t.seen c.begin.new.turns) (t.seen c.carry_on.new.turns) c.args.segment.id c.in_ok-ticket.ticket r
    (subst (λ (a : Answer). Answered (t.who c.begin.new.turns) (t.seen c.begin.new.turns) c.args.segment.id c.in_ok-ticket.ticket r a (t.seen c.carry_on.new.turns)) c.in-Sealed.is
    (c.in_ok-place.ensures.ok r (own_by _ _ _ _ _ c.in_ok-ticket.ensures.who o.own)))

pub returns-in-NoQuorum-clause-err : goal.returns-in-NoQuorum-clause-err
returns-in-NoQuorum-clause-err g c =
    let p = g.T.Law.Rules in
    let t = g.T.Turns in
    let who = t.who c.args.turns.now in
    let mid = t.seen c.begin.new.turns in
    let new = t.seen c.carry_on.new.turns in
    let o = c.in_ok-ticket.ensures.ok in
    let r = started ((state_of (t.seen c.args.turns.now ++ o.first.others)).cells c.args.segment.id).told (Append c.in_ok-copy.copy) in
    let x = subst (λ (a : Answer). Answered who mid c.args.segment.id c.in_ok-ticket.ticket r a new) c.in-NoQuorum.is
    (subst (λ k. Answered k mid c.args.segment.id c.in_ok-ticket.ticket r c.in_ok-place.field-0 new) c.in_ok-ticket.ensures.who (c.in_ok-place.ensures.ok r (own_by _ _ _ _ _ c.in_ok-ticket.ensures.who o.own))) in
    cause_since who (fault.NoQuorum c.args.segment.id c.in-NoQuorum.unreached) (t.seen c.args.turns.now) mid new c.in_ok-ticket.ensures.later.more c.in_ok-ticket.ensures.later.seen
    (lack_cause who c.args.segment.id c.in_ok-ticket.ticket c.in-NoQuorum.unreached mid new x.event)

pub returns-in-Sealed-clause-retry : goal.returns-in-Sealed-clause-retry
returns-in-Sealed-clause-retry g c =
    let t = g.T.Turns in
    first_later (t.who c.args.turns.now) (t.seen c.args.turns.now) (t.seen c.begin.new.turns) (t.seen c.carry_on.new.turns) c.in_ok-place.ensures.later.more c.in_ok-place.ensures.later.seen c.in_ok-ticket.ensures.ok.first

pub returns-in_err-copy-clause-unsealed : goal.returns-in_err-copy-clause-unsealed
returns-in_err-copy-clause-unsealed g c =
    let t = g.T.Turns in
    seals_refl (t.who c.args.turns.now) (t.seen c.args.turns.now)

pub returns-in_err-copy-clause-memory : goal.returns-in_err-copy-clause-memory
returns-in_err-copy-clause-memory g c =
    let t = g.T.Turns in
    let r = err_from_is_err_and c.from_residual.result c.from_residual.ensures.1 in
    rw (r.1, r.2) (λ _. calm_refl (t.who c.args.turns.now) (t.seen c.args.turns.now))

pub returns-in_err-ticket-clause-unsealed : goal.returns-in_err-ticket-clause-unsealed
returns-in_err-ticket-clause-unsealed g c = (c.in_err-ticket.ensures.unsealed refl)

pub returns-in_err-ticket-clause-memory : goal.returns-in_err-ticket-clause-memory
returns-in_err-ticket-clause-memory g c =
    let r = err_from_is_err_and c.from_residual-in_err-ticket.result c.from_residual-in_err-ticket.ensures.1 in
    rw (r.1, r.2) (λ is. (c.in_err-ticket.ensures.memory is))

pub returns-in_err-place-clause-unsealed : goal.returns-in_err-place-clause-unsealed
returns-in_err-place-clause-unsealed g c =
    let t = g.T.Turns in
    seals_then (t.who c.args.turns.now) (t.who c.begin.new.turns) (t.seen c.args.turns.now) (t.seen c.begin.new.turns) (t.seen c.carry_on.new.turns) c.in_ok-ticket.ensures.who (c.in_ok-ticket.ensures.unsealed refl) c.in_err-place.ensures.unsealed

pub returns-in_err-place-clause-memory : goal.returns-in_err-place-clause-memory
returns-in_err-place-clause-memory g c =
    let t = g.T.Turns in
    let r = err_from_is_err_and c.from_residual-in_err-place.result c.from_residual-in_err-place.ensures.1 in
    rw (r.1, r.2) (λ _. calm_then (t.who c.args.turns.now) (t.who c.begin.new.turns) (t.seen c.args.turns.now) (t.seen c.begin.new.turns) (t.seen c.carry_on.new.turns) c.in_ok-ticket.ensures.who c.in_ok-ticket.ensures.calm c.in_err-place.ensures.memory)

pub returns-in-Placed-clause-unsealed : goal.returns-in-Placed-clause-unsealed
returns-in-Placed-clause-unsealed g c =
    let t = g.T.Turns in
    seals_then (t.who c.args.turns.now) (t.who c.begin.new.turns) (t.seen c.args.turns.now) (t.seen c.begin.new.turns) (t.seen c.carry_on.new.turns) c.in_ok-ticket.ensures.who (c.in_ok-ticket.ensures.unsealed refl) c.in_ok-place.ensures.unsealed

pub returns-in-Placed-clause-calm : goal.returns-in-Placed-clause-calm
returns-in-Placed-clause-calm g c =
    let t = g.T.Turns in
    calm_then (t.who c.args.turns.now) (t.who c.begin.new.turns) (t.seen c.args.turns.now) (t.seen c.begin.new.turns) (t.seen c.carry_on.new.turns) c.in_ok-ticket.ensures.who c.in_ok-ticket.ensures.calm (subst (λ a. IsCalmAnswer a → CalmSince (t.who c.begin.new.turns) (t.seen c.begin.new.turns) (t.seen c.carry_on.new.turns)) c.in-Placed.is c.in_ok-place.ensures.calm tt)

pub returns-in-Sealed-clause-unsealed : goal.returns-in-Sealed-clause-unsealed
returns-in-Sealed-clause-unsealed g c =
    let t = g.T.Turns in
    seals_then (t.who c.args.turns.now) (t.who c.begin.new.turns) (t.seen c.args.turns.now) (t.seen c.begin.new.turns) (t.seen c.carry_on.new.turns) c.in_ok-ticket.ensures.who (c.in_ok-ticket.ensures.unsealed refl) c.in_ok-place.ensures.unsealed

pub returns-in-Sealed-clause-calm : goal.returns-in-Sealed-clause-calm
returns-in-Sealed-clause-calm g c =
    let t = g.T.Turns in
    calm_then (t.who c.args.turns.now) (t.who c.begin.new.turns) (t.seen c.args.turns.now) (t.seen c.begin.new.turns) (t.seen c.carry_on.new.turns) c.in_ok-ticket.ensures.who c.in_ok-ticket.ensures.calm (subst (λ a. IsCalmAnswer a → CalmSince (t.who c.begin.new.turns) (t.seen c.begin.new.turns) (t.seen c.carry_on.new.turns)) c.in-Sealed.is c.in_ok-place.ensures.calm tt)

pub returns-in-NoQuorum-clause-unsealed : goal.returns-in-NoQuorum-clause-unsealed
returns-in-NoQuorum-clause-unsealed g c =
    let t = g.T.Turns in
    seals_then (t.who c.args.turns.now) (t.who c.begin.new.turns) (t.seen c.args.turns.now) (t.seen c.begin.new.turns) (t.seen c.carry_on.new.turns) c.in_ok-ticket.ensures.who (c.in_ok-ticket.ensures.unsealed refl) c.in_ok-place.ensures.unsealed

pub unreachable-requires : goal.unreachable-requires
unreachable-requires g c =
    let t = g.T.Turns in
    let o = c.in_ok-ticket.ensures.ok in
    let r = started ((state_of (t.seen c.args.turns.now ++ o.first.others)).cells c.args.segment.id).told (Append c.in_ok-copy.copy) in
    let x = c.in_ok-place.ensures.ok r (own_by _ _ _ _ _ c.in_ok-ticket.ensures.who o.own) in
    append_answers ((state_of x.moment).cells c.args.segment.id).told r c.in_ok-copy.copy c.in_ok-place.field-0 x.may c.in_default.not-Placed c.in_default.not-Sealed c.in_default.not-NoQuorum

pub returns-in_err-copy-clause-closes : goal.returns-in_err-copy-clause-closes
returns-in_err-copy-clause-closes g c = closes_none _ _ _ c.from_residual.result (operates_refl _ _ _)

pub returns-in_err-ticket-clause-closes : goal.returns-in_err-ticket-clause-closes
returns-in_err-ticket-clause-closes g c = closes_none _ _ _ c.from_residual-in_err-ticket.result c.in_err-ticket.ensures.refused

pub returns-in_err-place-clause-closes : goal.returns-in_err-place-clause-closes
returns-in_err-place-clause-closes g c =
    let t = g.T.Turns in
    let r = err_from_is_err_and c.from_residual-in_err-place.result c.from_residual-in_err-place.ensures.1 in
    rw (r.1, r.2) (c.in_err-place.ensures.left.0, operates_then (t.who c.args.turns.now) (t.who c.begin.new.turns) (t.seen c.args.turns.now) (t.seen c.begin.new.turns) (t.seen c.carry_on.new.turns) c.in_ok-ticket.ensures.who c.in_ok-ticket.ensures.opens c.in_err-place.ensures.left.1)

pub returns-in-Placed-clause-closes : goal.returns-in-Placed-clause-closes
returns-in-Placed-clause-closes g c =
    let t = g.T.Turns in
    operates_then (t.who c.args.turns.now) (t.who c.begin.new.turns) (t.seen c.args.turns.now) (t.seen c.begin.new.turns) (t.seen c.carry_on.new.turns) c.in_ok-ticket.ensures.who c.in_ok-ticket.ensures.opens c.in_ok-place.ensures.closes

pub returns-in-Sealed-clause-closes : goal.returns-in-Sealed-clause-closes
returns-in-Sealed-clause-closes g c =
    let t = g.T.Turns in
    operates_then (t.who c.args.turns.now) (t.who c.begin.new.turns) (t.seen c.args.turns.now) (t.seen c.begin.new.turns) (t.seen c.carry_on.new.turns) c.in_ok-ticket.ensures.who c.in_ok-ticket.ensures.opens c.in_ok-place.ensures.closes

pub returns-in-NoQuorum-clause-closes : goal.returns-in-NoQuorum-clause-closes
returns-in-NoQuorum-clause-closes g c =
    let t = g.T.Turns in
    operates_then (t.who c.args.turns.now) (t.who c.begin.new.turns) (t.seen c.args.turns.now) (t.seen c.begin.new.turns) (t.seen c.carry_on.new.turns) c.in_ok-ticket.ensures.who c.in_ok-ticket.ensures.opens c.in_ok-place.ensures.closes

pub returns-in_err-copy-clause-at_most : goal.returns-in_err-copy-clause-at_most
returns-in_err-copy-clause-at_most g c =
    let t = g.T.Turns in
    let r = err_from_is_err_and c.from_residual.result c.from_residual.ensures.1 in
    rw (r.1, r.2) (inl (idle_refl (t.who c.args.turns.now) (t.seen c.args.turns.now) c.args.entry.now))

pub returns-in_err-ticket-clause-at_most : goal.returns-in_err-ticket-clause-at_most
returns-in_err-ticket-clause-at_most g c =
    let t = g.T.Turns in
    let r = err_from_is_err_and c.from_residual-in_err-ticket.result c.from_residual-in_err-ticket.ensures.1 in
    rw (r.1, r.2) (at_most_none (t.who c.args.turns.now) c.args.entry.now (t.seen c.args.turns.now) (t.seen c.begin.new.turns) c.in_err-ticket.field-0.0 (c.in_err-ticket.ensures.unbegun c.args.entry.now c.in_ok-copy.ensures.cases))

pub returns-in_err-place-clause-at_most : goal.returns-in_err-place-clause-at_most
returns-in_err-place-clause-at_most g c =
    let t = g.T.Turns in
    let r = err_from_is_err_and c.from_residual-in_err-place.result c.from_residual-in_err-place.ensures.1 in
    rw (r.1, r.2) (inr (attempts_then (t.who c.args.turns.now) (t.who c.begin.new.turns) c.args.entry.now (t.seen c.args.turns.now) (t.seen c.begin.new.turns) (t.seen c.carry_on.new.turns) c.in_ok-ticket.ensures.who (c.in_ok-ticket.ensures.begun c.args.entry.now c.in_ok-copy.ensures.cases)
    (one_stays (t.who c.begin.new.turns) c.args.entry.now (t.seen c.begin.new.turns) (t.seen c.carry_on.new.turns) (c.in_err-place.ensures.idle c.args.entry.now))))

pub returns-in-Placed-clause-once : goal.returns-in-Placed-clause-once
returns-in-Placed-clause-once g c =
    let t = g.T.Turns in
    attempts_then (t.who c.args.turns.now) (t.who c.begin.new.turns) c.args.entry.now (t.seen c.args.turns.now) (t.seen c.begin.new.turns) (t.seen c.carry_on.new.turns) c.in_ok-ticket.ensures.who (c.in_ok-ticket.ensures.begun c.args.entry.now c.in_ok-copy.ensures.cases)
    (one_stays (t.who c.begin.new.turns) c.args.entry.now (t.seen c.begin.new.turns) (t.seen c.carry_on.new.turns) (subst (λ a. Attempts (t.who c.begin.new.turns) c.args.entry.now (refused_by a) 0 (t.seen c.begin.new.turns) (t.seen c.carry_on.new.turns)) c.in-Placed.is (c.in_ok-place.ensures.refused c.args.entry.now)))

pub returns-in-Sealed-clause-refused : goal.returns-in-Sealed-clause-refused
returns-in-Sealed-clause-refused g c =
    let t = g.T.Turns in
    attempts_then (t.who c.args.turns.now) (t.who c.begin.new.turns) c.args.entry.now (t.seen c.args.turns.now) (t.seen c.begin.new.turns) (t.seen c.carry_on.new.turns) c.in_ok-ticket.ensures.who (c.in_ok-ticket.ensures.begun c.args.entry.now c.in_ok-copy.ensures.cases)
    (subst (λ a. Attempts (t.who c.begin.new.turns) c.args.entry.now (refused_by a) 0 (t.seen c.begin.new.turns) (t.seen c.carry_on.new.turns)) c.in-Sealed.is (c.in_ok-place.ensures.refused c.args.entry.now))

pub returns-in-NoQuorum-clause-at_most : goal.returns-in-NoQuorum-clause-at_most
returns-in-NoQuorum-clause-at_most g c =
    let t = g.T.Turns in
    inr (attempts_then (t.who c.args.turns.now) (t.who c.begin.new.turns) c.args.entry.now (t.seen c.args.turns.now) (t.seen c.begin.new.turns) (t.seen c.carry_on.new.turns) c.in_ok-ticket.ensures.who (c.in_ok-ticket.ensures.begun c.args.entry.now c.in_ok-copy.ensures.cases)
    (one_stays (t.who c.begin.new.turns) c.args.entry.now (t.seen c.begin.new.turns) (t.seen c.carry_on.new.turns) (subst (λ a. Attempts (t.who c.begin.new.turns) c.args.entry.now (refused_by a) 0 (t.seen c.begin.new.turns) (t.seen c.carry_on.new.turns)) c.in-NoQuorum.is (c.in_ok-place.ensures.refused c.args.entry.now))))

pub returns-in_err-copy-clause-draws : goal.returns-in_err-copy-clause-draws
returns-in_err-copy-clause-draws g c = draws_any _ _ _ c.from_residual.result (drawn_refl _ _)

pub returns-in_err-ticket-clause-draws : goal.returns-in_err-ticket-clause-draws
returns-in_err-ticket-clause-draws g c = draws_any _ _ _ c.from_residual-in_err-ticket.result (none_drawn c.in_err-ticket.ensures.silent)

pub returns-in_err-place-clause-draws : goal.returns-in_err-place-clause-draws
returns-in_err-place-clause-draws g c =
    let t = g.T.Turns in
    let r = err_from_is_err_and c.from_residual-in_err-place.result c.from_residual-in_err-place.ensures.1 in
    rw (r.1, r.2) (spares_then (t.who c.args.turns.now) (t.who c.begin.new.turns) (t.seen c.args.turns.now) (t.seen c.begin.new.turns) (t.seen c.carry_on.new.turns) c.in_ok-ticket.ensures.who (none_drawn c.in_ok-ticket.ensures.silent) c.in_err-place.ensures.spares)

pub returns-in-Placed-clause-draws : goal.returns-in-Placed-clause-draws
returns-in-Placed-clause-draws g c =
    let t = g.T.Turns in
    drawn_then (t.who c.args.turns.now) (t.who c.begin.new.turns) (t.seen c.args.turns.now) (t.seen c.begin.new.turns) (t.seen c.carry_on.new.turns) c.in_ok-ticket.ensures.who (none_drawn c.in_ok-ticket.ensures.silent) c.in_ok-place.ensures.draws

pub returns-in-Sealed-clause-draws : goal.returns-in-Sealed-clause-draws
returns-in-Sealed-clause-draws g c =
    let t = g.T.Turns in
    drawn_then (t.who c.args.turns.now) (t.who c.begin.new.turns) (t.seen c.args.turns.now) (t.seen c.begin.new.turns) (t.seen c.carry_on.new.turns) c.in_ok-ticket.ensures.who (none_drawn c.in_ok-ticket.ensures.silent) c.in_ok-place.ensures.draws

pub returns-in-NoQuorum-clause-draws : goal.returns-in-NoQuorum-clause-draws
returns-in-NoQuorum-clause-draws g c =
    let t = g.T.Turns in
    drawn_then (t.who c.args.turns.now) (t.who c.begin.new.turns) (t.seen c.args.turns.now) (t.seen c.begin.new.turns) (t.seen c.carry_on.new.turns) c.in_ok-ticket.ensures.who (none_drawn c.in_ok-ticket.ensures.silent) c.in_ok-place.ensures.draws
