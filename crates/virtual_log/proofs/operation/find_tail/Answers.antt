use Rattle.std.proofs.Common.{◌++◌, refl, subst, arith}
use Rattle.loglet_api.specs.declared.call.Op.TheVariants.{Tail}
use Rattle.loglet_api.specs.declared.call.Answer.{Answer}
use Rattle.legal_journal.specs.Told.{started}
use Rattle.legal_journal.specs.Journal.{state_of}
use Rattle.virtual_log.specs.Turning.{Answered}
use Rattle.virtual_log.specs.declared.fault.Fault.TheVariants as fault
use Rattle.delos_types.specs.declared.entry.Entry.{Entry}
use Rattle.virtual_log.specs.Attempts.{Attempts, refused_by}
use Rattle.virtual_log.proofs.OneTurn.{own_by, lack_cause, cause_since, first_later}
use Rattle.virtual_log.proofs.Appending.{may_tail, started_within, tail_ok, end_ok, shut_ok, never_open}
use Rattle.virtual_log.proofs.Writing.{wrote_trans, wrote_by}
use Rattle.virtual_log.proofs.Sealing.{seals_trans, seals_as}
use Rattle.virtual_log.proofs.Saying.{none_drawn, drawn_then, draws_any, spares_then}
use Rattle.virtual_log.proofs.Calming.{calm_then}
use Rattle.virtual_log.proofs.Answering.{tail_answers}
use Rattle.std.proofs.lemmas.Result.{err_from_is_err_and}
use Rattle.virtual_log.specs.Causes.{IsCalmAnswer, CalmSince}
use Rattle.virtual_log.proofs.Operating.{operates_then, closes_none}
use Rattle.virtual_log.proofs.Attempts.{idle_trans, idle_as}
use Rattle.virtual_log.proofs.operation.find_tail.Goals as goal

pub begin-requires-clause-may : goal.begin-requires-clause-may
begin-requires-clause-may g c =
    let p = g.T.Law.Rules in
    may_tail p.law _ _ c.args.segment.id (started_within p.law (g.T.Turns.seen c.args.turns.now) c.args.segment.id c.args.segment.start c.requires.legal c.requires.started)

pub carry_on-requires-clause-cell : goal.carry_on-requires-clause-cell
carry_on-requires-clause-cell g c =
    let p = g.T.Law.Rules in
    started_within p.law (g.T.Turns.seen c.args.turns.now) c.args.segment.id c.args.segment.start c.requires.legal c.requires.started

pub overflow_add-result : goal.overflow_add-result
overflow_add-result g c =
    let p = g.T.Law.Rules in
    let t = g.T.Turns in
    let who = t.who c.args.turns.now in
    let mid = t.seen c.begin.new.turns in
    let new = t.seen c.carry_on.new.turns in
    let o = c.in_ok-ticket.ensures.ok in
    let r = started ((state_of (t.seen c.args.turns.now ++ o.first.others)).cells c.args.segment.id).told Tail in
    let x = subst (λ (a : Answer). Answered who mid c.args.segment.id c.in_ok-ticket.ticket r a new) c.in-OpenTail.is
    (subst (λ k. Answered k mid c.args.segment.id c.in_ok-ticket.ticket r c.in_ok-length.field-0 new) c.in_ok-ticket.ensures.who (c.in_ok-length.ensures.ok r (own_by _ _ _ _ _ c.in_ok-ticket.ensures.who o.own))) in
    let k = tail_ok p.law who (t.seen c.args.turns.now) mid new c.args.segment.id c.args.segment.start c.in_ok-ticket.ticket c.in-OpenTail.length
    c.requires.legal c.requires.started c.in_ok-ticket.ensures.later c.in_ok-length.ensures.later o x in
    omega (arith, k.fits)

pub returns-in-OpenTail-clause-found : goal.returns-in-OpenTail-clause-found
returns-in-OpenTail-clause-found g c =
    let p = g.T.Law.Rules in
    let t = g.T.Turns in
    let who = t.who c.args.turns.now in
    let mid = t.seen c.begin.new.turns in
    let new = t.seen c.carry_on.new.turns in
    let o = c.in_ok-ticket.ensures.ok in
    let r = started ((state_of (t.seen c.args.turns.now ++ o.first.others)).cells c.args.segment.id).told Tail in
    let x = subst (λ (a : Answer). Answered who mid c.args.segment.id c.in_ok-ticket.ticket r a new) c.in-OpenTail.is
    (subst (λ k. Answered k mid c.args.segment.id c.in_ok-ticket.ticket r c.in_ok-length.field-0 new) c.in_ok-ticket.ensures.who (c.in_ok-length.ensures.ok r (own_by _ _ _ _ _ c.in_ok-ticket.ensures.who o.own))) in
    let k = tail_ok p.law who (t.seen c.args.turns.now) mid new c.args.segment.id c.args.segment.start c.in_ok-ticket.ticket c.in-OpenTail.length
    c.requires.legal c.requires.started c.in_ok-ticket.ensures.later c.in_ok-length.ensures.later o x in
    (k.within, k.above, k.reached, k.exact)

pub returns-in-OpenTail-clause-shut : goal.returns-in-OpenTail-clause-shut
returns-in-OpenTail-clause-shut g c = λ shut.
    let p = g.T.Law.Rules in
    let t = g.T.Turns in
    let who = t.who c.args.turns.now in
    let mid = t.seen c.begin.new.turns in
    let new = t.seen c.carry_on.new.turns in
    let o = c.in_ok-ticket.ensures.ok in
    let r = started ((state_of (t.seen c.args.turns.now ++ o.first.others)).cells c.args.segment.id).told Tail in
    let x = subst (λ (a : Answer). Answered who mid c.args.segment.id c.in_ok-ticket.ticket r a new) c.in-OpenTail.is
    (subst (λ k. Answered k mid c.args.segment.id c.in_ok-ticket.ticket r c.in_ok-length.field-0 new) c.in_ok-ticket.ensures.who (c.in_ok-length.ensures.ok r (own_by _ _ _ _ _ c.in_ok-ticket.ensures.who o.own))) in
    never_open p.law who (t.seen c.args.turns.now) mid new c.args.segment.id c.in_ok-ticket.ticket c.in-OpenTail.length c.requires.legal c.in_ok-ticket.ensures.later o x shut

pub returns-in-SealedTail-clause-found : goal.returns-in-SealedTail-clause-found
returns-in-SealedTail-clause-found g c =
    let p = g.T.Law.Rules in
    let t = g.T.Turns in
    let who = t.who c.args.turns.now in
    let mid = t.seen c.begin.new.turns in
    let new = t.seen c.carry_on.new.turns in
    let o = c.in_ok-ticket.ensures.ok in
    let r = started ((state_of (t.seen c.args.turns.now ++ o.first.others)).cells c.args.segment.id).told Tail in
    let x = subst (λ (a : Answer). Answered who mid c.args.segment.id c.in_ok-ticket.ticket r a new) c.in-SealedTail.is
    (subst (λ k. Answered k mid c.args.segment.id c.in_ok-ticket.ticket r c.in_ok-length.field-0 new) c.in_ok-ticket.ensures.who (c.in_ok-length.ensures.ok r (own_by _ _ _ _ _ c.in_ok-ticket.ensures.who o.own))) in
    (end_ok p.law who mid new c.args.segment.id c.in_ok-ticket.ticket c.in-SealedTail.length r x, shut_ok p.law who mid new c.args.segment.id c.in_ok-ticket.ticket c.in-SealedTail.length r x, first_later who (t.seen c.args.turns.now) mid new c.in_ok-length.ensures.later.more c.in_ok-length.ensures.later.seen o.first)

pub returns-in-NoQuorum-clause-err : goal.returns-in-NoQuorum-clause-err
returns-in-NoQuorum-clause-err g c =
    let p = g.T.Law.Rules in
    let t = g.T.Turns in
    let who = t.who c.args.turns.now in
    let mid = t.seen c.begin.new.turns in
    let new = t.seen c.carry_on.new.turns in
    let o = c.in_ok-ticket.ensures.ok in
    let r = started ((state_of (t.seen c.args.turns.now ++ o.first.others)).cells c.args.segment.id).told Tail in
    let x = subst (λ (a : Answer). Answered who mid c.args.segment.id c.in_ok-ticket.ticket r a new) c.in-NoQuorum.is
    (subst (λ k. Answered k mid c.args.segment.id c.in_ok-ticket.ticket r c.in_ok-length.field-0 new) c.in_ok-ticket.ensures.who (c.in_ok-length.ensures.ok r (own_by _ _ _ _ _ c.in_ok-ticket.ensures.who o.own))) in
    cause_since who (fault.NoQuorum c.args.segment.id c.in-NoQuorum.unreached) (t.seen c.args.turns.now) mid new c.in_ok-ticket.ensures.later.more c.in_ok-ticket.ensures.later.seen
    (lack_cause who c.args.segment.id c.in_ok-ticket.ticket c.in-NoQuorum.unreached mid new x.event)

pub returns-in-OpenTail-clause-quiet : goal.returns-in-OpenTail-clause-quiet
returns-in-OpenTail-clause-quiet g c =
    let t = g.T.Turns in
    wrote_trans (t.who c.args.turns.now) (t.seen c.args.turns.now) (t.seen c.begin.new.turns) (t.seen c.carry_on.new.turns) c.in_ok-ticket.ensures.quiet
    (wrote_by _ _ _ _ c.in_ok-ticket.ensures.who c.in_ok-length.ensures.quiet)

pub returns-in-SealedTail-clause-quiet : goal.returns-in-SealedTail-clause-quiet
returns-in-SealedTail-clause-quiet g c =
    let t = g.T.Turns in
    wrote_trans (t.who c.args.turns.now) (t.seen c.args.turns.now) (t.seen c.begin.new.turns) (t.seen c.carry_on.new.turns) c.in_ok-ticket.ensures.quiet
    (wrote_by _ _ _ _ c.in_ok-ticket.ensures.who c.in_ok-length.ensures.quiet)

pub returns-in_err-ticket-clause-unsealed : goal.returns-in_err-ticket-clause-unsealed
returns-in_err-ticket-clause-unsealed g c = c.in_err-ticket.ensures.unsealed refl

pub returns-in_err-length-clause-unsealed : goal.returns-in_err-length-clause-unsealed
returns-in_err-length-clause-unsealed g c =
    let t = g.T.Turns in
    seals_trans (t.who c.args.turns.now) (t.seen c.args.turns.now) (t.seen c.begin.new.turns) (t.seen c.carry_on.new.turns) (c.in_ok-ticket.ensures.unsealed refl)
    (seals_as _ _ _ _ c.in_ok-ticket.ensures.who c.in_err-length.ensures.unsealed)

pub returns-in-OpenTail-clause-unsealed : goal.returns-in-OpenTail-clause-unsealed
returns-in-OpenTail-clause-unsealed g c =
    let t = g.T.Turns in
    seals_trans (t.who c.args.turns.now) (t.seen c.args.turns.now) (t.seen c.begin.new.turns) (t.seen c.carry_on.new.turns) (c.in_ok-ticket.ensures.unsealed refl)
    (seals_as _ _ _ _ c.in_ok-ticket.ensures.who c.in_ok-length.ensures.unsealed)

pub returns-in-SealedTail-clause-unsealed : goal.returns-in-SealedTail-clause-unsealed
returns-in-SealedTail-clause-unsealed g c =
    let t = g.T.Turns in
    seals_trans (t.who c.args.turns.now) (t.seen c.args.turns.now) (t.seen c.begin.new.turns) (t.seen c.carry_on.new.turns) (c.in_ok-ticket.ensures.unsealed refl)
    (seals_as _ _ _ _ c.in_ok-ticket.ensures.who c.in_ok-length.ensures.unsealed)

pub returns-in-NoQuorum-clause-unsealed : goal.returns-in-NoQuorum-clause-unsealed
returns-in-NoQuorum-clause-unsealed g c =
    let t = g.T.Turns in
    seals_trans (t.who c.args.turns.now) (t.seen c.args.turns.now) (t.seen c.begin.new.turns) (t.seen c.carry_on.new.turns) (c.in_ok-ticket.ensures.unsealed refl)
    (seals_as _ _ _ _ c.in_ok-ticket.ensures.who c.in_ok-length.ensures.unsealed)

pub returns-in_err-ticket-clause-memory : goal.returns-in_err-ticket-clause-memory
returns-in_err-ticket-clause-memory g c =
    let r = err_from_is_err_and c.from_residual.result c.from_residual.ensures.1 in
    rw (r.1, r.2) (λ is. (c.in_err-ticket.ensures.memory is))

pub returns-in_err-length-clause-memory : goal.returns-in_err-length-clause-memory
returns-in_err-length-clause-memory g c =
    let t = g.T.Turns in
    let r = err_from_is_err_and c.from_residual-in_err-length.result c.from_residual-in_err-length.ensures.1 in
    rw (r.1, r.2) (λ _. calm_then (t.who c.args.turns.now) (t.who c.begin.new.turns) (t.seen c.args.turns.now) (t.seen c.begin.new.turns) (t.seen c.carry_on.new.turns) c.in_ok-ticket.ensures.who c.in_ok-ticket.ensures.calm c.in_err-length.ensures.memory)

pub returns-in-OpenTail-clause-calm : goal.returns-in-OpenTail-clause-calm
returns-in-OpenTail-clause-calm g c =
    let t = g.T.Turns in
    calm_then (t.who c.args.turns.now) (t.who c.begin.new.turns) (t.seen c.args.turns.now) (t.seen c.begin.new.turns) (t.seen c.carry_on.new.turns) c.in_ok-ticket.ensures.who c.in_ok-ticket.ensures.calm (subst (λ a. IsCalmAnswer a → CalmSince (t.who c.begin.new.turns) (t.seen c.begin.new.turns) (t.seen c.carry_on.new.turns)) c.in-OpenTail.is c.in_ok-length.ensures.calm tt)

pub returns-in-SealedTail-clause-calm : goal.returns-in-SealedTail-clause-calm
returns-in-SealedTail-clause-calm g c =
    let t = g.T.Turns in
    calm_then (t.who c.args.turns.now) (t.who c.begin.new.turns) (t.seen c.args.turns.now) (t.seen c.begin.new.turns) (t.seen c.carry_on.new.turns) c.in_ok-ticket.ensures.who c.in_ok-ticket.ensures.calm (subst (λ a. IsCalmAnswer a → CalmSince (t.who c.begin.new.turns) (t.seen c.begin.new.turns) (t.seen c.carry_on.new.turns)) c.in-SealedTail.is c.in_ok-length.ensures.calm tt)

pub unreachable-requires : goal.unreachable-requires
unreachable-requires g c =
    let t = g.T.Turns in
    let o = c.in_ok-ticket.ensures.ok in
    let r = started ((state_of (t.seen c.args.turns.now ++ o.first.others)).cells c.args.segment.id).told Tail in
    let x = c.in_ok-length.ensures.ok r (own_by _ _ _ _ _ c.in_ok-ticket.ensures.who o.own) in
    tail_answers ((state_of x.moment).cells c.args.segment.id).told r c.in_ok-length.field-0 x.may c.in_default.not-OpenTail c.in_default.not-SealedTail c.in_default.not-NoQuorum

pub returns-in-OpenTail-clause-closes : goal.returns-in-OpenTail-clause-closes
returns-in-OpenTail-clause-closes g c =
    let t = g.T.Turns in
    operates_then (t.who c.args.turns.now) (t.who c.begin.new.turns) (t.seen c.args.turns.now) (t.seen c.begin.new.turns) (t.seen c.carry_on.new.turns) c.in_ok-ticket.ensures.who c.in_ok-ticket.ensures.opens c.in_ok-length.ensures.closes

pub returns-in-SealedTail-clause-closes : goal.returns-in-SealedTail-clause-closes
returns-in-SealedTail-clause-closes g c =
    let t = g.T.Turns in
    operates_then (t.who c.args.turns.now) (t.who c.begin.new.turns) (t.seen c.args.turns.now) (t.seen c.begin.new.turns) (t.seen c.carry_on.new.turns) c.in_ok-ticket.ensures.who c.in_ok-ticket.ensures.opens c.in_ok-length.ensures.closes

pub returns-in-NoQuorum-clause-closes : goal.returns-in-NoQuorum-clause-closes
returns-in-NoQuorum-clause-closes g c =
    let t = g.T.Turns in
    operates_then (t.who c.args.turns.now) (t.who c.begin.new.turns) (t.seen c.args.turns.now) (t.seen c.begin.new.turns) (t.seen c.carry_on.new.turns) c.in_ok-ticket.ensures.who c.in_ok-ticket.ensures.opens c.in_ok-length.ensures.closes

pub returns-in_err-ticket-clause-closes : goal.returns-in_err-ticket-clause-closes
returns-in_err-ticket-clause-closes g c = closes_none _ _ _ c.from_residual.result c.in_err-ticket.ensures.refused

pub returns-in_err-length-clause-closes : goal.returns-in_err-length-clause-closes
returns-in_err-length-clause-closes g c =
    let t = g.T.Turns in
    let r = err_from_is_err_and c.from_residual-in_err-length.result c.from_residual-in_err-length.ensures.1 in
    rw (r.1, r.2) (c.in_err-length.ensures.left.0, operates_then (t.who c.args.turns.now) (t.who c.begin.new.turns) (t.seen c.args.turns.now) (t.seen c.begin.new.turns) (t.seen c.carry_on.new.turns) c.in_ok-ticket.ensures.who c.in_ok-ticket.ensures.opens c.in_err-length.ensures.left.1)

pub returns-in_err-ticket-clause-idle : goal.returns-in_err-ticket-clause-idle
returns-in_err-ticket-clause-idle g c = λ entry. c.in_err-ticket.ensures.unbegun entry tt

pub returns-in_err-length-clause-idle : goal.returns-in_err-length-clause-idle
returns-in_err-length-clause-idle g c =
    let t = g.T.Turns in
    idle_trans (t.who c.args.turns.now) (t.seen c.args.turns.now) (t.seen c.begin.new.turns) (t.seen c.carry_on.new.turns) (λ entry. c.in_ok-ticket.ensures.begun entry tt)
    (idle_as _ _ _ _ c.in_ok-ticket.ensures.who c.in_err-length.ensures.idle)

pub returns-in-OpenTail-clause-idle : goal.returns-in-OpenTail-clause-idle
returns-in-OpenTail-clause-idle g c =
    let t = g.T.Turns in
    idle_trans (t.who c.args.turns.now) (t.seen c.args.turns.now) (t.seen c.begin.new.turns) (t.seen c.carry_on.new.turns) (λ entry. c.in_ok-ticket.ensures.begun entry tt)
    (idle_as _ _ _ _ c.in_ok-ticket.ensures.who (subst (λ a. (entry : Entry) → Attempts (t.who c.begin.new.turns) entry (refused_by a) 0 (t.seen c.begin.new.turns) (t.seen c.carry_on.new.turns)) c.in-OpenTail.is c.in_ok-length.ensures.refused))

pub returns-in-SealedTail-clause-idle : goal.returns-in-SealedTail-clause-idle
returns-in-SealedTail-clause-idle g c =
    let t = g.T.Turns in
    idle_trans (t.who c.args.turns.now) (t.seen c.args.turns.now) (t.seen c.begin.new.turns) (t.seen c.carry_on.new.turns) (λ entry. c.in_ok-ticket.ensures.begun entry tt)
    (idle_as _ _ _ _ c.in_ok-ticket.ensures.who (subst (λ a. (entry : Entry) → Attempts (t.who c.begin.new.turns) entry (refused_by a) 0 (t.seen c.begin.new.turns) (t.seen c.carry_on.new.turns)) c.in-SealedTail.is c.in_ok-length.ensures.refused))

pub returns-in-NoQuorum-clause-idle : goal.returns-in-NoQuorum-clause-idle
returns-in-NoQuorum-clause-idle g c =
    let t = g.T.Turns in
    idle_trans (t.who c.args.turns.now) (t.seen c.args.turns.now) (t.seen c.begin.new.turns) (t.seen c.carry_on.new.turns) (λ entry. c.in_ok-ticket.ensures.begun entry tt)
    (idle_as _ _ _ _ c.in_ok-ticket.ensures.who (subst (λ a. (entry : Entry) → Attempts (t.who c.begin.new.turns) entry (refused_by a) 0 (t.seen c.begin.new.turns) (t.seen c.carry_on.new.turns)) c.in-NoQuorum.is c.in_ok-length.ensures.refused))

pub returns-in-OpenTail-clause-draws : goal.returns-in-OpenTail-clause-draws
returns-in-OpenTail-clause-draws g c =
    let t = g.T.Turns in
    drawn_then (t.who c.args.turns.now) (t.who c.begin.new.turns) (t.seen c.args.turns.now) (t.seen c.begin.new.turns) (t.seen c.carry_on.new.turns) c.in_ok-ticket.ensures.who (none_drawn c.in_ok-ticket.ensures.silent) c.in_ok-length.ensures.draws

pub returns-in-SealedTail-clause-draws : goal.returns-in-SealedTail-clause-draws
returns-in-SealedTail-clause-draws g c =
    let t = g.T.Turns in
    drawn_then (t.who c.args.turns.now) (t.who c.begin.new.turns) (t.seen c.args.turns.now) (t.seen c.begin.new.turns) (t.seen c.carry_on.new.turns) c.in_ok-ticket.ensures.who (none_drawn c.in_ok-ticket.ensures.silent) c.in_ok-length.ensures.draws

pub returns-in-NoQuorum-clause-draws : goal.returns-in-NoQuorum-clause-draws
returns-in-NoQuorum-clause-draws g c =
    let t = g.T.Turns in
    drawn_then (t.who c.args.turns.now) (t.who c.begin.new.turns) (t.seen c.args.turns.now) (t.seen c.begin.new.turns) (t.seen c.carry_on.new.turns) c.in_ok-ticket.ensures.who (none_drawn c.in_ok-ticket.ensures.silent) c.in_ok-length.ensures.draws

pub returns-in_err-ticket-clause-draws : goal.returns-in_err-ticket-clause-draws
returns-in_err-ticket-clause-draws g c = draws_any _ _ _ c.from_residual.result (none_drawn c.in_err-ticket.ensures.silent)

pub returns-in_err-length-clause-draws : goal.returns-in_err-length-clause-draws
returns-in_err-length-clause-draws g c =
    let t = g.T.Turns in
    let r = err_from_is_err_and c.from_residual-in_err-length.result c.from_residual-in_err-length.ensures.1 in
    rw (r.1, r.2) (spares_then (t.who c.args.turns.now) (t.who c.begin.new.turns) (t.seen c.args.turns.now) (t.seen c.begin.new.turns) (t.seen c.carry_on.new.turns) c.in_ok-ticket.ensures.who (none_drawn c.in_ok-ticket.ensures.silent) c.in_err-length.ensures.spares)
