use Rattle.std.proofs.Common.{◌++◌, subst}
use Rattle.loglet_api.specs.declared.call.Op.TheVariants.{Seal}
use Rattle.loglet_api.specs.declared.call.Answer.{Answer}
use Rattle.legal_journal.specs.Told.{started}
use Rattle.legal_journal.specs.Journal.{state_of}
use Rattle.virtual_log.specs.Turning.{Answered}
use Rattle.virtual_log.specs.declared.fault.Fault.TheVariants as fault
use Rattle.virtual_log.proofs.OneTurn.{own_by, lack_cause, cause_since}
use Rattle.virtual_log.proofs.Appending.{sealing_ok}
use Rattle.virtual_log.proofs.Writing.{wrote_trans, wrote_by}
use Rattle.virtual_log.proofs.Sealing.{seals_as, at_then}
use Rattle.virtual_log.proofs.Saying.{none_drawn, drawn_then, draws_any, spares_then}
use Rattle.virtual_log.proofs.Calming.{calm_then}
use Rattle.virtual_log.proofs.Answering.{seal_answers}
use Rattle.std.proofs.lemmas.Result.{err_from_is_err_and}
use Rattle.virtual_log.specs.Causes.{IsCalmAnswer, CalmSince}
use Rattle.virtual_log.proofs.Operating.{operates_then, closes_none}
use Rattle.virtual_log.proofs.operation.seal.Goals as goal

pub returns-in-SealDone-clause-sealed : goal.returns-in-SealDone-clause-sealed
returns-in-SealDone-clause-sealed g c =
    let p = g.T.Law.Rules in
    let t = g.T.Turns in
    let who = t.who c.args.turns.now in
    let mid = t.seen c.begin.new.turns in
    let new = t.seen c.carry_on.new.turns in
    let o = c.in_ok-ticket.ensures.ok in
    let r = started ((state_of (t.seen c.args.turns.now ++ o.first.others)).cells c.args.id).told Seal in
    let x = subst (λ (a : Answer). Answered who mid c.args.id c.in_ok-ticket.ticket r a new) c.in-SealDone.is
    (subst (λ k. Answered k mid c.args.id c.in_ok-ticket.ticket r c.in_ok-carry_on.field-0 new) c.in_ok-ticket.ensures.who (c.in_ok-carry_on.ensures.ok r (own_by _ _ _ _ _ c.in_ok-ticket.ensures.who o.own))) in
    sealing_ok p.law who mid new c.args.id c.in_ok-ticket.ticket r x

pub returns-in-NoQuorum-clause-err : goal.returns-in-NoQuorum-clause-err
returns-in-NoQuorum-clause-err g c =
    let p = g.T.Law.Rules in
    let t = g.T.Turns in
    let who = t.who c.args.turns.now in
    let mid = t.seen c.begin.new.turns in
    let new = t.seen c.carry_on.new.turns in
    let o = c.in_ok-ticket.ensures.ok in
    let r = started ((state_of (t.seen c.args.turns.now ++ o.first.others)).cells c.args.id).told Seal in
    let x = subst (λ (a : Answer). Answered who mid c.args.id c.in_ok-ticket.ticket r a new) c.in-NoQuorum.is
    (subst (λ k. Answered k mid c.args.id c.in_ok-ticket.ticket r c.in_ok-carry_on.field-0 new) c.in_ok-ticket.ensures.who (c.in_ok-carry_on.ensures.ok r (own_by _ _ _ _ _ c.in_ok-ticket.ensures.who o.own))) in
    cause_since who (fault.NoQuorum c.args.id c.in-NoQuorum.unreached) (t.seen c.args.turns.now) mid new c.in_ok-ticket.ensures.later.more c.in_ok-ticket.ensures.later.seen
    (lack_cause who c.args.id c.in_ok-ticket.ticket c.in-NoQuorum.unreached mid new x.event)

pub returns-in-SealDone-clause-quiet : goal.returns-in-SealDone-clause-quiet
returns-in-SealDone-clause-quiet g c =
    let t = g.T.Turns in
    wrote_trans (t.who c.args.turns.now) (t.seen c.args.turns.now) (t.seen c.begin.new.turns) (t.seen c.carry_on.new.turns) c.in_ok-ticket.ensures.quiet
    (wrote_by _ _ _ _ c.in_ok-ticket.ensures.who c.in_ok-carry_on.ensures.quiet)

pub returns-in_err-ticket-clause-seals : goal.returns-in_err-ticket-clause-seals
returns-in_err-ticket-clause-seals g c = c.in_err-ticket.ensures.seals

pub returns-in_err-carry_on-clause-seals : goal.returns-in_err-carry_on-clause-seals
returns-in_err-carry_on-clause-seals g c =
    let t = g.T.Turns in
    at_then (t.who c.args.turns.now) c.args.id (t.seen c.args.turns.now) (t.seen c.begin.new.turns) (t.seen c.carry_on.new.turns) c.in_ok-ticket.ensures.seals
    (seals_as _ _ _ _ c.in_ok-ticket.ensures.who c.in_err-carry_on.ensures.unsealed)

pub returns-in-SealDone-clause-seals : goal.returns-in-SealDone-clause-seals
returns-in-SealDone-clause-seals g c =
    let t = g.T.Turns in
    at_then (t.who c.args.turns.now) c.args.id (t.seen c.args.turns.now) (t.seen c.begin.new.turns) (t.seen c.carry_on.new.turns) c.in_ok-ticket.ensures.seals
    (seals_as _ _ _ _ c.in_ok-ticket.ensures.who c.in_ok-carry_on.ensures.unsealed)

pub returns-in-NoQuorum-clause-seals : goal.returns-in-NoQuorum-clause-seals
returns-in-NoQuorum-clause-seals g c =
    let t = g.T.Turns in
    at_then (t.who c.args.turns.now) c.args.id (t.seen c.args.turns.now) (t.seen c.begin.new.turns) (t.seen c.carry_on.new.turns) c.in_ok-ticket.ensures.seals
    (seals_as _ _ _ _ c.in_ok-ticket.ensures.who c.in_ok-carry_on.ensures.unsealed)

pub returns-in_err-ticket-clause-memory : goal.returns-in_err-ticket-clause-memory
returns-in_err-ticket-clause-memory g c =
    let r = err_from_is_err_and c.from_residual.result c.from_residual.ensures.1 in
    rw (r.1, r.2) (λ is. (c.in_err-ticket.ensures.memory is))

pub returns-in_err-carry_on-clause-memory : goal.returns-in_err-carry_on-clause-memory
returns-in_err-carry_on-clause-memory g c =
    let t = g.T.Turns in
    let r = err_from_is_err_and c.from_residual-in_err-carry_on.result c.from_residual-in_err-carry_on.ensures.1 in
    rw (r.1, r.2) (λ _. calm_then (t.who c.args.turns.now) (t.who c.begin.new.turns) (t.seen c.args.turns.now) (t.seen c.begin.new.turns) (t.seen c.carry_on.new.turns) c.in_ok-ticket.ensures.who c.in_ok-ticket.ensures.calm c.in_err-carry_on.ensures.memory)

pub returns-in-SealDone-clause-calm : goal.returns-in-SealDone-clause-calm
returns-in-SealDone-clause-calm g c =
    let t = g.T.Turns in
    calm_then (t.who c.args.turns.now) (t.who c.begin.new.turns) (t.seen c.args.turns.now) (t.seen c.begin.new.turns) (t.seen c.carry_on.new.turns) c.in_ok-ticket.ensures.who c.in_ok-ticket.ensures.calm (subst (λ a. IsCalmAnswer a → CalmSince (t.who c.begin.new.turns) (t.seen c.begin.new.turns) (t.seen c.carry_on.new.turns)) c.in-SealDone.is c.in_ok-carry_on.ensures.calm tt)

pub unreachable-requires : goal.unreachable-requires
unreachable-requires g c =
    let t = g.T.Turns in
    let o = c.in_ok-ticket.ensures.ok in
    let r = started ((state_of (t.seen c.args.turns.now ++ o.first.others)).cells c.args.id).told Seal in
    let x = c.in_ok-carry_on.ensures.ok r (own_by _ _ _ _ _ c.in_ok-ticket.ensures.who o.own) in
    seal_answers ((state_of x.moment).cells c.args.id).told r c.in_ok-carry_on.field-0 x.may c.in_default.not-SealDone c.in_default.not-NoQuorum

pub returns-in_err-ticket-clause-closes : goal.returns-in_err-ticket-clause-closes
returns-in_err-ticket-clause-closes g c = closes_none _ _ _ c.from_residual.result c.in_err-ticket.ensures.refused

pub returns-in_err-carry_on-clause-closes : goal.returns-in_err-carry_on-clause-closes
returns-in_err-carry_on-clause-closes g c =
    let t = g.T.Turns in
    let r = err_from_is_err_and c.from_residual-in_err-carry_on.result c.from_residual-in_err-carry_on.ensures.1 in
    rw (r.1, r.2) (c.in_err-carry_on.ensures.left.0, operates_then (t.who c.args.turns.now) (t.who c.begin.new.turns) (t.seen c.args.turns.now) (t.seen c.begin.new.turns) (t.seen c.carry_on.new.turns) c.in_ok-ticket.ensures.who c.in_ok-ticket.ensures.opens c.in_err-carry_on.ensures.left.1)

pub returns-in-SealDone-clause-closes : goal.returns-in-SealDone-clause-closes
returns-in-SealDone-clause-closes g c =
    let t = g.T.Turns in
    operates_then (t.who c.args.turns.now) (t.who c.begin.new.turns) (t.seen c.args.turns.now) (t.seen c.begin.new.turns) (t.seen c.carry_on.new.turns) c.in_ok-ticket.ensures.who c.in_ok-ticket.ensures.opens c.in_ok-carry_on.ensures.closes

pub returns-in-NoQuorum-clause-closes : goal.returns-in-NoQuorum-clause-closes
returns-in-NoQuorum-clause-closes g c =
    let t = g.T.Turns in
    operates_then (t.who c.args.turns.now) (t.who c.begin.new.turns) (t.seen c.args.turns.now) (t.seen c.begin.new.turns) (t.seen c.carry_on.new.turns) c.in_ok-ticket.ensures.who c.in_ok-ticket.ensures.opens c.in_ok-carry_on.ensures.closes

pub returns-in_err-ticket-clause-draws : goal.returns-in_err-ticket-clause-draws
returns-in_err-ticket-clause-draws g c = draws_any _ _ _ c.from_residual.result (none_drawn c.in_err-ticket.ensures.silent)

pub returns-in_err-carry_on-clause-draws : goal.returns-in_err-carry_on-clause-draws
returns-in_err-carry_on-clause-draws g c =
    let t = g.T.Turns in
    let r = err_from_is_err_and c.from_residual-in_err-carry_on.result c.from_residual-in_err-carry_on.ensures.1 in
    rw (r.1, r.2) (spares_then (t.who c.args.turns.now) (t.who c.begin.new.turns) (t.seen c.args.turns.now) (t.seen c.begin.new.turns) (t.seen c.carry_on.new.turns) c.in_ok-ticket.ensures.who (none_drawn c.in_ok-ticket.ensures.silent) c.in_err-carry_on.ensures.spares)

pub returns-in-SealDone-clause-draws : goal.returns-in-SealDone-clause-draws
returns-in-SealDone-clause-draws g c =
    let t = g.T.Turns in
    drawn_then (t.who c.args.turns.now) (t.who c.begin.new.turns) (t.seen c.args.turns.now) (t.seen c.begin.new.turns) (t.seen c.carry_on.new.turns) c.in_ok-ticket.ensures.who (none_drawn c.in_ok-ticket.ensures.silent) c.in_ok-carry_on.ensures.draws

pub returns-in-NoQuorum-clause-draws : goal.returns-in-NoQuorum-clause-draws
returns-in-NoQuorum-clause-draws g c =
    let t = g.T.Turns in
    drawn_then (t.who c.args.turns.now) (t.who c.begin.new.turns) (t.seen c.args.turns.now) (t.seen c.begin.new.turns) (t.seen c.carry_on.new.turns) c.in_ok-ticket.ensures.who (none_drawn c.in_ok-ticket.ensures.silent) c.in_ok-carry_on.ensures.draws
