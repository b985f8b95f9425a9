use Rattle.std.proofs.Common.{◌++◌, refl, subst, arith}
use Rattle.loglet_api.specs.declared.call.Op.TheVariants.{Trim}
use Rattle.loglet_api.specs.declared.call.Answer.{Answer}
use Rattle.legal_journal.specs.Told.{started}
use Rattle.legal_journal.specs.Journal.{state_of}
use Rattle.virtual_log.specs.Turning.{Answered}
use Rattle.virtual_log.specs.declared.fault.Fault.TheVariants as fault
use Rattle.virtual_log.proofs.OneTurn.{own_by, lack_cause, cause_since}
use Rattle.virtual_log.proofs.Appending.{started_within}
use Rattle.virtual_log.proofs.Trimming.{may_trim, trim_event}
use Rattle.virtual_log.proofs.Saying.{drawn_refl, none_drawn, drawn_then, draws_any, spares_then}
use Rattle.virtual_log.proofs.Sealing.{seals_refl, seals_then}
use Rattle.virtual_log.proofs.Calming.{calm_refl, calm_then}
use Rattle.virtual_log.proofs.Answering.{trim_answers}
use Rattle.std.proofs.lemmas.Result.{err_from_is_err_and}
use Rattle.virtual_log.specs.Causes.{IsCalmAnswer, CalmSince}
use Rattle.virtual_log.proofs.Operating.{operates_refl, operates_then, closes_none}
use Rattle.virtual_log.proofs.truncate.trim_segment.Goals as goal

pub begin-requires-clause-may : goal.begin-requires-clause-may
begin-requires-clause-may g c =
    let p = g.T.Law.Rules in
    may_trim p.law (g.T.Turns.who c.args.turns.now) (g.T.Turns.seen c.args.turns.now) c.args.segment c.args.n c.length_below-length.result c.requires.legal c.requires.started (omega (arith, c.if-segment-n.false)) c.requires.trim c.length_below-length.ensures

pub carry_on-requires-clause-cell : goal.carry_on-requires-clause-cell
carry_on-requires-clause-cell g c =
    let p = g.T.Law.Rules in
    started_within p.law (g.T.Turns.seen c.args.turns.now) c.args.segment.id c.args.segment.start c.requires.legal c.requires.started

pub returns-in-TrimDone-clause-trimmed : goal.returns-in-TrimDone-clause-trimmed
returns-in-TrimDone-clause-trimmed g c = λ _.
    let t = g.T.Turns in
    let who = t.who c.args.turns.now in
    let old = t.seen c.args.turns.now in
    let mid = t.seen c.begin.new.turns in
    let new = t.seen c.carry_on.new.turns in
    let s = c.args.segment in
    let ticket = c.in_ok-ticket.ticket in
    let o = c.in_ok-ticket.ensures.ok in
    let r = started ((state_of (old ++ o.first.others)).cells s.id).told (Trim c.length_below-length.result) in
    let x = subst (λ (a : Answer). Answered who mid s.id ticket r a new) c.in-TrimDone.is
    (subst (λ k. Answered k mid s.id ticket r c.in_ok-carry_on.field-0 new) c.in_ok-ticket.ensures.who (c.in_ok-carry_on.ensures.ok r (own_by _ _ _ _ _ c.in_ok-ticket.ensures.who o.own))) in
    record {
      ticket = ticket;
      asked = mid;
      begun = trim_event who old mid s c.args.n c.length_below-length.result ticket c.length_below-length.ensures o;
      answered = x.event;
    }

pub returns-in-NoQuorum-clause-err : goal.returns-in-NoQuorum-clause-err
returns-in-NoQuorum-clause-err g c =
    let t = g.T.Turns in
    let who = t.who c.args.turns.now in
    let mid = t.seen c.begin.new.turns in
    let new = t.seen c.carry_on.new.turns in
    let o = c.in_ok-ticket.ensures.ok in
    let r = started ((state_of (t.seen c.args.turns.now ++ o.first.others)).cells c.args.segment.id).told (Trim c.length_below-length.result) in
    let x = subst (λ (a : Answer). Answered who mid c.args.segment.id c.in_ok-ticket.ticket r a new) c.in-NoQuorum.is
    (subst (λ k. Answered k mid c.args.segment.id c.in_ok-ticket.ticket r c.in_ok-carry_on.field-0 new) c.in_ok-ticket.ensures.who (c.in_ok-carry_on.ensures.ok r (own_by _ _ _ _ _ c.in_ok-ticket.ensures.who o.own))) in
    cause_since who (fault.NoQuorum c.args.segment.id c.in-NoQuorum.unreached) (t.seen c.args.turns.now) mid new c.in_ok-ticket.ensures.later.more c.in_ok-ticket.ensures.later.seen
    (lack_cause who c.args.segment.id c.in_ok-ticket.ticket c.in-NoQuorum.unreached mid new x.event)

pub returns-then-segment-n-clause-unsealed : goal.returns-then-segment-n-clause-unsealed
returns-then-segment-n-clause-unsealed g c =
    let t = g.T.Turns in
    seals_refl (t.who c.args.turns.now) (t.seen c.args.turns.now)

pub returns-then-segment-n-clause-calm : goal.returns-then-segment-n-clause-calm
returns-then-segment-n-clause-calm g c =
    let t = g.T.Turns in
    calm_refl (t.who c.args.turns.now) (t.seen c.args.turns.now)

pub returns-in_err-ticket-clause-unsealed : goal.returns-in_err-ticket-clause-unsealed
returns-in_err-ticket-clause-unsealed g c = (c.in_err-ticket.ensures.unsealed refl)

pub returns-in_err-ticket-clause-memory : goal.returns-in_err-ticket-clause-memory
returns-in_err-ticket-clause-memory g c =
    let r = err_from_is_err_and c.from_residual.result c.from_residual.ensures.1 in
    rw (r.1, r.2) (λ is. (c.in_err-ticket.ensures.memory is))

pub returns-in_err-carry_on-clause-unsealed : goal.returns-in_err-carry_on-clause-unsealed
returns-in_err-carry_on-clause-unsealed g c =
    let t = g.T.Turns in
    seals_then (t.who c.args.turns.now) (t.who c.begin.new.turns) (t.seen c.args.turns.now) (t.seen c.begin.new.turns) (t.seen c.carry_on.new.turns) c.in_ok-ticket.ensures.who (c.in_ok-ticket.ensures.unsealed refl) c.in_err-carry_on.ensures.unsealed

pub returns-in_err-carry_on-clause-memory : goal.returns-in_err-carry_on-clause-memory
returns-in_err-carry_on-clause-memory g c =
    let t = g.T.Turns in
    let r = err_from_is_err_and c.from_residual-in_err-carry_on.result c.from_residual-in_err-carry_on.ensures.1 in
    rw (r.1, r.2) (λ _. calm_then (t.who c.args.turns.now) (t.who c.begin.new.turns) (t.seen c.args.turns.now) (t.seen c.begin.new.turns) (t.seen c.carry_on.new.turns) c.in_ok-ticket.ensures.who c.in_ok-ticket.ensures.calm c.in_err-carry_on.ensures.memory)

pub returns-in-TrimDone-clause-unsealed : goal.returns-in-TrimDone-clause-unsealed
returns-in-TrimDone-clause-unsealed g c =
    let t = g.T.Turns in
    seals_then (t.who c.args.turns.now) (t.who c.begin.new.turns) (t.seen c.args.turns.now) (t.seen c.begin.new.turns) (t.seen c.carry_on.new.turns) c.in_ok-ticket.ensures.who (c.in_ok-ticket.ensures.unsealed refl) c.in_ok-carry_on.ensures.unsealed

pub returns-in-TrimDone-clause-calm : goal.returns-in-TrimDone-clause-calm
returns-in-TrimDone-clause-calm g c =
    let t = g.T.Turns in
    calm_then (t.who c.args.turns.now) (t.who c.begin.new.turns) (t.seen c.args.turns.now) (t.seen c.begin.new.turns) (t.seen c.carry_on.new.turns) c.in_ok-ticket.ensures.who c.in_ok-ticket.ensures.calm (subst (λ a. IsCalmAnswer a → CalmSince (t.who c.begin.new.turns) (t.seen c.begin.new.turns) (t.seen c.carry_on.new.turns)) c.in-TrimDone.is c.in_ok-carry_on.ensures.calm tt)

pub returns-in-NoQuorum-clause-unsealed : goal.returns-in-NoQuorum-clause-unsealed
returns-in-NoQuorum-clause-unsealed g c =
    let t = g.T.Turns in
    seals_then (t.who c.args.turns.now) (t.who c.begin.new.turns) (t.seen c.args.turns.now) (t.seen c.begin.new.turns) (t.seen c.carry_on.new.turns) c.in_ok-ticket.ensures.who (c.in_ok-ticket.ensures.unsealed refl) c.in_ok-carry_on.ensures.unsealed

pub unreachable-requires : goal.unreachable-requires
unreachable-requires g c =
    let t = g.T.Turns in
    let o = c.in_ok-ticket.ensures.ok in
    let r = started ((state_of (t.seen c.args.turns.now ++ o.first.others)).cells c.args.segment.id).told (Trim c.length_below-length.result) in
    let x = c.in_ok-carry_on.ensures.ok r (own_by _ _ _ _ _ c.in_ok-ticket.ensures.who o.own) in
    trim_answers ((state_of x.moment).cells c.args.segment.id).told r c.length_below-length.result c.in_ok-carry_on.field-0 x.may c.in_default.not-TrimDone c.in_default.not-NoQuorum

pub returns-then-segment-n-clause-closes : goal.returns-then-segment-n-clause-closes
returns-then-segment-n-clause-closes g c = operates_refl _ _ _

pub returns-in_err-ticket-clause-closes : goal.returns-in_err-ticket-clause-closes
returns-in_err-ticket-clause-closes g c = closes_none _ _ _ c.from_residual.result c.in_err-ticket.ensures.refused

pub returns-in_err-carry_on-clause-closes : goal.returns-in_err-carry_on-clause-closes
returns-in_err-carry_on-clause-closes g c =
    let t = g.T.Turns in
    let r = err_from_is_err_and c.from_residual-in_err-carry_on.result c.from_residual-in_err-carry_on.ensures.1 in
    rw (r.1, r.2) (c.in_err-carry_on.ensures.left.0, operates_then (t.who c.args.turns.now) (t.who c.begin.new.turns) (t.seen c.args.turns.now) (t.seen c.begin.new.turns) (t.seen c.carry_on.new.turns) c.in_ok-ticket.ensures.who c.in_ok-ticket.ensures.opens c.in_err-carry_on.ensures.left.1)

pub returns-in-TrimDone-clause-closes : goal.returns-in-TrimDone-clause-closes
returns-in-TrimDone-clause-closes g c =
    let t = g.T.Turns in
    operates_then (t.who c.args.turns.now) (t.who c.begin.new.turns) (t.seen c.args.turns.now) (t.seen c.begin.new.turns) (t.seen c.carry_on.new.turns) c.in_ok-ticket.ensures.who c.in_ok-ticket.ensures.opens c.in_ok-carry_on.ensures.closes

pub returns-in-NoQuorum-clause-closes : goal.returns-in-NoQuorum-clause-closes
returns-in-NoQuorum-clause-closes g c =
    let t = g.T.Turns in
    operates_then (t.who c.args.turns.now) (t.who c.begin.new.turns) (t.seen c.args.turns.now) (t.seen c.begin.new.turns) (t.seen c.carry_on.new.turns) c.in_ok-ticket.ensures.who c.in_ok-ticket.ensures.opens c.in_ok-carry_on.ensures.closes

pub returns-then-segment-n-clause-draws : goal.returns-then-segment-n-clause-draws
returns-then-segment-n-clause-draws g c = drawn_refl _ _

pub returns-in_err-ticket-clause-draws : goal.returns-in_err-ticket-clause-draws
returns-in_err-ticket-clause-draws g c = draws_any _ _ _ c.from_residual.result (none_drawn c.in_err-ticket.ensures.silent)

pub returns-in_err-carry_on-clause-draws : goal.returns-in_err-carry_on-clause-draws
returns-in_err-carry_on-clause-draws g c =
    let t = g.T.Turns in
    let r = err_from_is_err_and c.from_residual-in_err-carry_on.result c.from_residual-in_err-carry_on.ensures.1 in
    rw (r.1, r.2) (spares_then (t.who c.args.turns.now) (t.who c.begin.new.turns) (t.seen c.args.turns.now) (t.seen c.begin.new.turns) (t.seen c.carry_on.new.turns) c.in_ok-ticket.ensures.who (none_drawn c.in_ok-ticket.ensures.silent) c.in_err-carry_on.ensures.spares)

pub returns-in-TrimDone-clause-draws : goal.returns-in-TrimDone-clause-draws
returns-in-TrimDone-clause-draws g c =
    let t = g.T.Turns in
    drawn_then (t.who c.args.turns.now) (t.who c.begin.new.turns) (t.seen c.args.turns.now) (t.seen c.begin.new.turns) (t.seen c.carry_on.new.turns) c.in_ok-ticket.ensures.who (none_drawn c.in_ok-ticket.ensures.silent) c.in_ok-carry_on.ensures.draws

pub returns-in-NoQuorum-clause-draws : goal.returns-in-NoQuorum-clause-draws
returns-in-NoQuorum-clause-draws g c =
    let t = g.T.Turns in
    drawn_then (t.who c.args.turns.now) (t.who c.begin.new.turns) (t.seen c.args.turns.now) (t.seen c.begin.new.turns) (t.seen c.carry_on.new.turns) c.in_ok-ticket.ensures.who (none_drawn c.in_ok-ticket.ensures.silent) c.in_ok-carry_on.ensures.draws
