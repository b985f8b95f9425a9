use Rattle.std.proofs.Common.{◌++◌, length, refl, subst}
use Rattle.loglet_api.specs.declared.call.Op.TheVariants.{Read}
use Rattle.loglet_api.specs.declared.call.Answer.{Answer}
use Rattle.loglet_api.specs.declared.call.Answer.TheVariants.{Got, CutAt}
use Rattle.legal_journal.specs.Told.{started}
use Rattle.legal_journal.specs.Journal.{state_of}
use Rattle.legal_journal.proofs.Legal.{sound}
use Rattle.legal_journal.proofs.Chains.{chain_ok}
use Rattle.virtual_log.specs.Turning.{Answered}
use Rattle.virtual_log.specs.declared.fault.Fault.TheVariants as fault
use Rattle.virtual_log.proofs.OneTurn.{own_by, lack_cause, cause_since}
use Rattle.virtual_log.proofs.Appending.{may_read, started_within}
use Rattle.virtual_log.proofs.Levels.{level_tail, silent_level}
use Rattle.virtual_log.proofs.Reading.{place_of, got_ok, cut_ok}
use Rattle.virtual_log.proofs.Holding.{got_held}
use Rattle.virtual_log.proofs.Saying.{none_drawn, drawn_then, draws_any, spares_then}
use Rattle.virtual_log.proofs.Sealing.{seals_then}
use Rattle.virtual_log.proofs.Calming.{calm_then}
use Rattle.virtual_log.proofs.Answering.{read_answers, never_beyond}
use Rattle.std.proofs.lemmas.Result.{err_from_is_err_and}
use Rattle.virtual_log.specs.Causes.{IsCalmAnswer, CalmSince}
use Rattle.virtual_log.proofs.Operating.{operates_then, closes_none}
use Rattle.virtual_log.proofs.calls.read_at.Goals as goal

pub locate-requires : goal.locate-requires
locate-requires g c =
    let p = g.T.Law.Rules in
    let t = g.T.Turns in
    let k = c.args.known.now in
    let old = t.seen c.args.turns.now in
    let ok = sound p.law old c.requires.legal in
    chain_ok (length p.law.shelf) (state_of old) k.version k.chain ok c.requires.goes_by.given

pub begin-requires-clause-may : goal.begin-requires-clause-may
begin-requires-clause-may g c =
    let p = g.T.Law.Rules in
    let t = g.T.Turns in
    let k = c.args.known.now in
    let old = t.seen c.args.turns.now in
    let ok = sound p.law old c.requires.legal in
    let id = c.in-Inside.id in
    let index = c.in-Inside.index in
    let place = place_of (length p.law.shelf) (state_of old) k.version c.args.pos id index k.chain ok c.requires.goes_by.given c.in-Inside.ensures in
    may_read p.law _ _ id index (started_within p.law old id place.segment.start c.requires.legal place.started)

pub carry_on-requires-clause-cell : goal.carry_on-requires-clause-cell
carry_on-requires-clause-cell g c =
    let p = g.T.Law.Rules in
    let t = g.T.Turns in
    let k = c.args.known.now in
    let old = t.seen c.args.turns.now in
    let ok = sound p.law old c.requires.legal in
    let id = c.in-Inside.id in
    let index = c.in-Inside.index in
    let place = place_of (length p.law.shelf) (state_of old) k.version c.args.pos id index k.chain ok c.requires.goes_by.given c.in-Inside.ensures in
    started_within p.law old id place.segment.start c.requires.legal place.started

pub returns-in-Got-clause-found : goal.returns-in-Got-clause-found
returns-in-Got-clause-found g c =
    let p = g.T.Law.Rules in
    let t = g.T.Turns in
    let k = c.args.known.now in
    let old = t.seen c.args.turns.now in
    let ok = sound p.law old c.requires.legal in
    let id = c.in-Inside.id in
    let index = c.in-Inside.index in
    let place = place_of (length p.law.shelf) (state_of old) k.version c.args.pos id index k.chain ok c.requires.goes_by.given c.in-Inside.ensures in
    let who = t.who c.args.turns.now in
    let mid = t.seen c.begin.new.turns in
    let new = t.seen c.carry_on.new.turns in
    let o = c.in_ok-ticket.ensures.ok in
    let r = started ((state_of (old ++ o.first.others)).cells id).told (Read index) in
    let x = subst (λ (a : Answer). Answered who mid id c.in_ok-ticket.ticket r a new) c.in-Got.is
    (subst (λ w. Answered w mid id c.in_ok-ticket.ticket r c.in_ok-entry.field-0 new) c.in_ok-ticket.ensures.who (c.in_ok-entry.ensures.ok r (own_by _ _ _ _ _ c.in_ok-ticket.ensures.who o.own))) in
    got_ok p.law who old mid new k.version k.tail c.args.pos id index c.in_ok-ticket.ticket k.chain c.in-Got.entry c.requires.legal c.requires.goes_by c.requires.tail place c.in_ok-ticket.ensures.later c.in_ok-entry.ensures.later o x

pub returns-in-Got-clause-held : goal.returns-in-Got-clause-held
returns-in-Got-clause-held g c =
    let p = g.T.Law.Rules in
    let t = g.T.Turns in
    let k = c.args.known.now in
    let old = t.seen c.args.turns.now in
    let ok = sound p.law old c.requires.legal in
    let id = c.in-Inside.id in
    let index = c.in-Inside.index in
    let place = place_of (length p.law.shelf) (state_of old) k.version c.args.pos id index k.chain ok c.requires.goes_by.given c.in-Inside.ensures in
    let who = t.who c.args.turns.now in
    let mid = t.seen c.begin.new.turns in
    let new = t.seen c.carry_on.new.turns in
    let o = c.in_ok-ticket.ensures.ok in
    let r = started ((state_of (old ++ o.first.others)).cells id).told (Read index) in
    let x = subst (λ (a : Answer). Answered who mid id c.in_ok-ticket.ticket r a new) c.in-Got.is
    (subst (λ w. Answered w mid id c.in_ok-ticket.ticket r c.in_ok-entry.field-0 new) c.in_ok-ticket.ensures.who (c.in_ok-entry.ensures.ok r (own_by _ _ _ _ _ c.in_ok-ticket.ensures.who o.own))) in
    got_held p.law who old mid new k.version k.tail c.args.pos id index c.in_ok-ticket.ticket k.chain c.in-Got.entry c.requires.legal c.requires.goes_by c.requires.tail place c.in_ok-ticket.ensures.later c.in_ok-entry.ensures.later o x

pub returns-in-Got-clause-quiet : goal.returns-in-Got-clause-quiet
returns-in-Got-clause-quiet g c = λ alone.
    let p = g.T.Law.Rules in
    let t = g.T.Turns in
    let old = t.seen c.args.turns.now in
    let id = c.in-Inside.id in
    let index = c.in-Inside.index in
    let who = t.who c.args.turns.now in
    let mid = t.seen c.begin.new.turns in
    let new = t.seen c.carry_on.new.turns in
    let o = c.in_ok-ticket.ensures.ok in
    let r = started ((state_of (old ++ o.first.others)).cells id).told (Read index) in
    let x = subst (λ (a : Answer). Answered who mid id c.in_ok-ticket.ticket r a new) c.in-Got.is
    (subst (λ w. Answered w mid id c.in_ok-ticket.ticket r c.in_ok-entry.field-0 new) c.in_ok-ticket.ensures.who (c.in_ok-entry.ensures.ok r (own_by _ _ _ _ _ c.in_ok-ticket.ensures.who o.own))) in
    level_tail (state_of old) (state_of new) (silent_level p.law who old mid new id c.in_ok-ticket.ticket (Read index) r (Got c.in-Got.entry) refl c.in_ok-ticket.ensures.later c.in_ok-entry.ensures.later o x alone)

pub returns-in-CutAt-clause-cut : goal.returns-in-CutAt-clause-cut
returns-in-CutAt-clause-cut g c =
    let p = g.T.Law.Rules in
    let t = g.T.Turns in
    let k = c.args.known.now in
    let old = t.seen c.args.turns.now in
    let ok = sound p.law old c.requires.legal in
    let id = c.in-Inside.id in
    let index = c.in-Inside.index in
    let place = place_of (length p.law.shelf) (state_of old) k.version c.args.pos id index k.chain ok c.requires.goes_by.given c.in-Inside.ensures in
    let who = t.who c.args.turns.now in
    let mid = t.seen c.begin.new.turns in
    let new = t.seen c.carry_on.new.turns in
    let o = c.in_ok-ticket.ensures.ok in
    let r = started ((state_of (old ++ o.first.others)).cells id).told (Read index) in
    let x = subst (λ (a : Answer). Answered who mid id c.in_ok-ticket.ticket r a new) c.in-CutAt.is
    (subst (λ w. Answered w mid id c.in_ok-ticket.ticket r c.in_ok-entry.field-0 new) c.in_ok-ticket.ensures.who (c.in_ok-entry.ensures.ok r (own_by _ _ _ _ _ c.in_ok-ticket.ensures.who o.own))) in
    cut_ok p.law who old mid new c.args.pos id index c.in_ok-ticket.ticket c.in-CutAt.field-0 k.chain c.requires.legal place c.in_ok-ticket.ensures.later c.in_ok-entry.ensures.later o x

pub returns-in-CutAt-clause-quiet : goal.returns-in-CutAt-clause-quiet
returns-in-CutAt-clause-quiet g c = λ alone.
    let p = g.T.Law.Rules in
    let t = g.T.Turns in
    let old = t.seen c.args.turns.now in
    let id = c.in-Inside.id in
    let index = c.in-Inside.index in
    let who = t.who c.args.turns.now in
    let mid = t.seen c.begin.new.turns in
    let new = t.seen c.carry_on.new.turns in
    let o = c.in_ok-ticket.ensures.ok in
    let r = started ((state_of (old ++ o.first.others)).cells id).told (Read index) in
    let x = subst (λ (a : Answer). Answered who mid id c.in_ok-ticket.ticket r a new) c.in-CutAt.is
    (subst (λ w. Answered w mid id c.in_ok-ticket.ticket r c.in_ok-entry.field-0 new) c.in_ok-ticket.ensures.who (c.in_ok-entry.ensures.ok r (own_by _ _ _ _ _ c.in_ok-ticket.ensures.who o.own))) in
    level_tail (state_of old) (state_of new) (silent_level p.law who old mid new id c.in_ok-ticket.ticket (Read index) r (CutAt c.in-CutAt.field-0) refl c.in_ok-ticket.ensures.later c.in_ok-entry.ensures.later o x alone)

pub returns-in-NoQuorum-clause-err : goal.returns-in-NoQuorum-clause-err
returns-in-NoQuorum-clause-err g c =
    let p = g.T.Law.Rules in
    let t = g.T.Turns in
    let k = c.args.known.now in
    let old = t.seen c.args.turns.now in
    let ok = sound p.law old c.requires.legal in
    let id = c.in-Inside.id in
    let index = c.in-Inside.index in
    let place = place_of (length p.law.shelf) (state_of old) k.version c.args.pos id index k.chain ok c.requires.goes_by.given c.in-Inside.ensures in
    let who = t.who c.args.turns.now in
    let mid = t.seen c.begin.new.turns in
    let new = t.seen c.carry_on.new.turns in
    let o = c.in_ok-ticket.ensures.ok in
    let r = started ((state_of (old ++ o.first.others)).cells id).told (Read index) in
    let x = subst (λ (a : Answer). Answered who mid id c.in_ok-ticket.ticket r a new) c.in-NoQuorum.is
    (subst (λ w. Answered w mid id c.in_ok-ticket.ticket r c.in_ok-entry.field-0 new) c.in_ok-ticket.ensures.who (c.in_ok-entry.ensures.ok r (own_by _ _ _ _ _ c.in_ok-ticket.ensures.who o.own))) in
    cause_since who (fault.NoQuorum id c.in-NoQuorum.unreached) old mid new c.in_ok-ticket.ensures.later.more c.in_ok-ticket.ensures.later.seen
    (lack_cause who id c.in_ok-ticket.ticket c.in-NoQuorum.unreached mid new x.event)

pub returns-in_err-ticket-clause-unsealed : goal.returns-in_err-ticket-clause-unsealed
returns-in_err-ticket-clause-unsealed g c = (c.in_err-ticket.ensures.unsealed refl)

pub returns-in_err-ticket-clause-memory : goal.returns-in_err-ticket-clause-memory
returns-in_err-ticket-clause-memory g c =
    let r = err_from_is_err_and c.from_residual.result c.from_residual.ensures.1 in
    rw (r.1, r.2) (λ is. (c.in_err-ticket.ensures.memory is))

pub returns-in_err-entry-clause-unsealed : goal.returns-in_err-entry-clause-unsealed
returns-in_err-entry-clause-unsealed g c =
    let t = g.T.Turns in
    seals_then (t.who c.args.turns.now) (t.who c.begin.new.turns) (t.seen c.args.turns.now) (t.seen c.begin.new.turns) (t.seen c.carry_on.new.turns) c.in_ok-ticket.ensures.who (c.in_ok-ticket.ensures.unsealed refl) c.in_err-entry.ensures.unsealed

pub returns-in_err-entry-clause-memory : goal.returns-in_err-entry-clause-memory
returns-in_err-entry-clause-memory g c =
    let t = g.T.Turns in
    let r = err_from_is_err_and c.from_residual-in_err-entry.result c.from_residual-in_err-entry.ensures.1 in
    rw (r.1, r.2) (λ _. calm_then (t.who c.args.turns.now) (t.who c.begin.new.turns) (t.seen c.args.turns.now) (t.seen c.begin.new.turns) (t.seen c.carry_on.new.turns) c.in_ok-ticket.ensures.who c.in_ok-ticket.ensures.calm c.in_err-entry.ensures.memory)

pub returns-in-Got-clause-unsealed : goal.returns-in-Got-clause-unsealed
returns-in-Got-clause-unsealed g c =
    let t = g.T.Turns in
    seals_then (t.who c.args.turns.now) (t.who c.begin.new.turns) (t.seen c.args.turns.now) (t.seen c.begin.new.turns) (t.seen c.carry_on.new.turns) c.in_ok-ticket.ensures.who (c.in_ok-ticket.ensures.unsealed refl) c.in_ok-entry.ensures.unsealed

pub returns-in-Got-clause-calm : goal.returns-in-Got-clause-calm
returns-in-Got-clause-calm g c =
    let t = g.T.Turns in
    calm_then (t.who c.args.turns.now) (t.who c.begin.new.turns) (t.seen c.args.turns.now) (t.seen c.begin.new.turns) (t.seen c.carry_on.new.turns) c.in_ok-ticket.ensures.who c.in_ok-ticket.ensures.calm (subst (λ a. IsCalmAnswer a → CalmSince (t.who c.begin.new.turns) (t.seen c.begin.new.turns) (t.seen c.carry_on.new.turns)) c.in-Got.is c.in_ok-entry.ensures.calm tt)

pub returns-in-CutAt-clause-unsealed : goal.returns-in-CutAt-clause-unsealed
returns-in-CutAt-clause-unsealed g c =
    let t = g.T.Turns in
    seals_then (t.who c.args.turns.now) (t.who c.begin.new.turns) (t.seen c.args.turns.now) (t.seen c.begin.new.turns) (t.seen c.carry_on.new.turns) c.in_ok-ticket.ensures.who (c.in_ok-ticket.ensures.unsealed refl) c.in_ok-entry.ensures.unsealed

pub returns-in-CutAt-clause-calm : goal.returns-in-CutAt-clause-calm
returns-in-CutAt-clause-calm g c =
    let t = g.T.Turns in
    calm_then (t.who c.args.turns.now) (t.who c.begin.new.turns) (t.seen c.args.turns.now) (t.seen c.begin.new.turns) (t.seen c.carry_on.new.turns) c.in_ok-ticket.ensures.who c.in_ok-ticket.ensures.calm (subst (λ a. IsCalmAnswer a → CalmSince (t.who c.begin.new.turns) (t.seen c.begin.new.turns) (t.seen c.carry_on.new.turns)) c.in-CutAt.is c.in_ok-entry.ensures.calm tt)

pub returns-in-NoQuorum-clause-unsealed : goal.returns-in-NoQuorum-clause-unsealed
returns-in-NoQuorum-clause-unsealed g c =
    let t = g.T.Turns in
    seals_then (t.who c.args.turns.now) (t.who c.begin.new.turns) (t.seen c.args.turns.now) (t.seen c.begin.new.turns) (t.seen c.carry_on.new.turns) c.in_ok-ticket.ensures.who (c.in_ok-ticket.ensures.unsealed refl) c.in_ok-entry.ensures.unsealed

pub unreachable-requires-in_default-2 : goal.unreachable-requires-in_default-2
unreachable-requires-in_default-2 g c =
    let p = g.T.Law.Rules in
    let t = g.T.Turns in
    let k = c.args.known.now in
    let old = t.seen c.args.turns.now in
    let ok = sound p.law old c.requires.legal in
    let id = c.in-Inside.id in
    let index = c.in-Inside.index in
    let place = place_of (length p.law.shelf) (state_of old) k.version c.args.pos id index k.chain ok c.requires.goes_by.given c.in-Inside.ensures in
    let who = t.who c.args.turns.now in
    let mid = t.seen c.begin.new.turns in
    let new = t.seen c.carry_on.new.turns in
    let o = c.in_ok-ticket.ensures.ok in
    let r = started ((state_of (old ++ o.first.others)).cells id).told (Read index) in
    let x = subst (λ w. Answered w mid id c.in_ok-ticket.ticket r c.in_ok-entry.field-0 new) c.in_ok-ticket.ensures.who (c.in_ok-entry.ensures.ok r (own_by _ _ _ _ _ c.in_ok-ticket.ensures.who o.own)) in
    read_answers ((state_of x.moment).cells id).told r index c.in_ok-entry.field-0 x.may c.in_default-2.not-Got c.in_default-2.not-CutAt c.in_default-2.not-NoQuorum
    (λ n is. never_beyond p.law who old mid new k.version k.tail c.args.pos id index c.in_ok-ticket.ticket n k.chain c.requires.legal c.requires.goes_by c.requires.tail place c.in_ok-ticket.ensures.later c.in_ok-entry.ensures.later o
    (subst (λ (a : Answer). Answered who mid id c.in_ok-ticket.ticket r a new) is x))

pub returns-in_err-ticket-clause-closes : goal.returns-in_err-ticket-clause-closes
returns-in_err-ticket-clause-closes g c = closes_none _ _ _ c.from_residual.result c.in_err-ticket.ensures.refused

pub returns-in_err-entry-clause-closes : goal.returns-in_err-entry-clause-closes
returns-in_err-entry-clause-closes g c =
    let t = g.T.Turns in
    let r = err_from_is_err_and c.from_residual-in_err-entry.result c.from_residual-in_err-entry.ensures.1 in
    rw (r.1, r.2) (c.in_err-entry.ensures.left.0, operates_then (t.who c.args.turns.now) (t.who c.begin.new.turns) (t.seen c.args.turns.now) (t.seen c.begin.new.turns) (t.seen c.carry_on.new.turns) c.in_ok-ticket.ensures.who c.in_ok-ticket.ensures.opens c.in_err-entry.ensures.left.1)

pub returns-in-Got-clause-closes : goal.returns-in-Got-clause-closes
returns-in-Got-clause-closes g c =
    let t = g.T.Turns in
    operates_then (t.who c.args.turns.now) (t.who c.begin.new.turns) (t.seen c.args.turns.now) (t.seen c.begin.new.turns) (t.seen c.carry_on.new.turns) c.in_ok-ticket.ensures.who c.in_ok-ticket.ensures.opens c.in_ok-entry.ensures.closes

pub returns-in-CutAt-clause-closes : goal.returns-in-CutAt-clause-closes
returns-in-CutAt-clause-closes g c =
    let t = g.T.Turns in
    operates_then (t.who c.args.turns.now) (t.who c.begin.new.turns) (t.seen c.args.turns.now) (t.seen c.begin.new.turns) (t.seen c.carry_on.new.turns) c.in_ok-ticket.ensures.who c.in_ok-ticket.ensures.opens c.in_ok-entry.ensures.closes

pub returns-in-NoQuorum-clause-closes : goal.returns-in-NoQuorum-clause-closes
returns-in-NoQuorum-clause-closes g c =
    let t = g.T.Turns in
    operates_then (t.who c.args.turns.now) (t.who c.begin.new.turns) (t.seen c.args.turns.now) (t.seen c.begin.new.turns) (t.seen c.carry_on.new.turns) c.in_ok-ticket.ensures.who c.in_ok-ticket.ensures.opens c.in_ok-entry.ensures.closes

pub returns-in_err-ticket-clause-draws : goal.returns-in_err-ticket-clause-draws
returns-in_err-ticket-clause-draws g c = draws_any _ _ _ c.from_residual.result (none_drawn c.in_err-ticket.ensures.silent)

pub returns-in_err-entry-clause-draws : goal.returns-in_err-entry-clause-draws
returns-in_err-entry-clause-draws g c =
    let t = g.T.Turns in
    let r = err_from_is_err_and c.from_residual-in_err-entry.result c.from_residual-in_err-entry.ensures.1 in
    rw (r.1, r.2) (spares_then (t.who c.args.turns.now) (t.who c.begin.new.turns) (t.seen c.args.turns.now) (t.seen c.begin.new.turns) (t.seen c.carry_on.new.turns) c.in_ok-ticket.ensures.who (none_drawn c.in_ok-ticket.ensures.silent) c.in_err-entry.ensures.spares)

pub returns-in-Got-clause-draws : goal.returns-in-Got-clause-draws
returns-in-Got-clause-draws g c =
    let t = g.T.Turns in
    drawn_then (t.who c.args.turns.now) (t.who c.begin.new.turns) (t.seen c.args.turns.now) (t.seen c.begin.new.turns) (t.seen c.carry_on.new.turns) c.in_ok-ticket.ensures.who (none_drawn c.in_ok-ticket.ensures.silent) c.in_ok-entry.ensures.draws

pub returns-in-CutAt-clause-draws : goal.returns-in-CutAt-clause-draws
returns-in-CutAt-clause-draws g c =
    let t = g.T.Turns in
    drawn_then (t.who c.args.turns.now) (t.who c.begin.new.turns) (t.seen c.args.turns.now) (t.seen c.begin.new.turns) (t.seen c.carry_on.new.turns) c.in_ok-ticket.ensures.who (none_drawn c.in_ok-ticket.ensures.silent) c.in_ok-entry.ensures.draws

pub returns-in-NoQuorum-clause-draws : goal.returns-in-NoQuorum-clause-draws
returns-in-NoQuorum-clause-draws g c =
    let t = g.T.Turns in
    drawn_then (t.who c.args.turns.now) (t.who c.begin.new.turns) (t.seen c.args.turns.now) (t.seen c.begin.new.turns) (t.seen c.carry_on.new.turns) c.in_ok-ticket.ensures.who (none_drawn c.in_ok-ticket.ensures.silent) c.in_ok-entry.ensures.draws
