use Rattle.std.proofs.Common.{◌++◌, refl, sym, subst, arith}
use Rattle.legal_journal.specs.declared.events.FabricAnswer.TheVariants as fabric
use Rattle.loglet_api.specs.declared.call.Answer.{Answer}
use Rattle.legal_journal.specs.declared.events.FabricCall.TheVariants.{Carry, Forget}
use Rattle.legal_journal.specs.Turns.{IsTurn}
use Rattle.virtual_log.specs.Underway.{IsDropping}
use Rattle.virtual_log.specs.declared.underway.Step.TheVariants.{Appending}
use Rattle.virtual_log.proofs.OneTurn.{may_carry, done_ok}
use Rattle.virtual_log.proofs.Appending.{started_within}
use Rattle.virtual_log.proofs.Answering.{carry_answers, append_answers}
use Rattle.virtual_log.proofs.Sparing.{turn_dropping}
use Rattle.virtual_log.proofs.Stepping.{at_step, went_by, went_still, going_by, last_starts, appending_last, dropping_of, append_going, append_sealed, placing, append_placed, lacked, gave_up}
use Rattle.virtual_log.proofs.Saying.{spares_on, turn_draws, turn_silent, turn_spares}
use Rattle.virtual_log.proofs.underway.carry_append.Goals as goal

pub carry-requires : goal.carry-requires
carry-requires g c =
    let p = g.T.Law.Rules in
    let t = g.T.Turns in
    let who = t.who c.args.turns.now in
    let old = t.seen c.args.turns.now in
    let k = c.args.known.now in
    let s = c.args.segment in
    let going = c.args.going.now in
    let x = going_by going (Appending s c.args.ticket) c.requires.step c.requires.going.1 in
    record {
      may = λ word. may_carry p.law who old old s.id c.args.ticket word _
          (started_within p.law old s.id s.start c.requires.legal (last_starts p.law old s c.requires.legal (appending_last p.law who (c.requires.going.0 ++ x.first.others) old going.entry s c.args.ticket c.requires.legal x.at)))
          c.requires.legal x.at.own;
    }

pub returns-in-Going-clause-went : goal.returns-in-Going-clause-went
returns-in-Going-clause-went g c =
    let p = g.T.Law.Rules in
    let t = g.T.Turns in
    let who = t.who c.args.turns.now in
    let old = t.seen c.args.turns.now in
    let k = c.args.known.now in
    let s = c.args.segment in
    let going = c.args.going.now in
    let x = going_by going (Appending s c.args.ticket) c.requires.step c.requires.going.1 in
    went_still going (Appending s c.args.ticket) c.requires.step
    (append_going p.law who old k c.requires.legal c.requires.goes_by
    s c.args.ticket c.in-Going.ensures.turn.0 going.entry (t.seen c.carry.new.turns) c.in-Going.ensures.turn.3)

pub returns-in-NoQuorum-clause-went : goal.returns-in-NoQuorum-clause-went
returns-in-NoQuorum-clause-went g c =
    let p = g.T.Law.Rules in
    let t = g.T.Turns in
    let who = t.who c.args.turns.now in
    let old = t.seen c.args.turns.now in
    let k = c.args.known.now in
    let s = c.args.segment in
    let going = c.args.going.now in
    let x = going_by going (Appending s c.args.ticket) c.requires.step c.requires.going.1 in
    let new = t.seen c.carry.new.turns in
    let turn = subst (λ (a : Answer). IsTurn p.law who old (Carry s.id c.args.ticket c.in-Done.ensures.turn.0) (fabric.Done a) new) c.in-NoQuorum.is c.in-Done.ensures.turn.3 in
    went_still going (Appending s c.args.ticket) c.requires.step
    (lacked p.law who old k c.requires.legal c.requires.goes_by
    s.id c.args.ticket c.in-Done.ensures.turn.0 c.in-NoQuorum.unreached new (at_step going.entry (Appending s c.args.ticket)) _ turn x.at.own (refl, refl))

pub forget-going-requires-clause-dropping : goal.forget-going-requires-clause-dropping
forget-going-requires-clause-dropping g c =
    let p = g.T.Law.Rules in
    let t = g.T.Turns in
    let who = t.who c.args.turns.now in
    let old = t.seen c.args.turns.now in
    let k = c.args.known.now in
    let s = c.args.segment in
    let going = c.args.going.now in
    let x = going_by going (Appending s c.args.ticket) c.requires.step c.requires.going.1 in
    let mid = t.seen c.carry.new.turns in
    let drop = dropping_of p.law who old s c.args.ticket _ c.requires.legal (appending_last p.law who (c.requires.going.0 ++ x.first.others) old going.entry s c.args.ticket c.requires.legal x.at) x.at.own in
    subst (λ w. IsDropping w mid s.id c.args.ticket) (sym c.carry.ensures.who) (turn_dropping p.law who old _ _ mid c.in-Memory.ensures.turn.3 s.id c.args.ticket drop)

pub returns-in-Memory-clause-went : goal.returns-in-Memory-clause-went
returns-in-Memory-clause-went g c =
    let p = g.T.Law.Rules in
    let t = g.T.Turns in
    let who = t.who c.args.turns.now in
    let old = t.seen c.args.turns.now in
    let k = c.args.known.now in
    let s = c.args.segment in
    let going = c.args.going.now in
    let x = going_by going (Appending s c.args.ticket) c.requires.step c.requires.going.1 in
    let mid = t.seen c.carry.new.turns in
    let new = t.seen c.forget-going.new.turns in
    let drop = dropping_of p.law who old s c.args.ticket _ c.requires.legal (appending_last p.law who (c.requires.going.0 ++ x.first.others) old going.entry s c.args.ticket c.requires.legal x.at) x.at.own in
    let last = c.forget-going.ensures.turn in
    let turn = subst (λ w. IsTurn p.law w mid (Forget s.id c.args.ticket) last.0 new) c.carry.ensures.who last.2 in
    went_by going (Appending s c.args.ticket) c.requires.step
    (gave_up p.law who old k c.requires.legal c.requires.goes_by
    s.id c.args.ticket c.in-Memory.ensures.turn.0 mid new (at_step going.entry (Appending s c.args.ticket)) last.0 c.forget-going.result c.in-Memory.ensures.turn.3 drop (refl, refl) turn last.1)

pub unreachable-requires-in_default : goal.unreachable-requires-in_default
unreachable-requires-in_default g c =
    let p = g.T.Law.Rules in
    let t = g.T.Turns in
    let who = t.who c.args.turns.now in
    let old = t.seen c.args.turns.now in
    let k = c.args.known.now in
    let s = c.args.segment in
    let going = c.args.going.now in
    let x = going_by going (Appending s c.args.ticket) c.requires.step c.requires.going.1 in
    carry_answers p.law who old (t.seen c.carry.new.turns) s.id c.args.ticket _ _ _ c.requires.legal x.at.own c.carry.ensures.turn.3 c.in_default.not-Done c.in_default.not-Going c.in_default.not-Memory

pub overflow_add-position : goal.overflow_add-position
overflow_add-position g c =
    let p = g.T.Law.Rules in
    let t = g.T.Turns in
    let who = t.who c.args.turns.now in
    let old = t.seen c.args.turns.now in
    let k = c.args.known.now in
    let s = c.args.segment in
    let going = c.args.going.now in
    let x = going_by going (Appending s c.args.ticket) c.requires.step c.requires.going.1 in
    let new = t.seen c.carry.new.turns in
    let turn = subst (λ (a : Answer). IsTurn p.law who old (Carry s.id c.args.ticket c.in-Done.ensures.turn.0) (fabric.Done a) new) c.in-Placed.is c.in-Done.ensures.turn.3 in
    let z = placing p.law who old k c.requires.legal c.requires.goes_by s c.args.ticket c.in-Done.ensures.turn.0 c.in-Placed.place going.entry c.requires.going.0 new turn x in
    omega (arith, z.fits)

pub overflow_add-position-in-Placed : goal.overflow_add-position-in-Placed
overflow_add-position-in-Placed g c =
    let p = g.T.Law.Rules in
    let t = g.T.Turns in
    let who = t.who c.args.turns.now in
    let old = t.seen c.args.turns.now in
    let k = c.args.known.now in
    let s = c.args.segment in
    let going = c.args.going.now in
    let x = going_by going (Appending s c.args.ticket) c.requires.step c.requires.going.1 in
    let new = t.seen c.carry.new.turns in
    let turn = subst (λ (a : Answer). IsTurn p.law who old (Carry s.id c.args.ticket c.in-Done.ensures.turn.0) (fabric.Done a) new) c.in-Placed.is c.in-Done.ensures.turn.3 in
    let z = placing p.law who old k c.requires.legal c.requires.goes_by s c.args.ticket c.in-Done.ensures.turn.0 c.in-Placed.place going.entry c.requires.going.0 new turn x in
    omega (arith, z.fits)

pub returns-in-Placed-clause-went : goal.returns-in-Placed-clause-went
returns-in-Placed-clause-went g c =
    let p = g.T.Law.Rules in
    let t = g.T.Turns in
    let who = t.who c.args.turns.now in
    let old = t.seen c.args.turns.now in
    let k = c.args.known.now in
    let s = c.args.segment in
    let going = c.args.going.now in
    let x = going_by going (Appending s c.args.ticket) c.requires.step c.requires.going.1 in
    let new = t.seen c.carry.new.turns in
    let turn = subst (λ (a : Answer). IsTurn p.law who old (Carry s.id c.args.ticket c.in-Done.ensures.turn.0) (fabric.Done a) new) c.in-Placed.is c.in-Done.ensures.turn.3 in
    went_still going (Appending s c.args.ticket) c.requires.step
    (append_placed p.law who old k c.requires.legal c.requires.goes_by
    s c.args.ticket c.in-Done.ensures.turn.0 c.in-Placed.place c.max-known.result going.entry c.requires.going.0 new turn x c.max-known.ensures)

pub returns-in-Sealed-clause-went : goal.returns-in-Sealed-clause-went
returns-in-Sealed-clause-went g c =
    let p = g.T.Law.Rules in
    let t = g.T.Turns in
    let who = t.who c.args.turns.now in
    let old = t.seen c.args.turns.now in
    let k = c.args.known.now in
    let s = c.args.segment in
    let going = c.args.going.now in
    let x = going_by going (Appending s c.args.ticket) c.requires.step c.requires.going.1 in
    let new = t.seen c.carry.new.turns in
    let turn = subst (λ (a : Answer). IsTurn p.law who old (Carry s.id c.args.ticket c.in-Done.ensures.turn.0) (fabric.Done a) new) c.in-Sealed.is c.in-Done.ensures.turn.3 in
    went_by going (Appending s c.args.ticket) c.requires.step
    (append_sealed p.law who old k c.requires.legal c.requires.goes_by
    s c.args.ticket c.in-Done.ensures.turn.0 going.entry new turn)

pub unreachable-requires : goal.unreachable-requires
unreachable-requires g c =
    let p = g.T.Law.Rules in
    let t = g.T.Turns in
    let who = t.who c.args.turns.now in
    let old = t.seen c.args.turns.now in
    let k = c.args.known.now in
    let s = c.args.segment in
    let going = c.args.going.now in
    let x = going_by going (Appending s c.args.ticket) c.requires.step c.requires.going.1 in
    let done = done_ok p.law who old (t.seen c.carry.new.turns) s.id c.args.ticket _ _ c.in-Done.answer c.requires.legal c.in-Done.ensures.turn.3 x.at.own in
    append_answers _ _ going.entry _ done.may c.in_default-answer.not-Placed c.in_default-answer.not-Sealed c.in_default-answer.not-NoQuorum

pub returns-in-Going-clause-draws : goal.returns-in-Going-clause-draws
returns-in-Going-clause-draws g c = turn_draws _ _ _ _ _ _ _ _ c.in-Going.ensures.turn.3 c.in-Going.ensures.turn.3.event c.in-Going.ensures.turn.1 c.in-Going.ensures.turn.2

pub returns-in-NoQuorum-clause-draws : goal.returns-in-NoQuorum-clause-draws
returns-in-NoQuorum-clause-draws g c = turn_draws _ _ _ _ _ _ _ _ c.in-Done.ensures.turn.3 c.in-Done.ensures.turn.3.event c.in-Done.ensures.turn.1 c.in-Done.ensures.turn.2

pub returns-in-Placed-clause-draws : goal.returns-in-Placed-clause-draws
returns-in-Placed-clause-draws g c = turn_draws _ _ _ _ _ _ _ _ c.in-Done.ensures.turn.3 c.in-Done.ensures.turn.3.event c.in-Done.ensures.turn.1 c.in-Done.ensures.turn.2

pub returns-in-Sealed-clause-draws : goal.returns-in-Sealed-clause-draws
returns-in-Sealed-clause-draws g c = turn_draws _ _ _ _ _ _ _ _ c.in-Done.ensures.turn.3 c.in-Done.ensures.turn.3.event c.in-Done.ensures.turn.1 c.in-Done.ensures.turn.2

pub returns-in-Memory-clause-draws : goal.returns-in-Memory-clause-draws
returns-in-Memory-clause-draws g c =
    let t = g.T.Turns in
    let who = t.who c.args.turns.now in
    let old = t.seen c.args.turns.now in
    let mid = t.seen c.carry.new.turns in
    let new = t.seen c.forget-going.new.turns in
    spares_on who (t.who c.carry.new.turns) old mid new c.carry.ensures.who
    (turn_spares _ _ _ _ _ _ _ c.in-Memory.ensures.turn.3 c.in-Memory.ensures.turn.1 c.in-Memory.ensures.turn.2)
    (turn_silent _ _ _ _ _ _ c.forget-going.ensures.turn.2 refl)
