use Rattle.std.proofs.Common.{refl, sym, subst}
use Rattle.delos_types.specs.declared.entry.Entry.{Entry}
use Rattle.delos_types.specs.Spelling.{IsSpellable}
use Rattle.loglet_api.specs.declared.call.Op.TheVariants.{Append}
use Rattle.legal_journal.specs.declared.events.FabricCall.TheVariants.{Begin}
use Rattle.legal_journal.specs.declared.events.FabricAnswer.TheVariants as fabric
use Rattle.virtual_log.specs.declared.fault.Fault.TheVariants as fault
use Rattle.virtual_log.specs.declared.underway.Step.TheVariants.{Starting}
use Rattle.virtual_log.proofs.OneTurn.{full_cause}
use Rattle.virtual_log.proofs.Appending.{may_append, started_within}
use Rattle.virtual_log.proofs.Going.{last_there}
use Rattle.virtual_log.proofs.Answering.{begin_answers}
use Rattle.virtual_log.proofs.Stepping.{went_by, began, failed, no_memory}
use Rattle.virtual_log.proofs.Saying.{none_refl, turn_silent}
use Rattle.virtual_log.proofs.underway.start.Goals as goal

pub turn-requires-clause-may : goal.turn-requires-clause-may
turn-requires-clause-may g c =
    let p = g.T.Law.Rules in
    let t = g.T.Turns in
    let who = t.who c.args.turns.now in
    let old = t.seen c.args.turns.now in
    let k = c.args.known.now in
    let s = c.last_of-segment.result in
    let x = c.requires.going.1 in
    may_append p.law who old s.id c.in_ok-copy.copy
    (started_within p.law old s.id s.start c.requires.legal (last_there p.law old k.version k.tail k.chain s c.requires.legal c.requires.goes_by c.last_of-segment.ensures))
    (subst (λ (e : Entry). p.law.may who e) (sym c.in_ok-copy.ensures.cases) x.allowed)
    (subst IsSpellable (sym c.in_ok-copy.ensures.cases) x.spelled)

pub returns-in-Begun-clause-went : goal.returns-in-Begun-clause-went
returns-in-Begun-clause-went g c =
    let p = g.T.Law.Rules in
    let t = g.T.Turns in
    went_by c.args.going.now Starting c.requires.step
    (began p.law (t.who c.args.turns.now) (t.seen c.args.turns.now) c.args.known.now c.requires.legal c.requires.goes_by
    c.last_of-segment.result c.in-Begun.ticket c.in_ok-copy.copy c.args.going.now.entry (t.seen c.turn.new.self) c.last_of-segment.ensures c.in_ok-copy.ensures.cases c.in-Begun.ensures.turn)

pub returns-in-Full-clause-went : goal.returns-in-Full-clause-went
returns-in-Full-clause-went g c =
    let p = g.T.Law.Rules in
    let t = g.T.Turns in
    let who = t.who c.args.turns.now in
    let old = t.seen c.args.turns.now in
    let new = t.seen c.turn.new.self in
    let id = c.last_of-segment.result.id in
    failed p.law who old c.args.known.now c.requires.legal c.requires.goes_by
    (Begin id (Append c.in_ok-copy.copy)) fabric.Full new c.args.going.now (fault.Full id) c.in-Full.ensures.turn refl (λ i u. tt)
    (refl, full_cause p.law who old new id (Append c.in_ok-copy.copy) c.in-Full.ensures.turn)

pub returns-in-Memory-clause-went : goal.returns-in-Memory-clause-went
returns-in-Memory-clause-went g c =
    let p = g.T.Law.Rules in
    let t = g.T.Turns in
    no_memory p.law (t.who c.args.turns.now) (t.seen c.args.turns.now) c.args.known.now c.requires.legal c.requires.goes_by
    (Begin c.last_of-segment.result.id (Append c.in_ok-copy.copy)) (t.seen c.turn.new.self) c.args.going.now c.in-Memory.ensures.turn refl (λ i u. tt)

pub unreachable-requires : goal.unreachable-requires
unreachable-requires g c = begin_answers _ _ _ _ _ _ _ c.turn.ensures.turn c.in_default.not-Begun c.in_default.not-Full c.in_default.not-Memory

pub returns-in_err-copy-clause-silent : goal.returns-in_err-copy-clause-silent
returns-in_err-copy-clause-silent g c = none_refl _ _

pub returns-in-Begun-clause-silent : goal.returns-in-Begun-clause-silent
returns-in-Begun-clause-silent g c = turn_silent _ _ _ _ _ _ c.in-Begun.ensures.turn refl

pub returns-in-Full-clause-silent : goal.returns-in-Full-clause-silent
returns-in-Full-clause-silent g c = turn_silent _ _ _ _ _ _ c.in-Full.ensures.turn refl

pub returns-in-Memory-clause-silent : goal.returns-in-Memory-clause-silent
returns-in-Memory-clause-silent g c = turn_silent _ _ _ _ _ _ c.in-Memory.ensures.turn refl
