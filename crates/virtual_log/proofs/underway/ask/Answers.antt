use Rattle.std.proofs.Common.{refl}
use Rattle.loglet_api.specs.declared.call.Op.TheVariants.{Tail}
use Rattle.legal_journal.specs.declared.events.FabricCall.TheVariants.{Begin}
use Rattle.legal_journal.specs.declared.events.FabricAnswer.TheVariants as fabric
use Rattle.virtual_log.specs.declared.fault.Fault.TheVariants as fault
use Rattle.virtual_log.specs.declared.underway.Step.TheVariants.{Asking}
use Rattle.virtual_log.proofs.OneTurn.{full_cause}
use Rattle.virtual_log.proofs.Appending.{may_tail, started_within}
use Rattle.virtual_log.proofs.Answering.{begin_answers}
use Rattle.virtual_log.proofs.Stepping.{went_by, going_by, last_starts, asked, failed, no_memory}
use Rattle.virtual_log.proofs.Saying.{turn_silent}
use Rattle.virtual_log.proofs.underway.ask.Goals as goal

pub turn-requires-clause-may : goal.turn-requires-clause-may
turn-requires-clause-may g c =
    let p = g.T.Law.Rules in
    let t = g.T.Turns in
    let old = t.seen c.args.turns.now in
    let s = c.args.segment in
    let x = going_by c.args.going.now (Asking s) c.requires.step c.requires.going.1 in
    may_tail p.law _ _ s.id (started_within p.law old s.id s.start c.requires.legal (last_starts p.law old s c.requires.legal x.at.last))

pub returns-in-Begun-clause-went : goal.returns-in-Begun-clause-went
returns-in-Begun-clause-went g c =
    let p = g.T.Law.Rules in
    let t = g.T.Turns in
    went_by c.args.going.now (Asking c.args.segment) c.requires.step
    (asked p.law (t.who c.args.turns.now) (t.seen c.args.turns.now) c.args.known.now c.requires.legal c.requires.goes_by
    c.args.segment c.in-Begun.ticket c.args.going.now.entry (t.seen c.turn.new.self) c.in-Begun.ensures.turn)

pub returns-in-Full-clause-went : goal.returns-in-Full-clause-went
returns-in-Full-clause-went g c =
    let p = g.T.Law.Rules in
    let t = g.T.Turns in
    let who = t.who c.args.turns.now in
    let old = t.seen c.args.turns.now in
    let new = t.seen c.turn.new.self in
    failed p.law who old c.args.known.now c.requires.legal c.requires.goes_by
    (Begin c.args.segment.id Tail) fabric.Full new c.args.going.now (fault.Full c.args.segment.id) c.in-Full.ensures.turn refl (λ i u. tt)
    (refl, full_cause p.law who old new c.args.segment.id Tail c.in-Full.ensures.turn)

pub returns-in-Memory-clause-went : goal.returns-in-Memory-clause-went
returns-in-Memory-clause-went g c =
    let p = g.T.Law.Rules in
    let t = g.T.Turns in
    no_memory p.law (t.who c.args.turns.now) (t.seen c.args.turns.now) c.args.known.now c.requires.legal c.requires.goes_by
    (Begin c.args.segment.id Tail) (t.seen c.turn.new.self) c.args.going.now c.in-Memory.ensures.turn refl (λ i u. tt)

pub unreachable-requires : goal.unreachable-requires
unreachable-requires g c = begin_answers _ _ _ _ _ _ _ c.turn.ensures.turn c.in_default.not-Begun c.in_default.not-Full c.in_default.not-Memory

pub returns-in-Begun-clause-silent : goal.returns-in-Begun-clause-silent
returns-in-Begun-clause-silent g c = turn_silent _ _ _ _ _ _ c.in-Begun.ensures.turn refl

pub returns-in-Full-clause-silent : goal.returns-in-Full-clause-silent
returns-in-Full-clause-silent g c = turn_silent _ _ _ _ _ _ c.in-Full.ensures.turn refl

pub returns-in-Memory-clause-silent : goal.returns-in-Memory-clause-silent
returns-in-Memory-clause-silent g c = turn_silent _ _ _ _ _ _ c.in-Memory.ensures.turn refl
