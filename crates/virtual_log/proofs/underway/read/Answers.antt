use Rattle.std.proofs.Common.{refl}
use Rattle.legal_journal.specs.declared.events.FabricCall.TheVariants.{ReadChain}
use Rattle.legal_journal.specs.declared.events.FabricAnswer.TheVariants as fabric
use Rattle.virtual_log.specs.declared.fault.Fault.TheVariants as fault
use Rattle.virtual_log.specs.declared.underway.Step.TheVariants.{Reading}
use Rattle.virtual_log.proofs.OneTurn.{down_cause}
use Rattle.virtual_log.proofs.Answering.{look_answers}
use Rattle.virtual_log.proofs.Stepping.{went_by, looked, failed, no_memory}
use Rattle.virtual_log.proofs.Saying.{turn_silent}
use Rattle.virtual_log.proofs.underway.read.Goals as goal

pub returns-in-At-clause-went : goal.returns-in-At-clause-went
returns-in-At-clause-went g c =
    let p = g.T.Law.Rules in
    let t = g.T.Turns in
    went_by c.args.going.now (Reading c.args.segment) c.requires.step
    (looked p.law (t.who c.args.turns.now) (t.seen c.args.turns.now) c.args.known.now c.requires.legal c.requires.goes_by
    c.args.segment c.in-At.version c.in-At.chain c.args.going.now.entry (t.seen c.turn.new.self) c.in-At.ensures.turn)

pub returns-in-Down-clause-went : goal.returns-in-Down-clause-went
returns-in-Down-clause-went g c =
    let p = g.T.Law.Rules in
    let t = g.T.Turns in
    let who = t.who c.args.turns.now in
    let old = t.seen c.args.turns.now in
    let new = t.seen c.turn.new.self in
    failed p.law who old c.args.known.now c.requires.legal c.requires.goes_by
    ReadChain fabric.Down new c.args.going.now fault.Meta c.in-Down.ensures.turn refl (λ i u. tt)
    (refl, down_cause p.law who old new c.in-Down.ensures.turn)

pub returns-in-Memory-clause-went : goal.returns-in-Memory-clause-went
returns-in-Memory-clause-went g c =
    let p = g.T.Law.Rules in
    let t = g.T.Turns in
    no_memory p.law (t.who c.args.turns.now) (t.seen c.args.turns.now) c.args.known.now c.requires.legal c.requires.goes_by
    ReadChain (t.seen c.turn.new.self) c.args.going.now c.in-Memory.ensures.turn refl (λ i u. tt)

pub unreachable-requires : goal.unreachable-requires
unreachable-requires g c = look_answers _ _ _ _ _ c.turn.ensures.turn c.in_default.not-At c.in_default.not-Down c.in_default.not-Memory

pub returns-in-At-clause-silent : goal.returns-in-At-clause-silent
returns-in-At-clause-silent g c = turn_silent _ _ _ _ _ _ c.in-At.ensures.turn refl

pub returns-in-Down-clause-silent : goal.returns-in-Down-clause-silent
returns-in-Down-clause-silent g c = turn_silent _ _ _ _ _ _ c.in-Down.ensures.turn refl

pub returns-in-Memory-clause-silent : goal.returns-in-Memory-clause-silent
returns-in-Memory-clause-silent g c = turn_silent _ _ _ _ _ _ c.in-Memory.ensures.turn refl
