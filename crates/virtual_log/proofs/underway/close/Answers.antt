use Rattle.std.proofs.Common.{length, refl, sym, subst, arith}
use Rattle.std.specs.Prelude.{Contains}
use Rattle.legal_journal.specs.declared.events.FabricAnswer.TheVariants as fabric
use Rattle.legal_journal.specs.declared.events.FabricCall.TheVariants.{WriteChain}
use Rattle.legal_journal.specs.Journal.{state_of}
use Rattle.virtual_log.specs.declared.fault.Fault.TheVariants as fault
use Rattle.virtual_log.specs.declared.underway.Step.TheVariants.{Closing}
use Rattle.virtual_log.proofs.OneTurn.{meta_cause, gone_cause}
use Rattle.legal_journal.proofs.Legal.{sound}
use Rattle.virtual_log.proofs.Replacing.{fits, may_write}
use Rattle.virtual_log.proofs.Answering.{write_answers}
use Rattle.virtual_log.proofs.Stepping.{went_by, went_still, going_by, failed, no_memory, wrote, lost}
use Rattle.virtual_log.proofs.Saying.{none_refl, turn_silent}
use Rattle.virtual_log.proofs.underway.close.Goals as goal

pub extend-requires-clause-chain : goal.extend-requires-clause-chain
extend-requires-clause-chain g c =
    let p = g.T.Law.Rules in
    let t = g.T.Turns in
    let who = t.who c.args.turns.now in
    let old = t.seen c.args.turns.now in
    let k = c.args.known.now in
    let s = c.args.segment in
    let n = c.args.length in
    let going = c.args.going.now in
    let x = going_by going (Closing s n) c.requires.step c.requires.going.1 in
    let told = subst (λ i. Contains ((state_of old).cells i).ends n) (sym c.requires.last) x.at.1 in
    (fits (length p.law.shelf) (state_of old) k.version n k.chain (sound p.law old c.requires.legal) c.requires.goes_by.given told).chain

pub extend-requires-clause-seam : goal.extend-requires-clause-seam
extend-requires-clause-seam g c =
    let p = g.T.Law.Rules in
    let t = g.T.Turns in
    let who = t.who c.args.turns.now in
    let old = t.seen c.args.turns.now in
    let k = c.args.known.now in
    let s = c.args.segment in
    let n = c.args.length in
    let going = c.args.going.now in
    let x = going_by going (Closing s n) c.requires.step c.requires.going.1 in
    let told = subst (λ i. Contains ((state_of old).cells i).ends n) (sym c.requires.last) x.at.1 in
    (fits (length p.law.shelf) (state_of old) k.version n k.chain (sound p.law old c.requires.legal) c.requires.goes_by.given told).seam

pub extend-requires-clause-next : goal.extend-requires-clause-next
extend-requires-clause-next g c =
    let p = g.T.Law.Rules in
    let t = g.T.Turns in
    let who = t.who c.args.turns.now in
    let old = t.seen c.args.turns.now in
    let k = c.args.known.now in
    let s = c.args.segment in
    let n = c.args.length in
    let going = c.args.going.now in
    let x = going_by going (Closing s n) c.requires.step c.requires.going.1 in
    let told = subst (λ i. Contains ((state_of old).cells i).ends n) (sym c.requires.last) x.at.1 in
    let f = fits (length p.law.shelf) (state_of old) k.version n k.chain (sound p.law old c.requires.legal) c.requires.goes_by.given told in omega (arith, f.spare, f.few)

pub turn-requires-clause-may : goal.turn-requires-clause-may
turn-requires-clause-may g c =
    let p = g.T.Law.Rules in
    let t = g.T.Turns in
    let who = t.who c.args.turns.now in
    let old = t.seen c.args.turns.now in
    let k = c.args.known.now in
    let s = c.args.segment in
    let n = c.args.length in
    let going = c.args.going.now in
    let x = going_by going (Closing s n) c.requires.step c.requires.going.1 in
    let told = subst (λ i. Contains ((state_of old).cells i).ends n) (sym c.requires.last) x.at.1 in
    may_write p.law who old k.version n k.chain _ c.requires.goes_by.given told c.in_ok-next.ensures.value c.requires.legal

pub returns-in-Written-clause-went : goal.returns-in-Written-clause-went
returns-in-Written-clause-went g c =
    let p = g.T.Law.Rules in
    let t = g.T.Turns in
    let who = t.who c.args.turns.now in
    let old = t.seen c.args.turns.now in
    let k = c.args.known.now in
    let s = c.args.segment in
    let n = c.args.length in
    let going = c.args.going.now in
    let x = going_by going (Closing s n) c.requires.step c.requires.going.1 in
    let told = subst (λ i. Contains ((state_of old).cells i).ends n) (sym c.requires.last) x.at.1 in
    went_by going (Closing s n) c.requires.step
    (wrote p.law who old k c.requires.legal c.requires.goes_by s n _ c.in_ok-next.next going.entry (t.seen c.turn.new.self) c.in_ok-next.ensures.value c.in-Written.ensures.turn)

pub returns-in-Conflict-clause-went : goal.returns-in-Conflict-clause-went
returns-in-Conflict-clause-went g c =
    let p = g.T.Law.Rules in
    let t = g.T.Turns in
    let who = t.who c.args.turns.now in
    let old = t.seen c.args.turns.now in
    let k = c.args.known.now in
    let s = c.args.segment in
    let n = c.args.length in
    let going = c.args.going.now in
    let x = going_by going (Closing s n) c.requires.step c.requires.going.1 in
    let told = subst (λ i. Contains ((state_of old).cells i).ends n) (sym c.requires.last) x.at.1 in
    went_still going (Closing s n) c.requires.step
    (lost p.law who old k c.requires.legal c.requires.goes_by s n c.in-Conflict.version c.in_ok-next.next c.in-Conflict.chain going.entry (t.seen c.turn.new.self) c.in_ok-next.ensures.value c.in-Conflict.ensures.turn)

pub returns-in-MetaFault-clause-went : goal.returns-in-MetaFault-clause-went
returns-in-MetaFault-clause-went g c =
    let p = g.T.Law.Rules in
    let t = g.T.Turns in
    let who = t.who c.args.turns.now in
    let old = t.seen c.args.turns.now in
    let k = c.args.known.now in
    let s = c.args.segment in
    let n = c.args.length in
    let going = c.args.going.now in
    let x = going_by going (Closing s n) c.requires.step c.requires.going.1 in
    let told = subst (λ i. Contains ((state_of old).cells i).ends n) (sym c.requires.last) x.at.1 in
    let new = t.seen c.turn.new.self in
    failed p.law who old k c.requires.legal c.requires.goes_by
    (WriteChain k.version c.in_ok-next.next) fabric.MetaFault new going fault.Meta c.in-MetaFault.ensures.turn refl (λ i u. tt)
    (refl, meta_cause p.law who old new k.version c.in_ok-next.next c.in-MetaFault.ensures.turn)

pub returns-in-Down-clause-went : goal.returns-in-Down-clause-went
returns-in-Down-clause-went g c =
    let p = g.T.Law.Rules in
    let t = g.T.Turns in
    let who = t.who c.args.turns.now in
    let old = t.seen c.args.turns.now in
    let k = c.args.known.now in
    let s = c.args.segment in
    let n = c.args.length in
    let going = c.args.going.now in
    let x = going_by going (Closing s n) c.requires.step c.requires.going.1 in
    let told = subst (λ i. Contains ((state_of old).cells i).ends n) (sym c.requires.last) x.at.1 in
    let new = t.seen c.turn.new.self in
    failed p.law who old k c.requires.legal c.requires.goes_by
    (WriteChain k.version c.in_ok-next.next) fabric.Down new going fault.Meta c.in-Down.ensures.turn refl (λ i u. tt)
    (refl, gone_cause p.law who old new k.version c.in_ok-next.next c.in-Down.ensures.turn)

pub returns-in-Memory-clause-went : goal.returns-in-Memory-clause-went
returns-in-Memory-clause-went g c =
    let p = g.T.Law.Rules in
    let t = g.T.Turns in
    let who = t.who c.args.turns.now in
    let old = t.seen c.args.turns.now in
    let k = c.args.known.now in
    let s = c.args.segment in
    let n = c.args.length in
    let going = c.args.going.now in
    let x = going_by going (Closing s n) c.requires.step c.requires.going.1 in
    let told = subst (λ i. Contains ((state_of old).cells i).ends n) (sym c.requires.last) x.at.1 in
    no_memory p.law who old k c.requires.legal c.requires.goes_by
    (WriteChain k.version c.in_ok-next.next) (t.seen c.turn.new.self) going c.in-Memory.ensures.turn refl (λ i u. tt)

pub unreachable-requires : goal.unreachable-requires
unreachable-requires g c = write_answers _ _ _ _ _ _ _ c.turn.ensures.turn c.in_default.not-Written c.in_default.not-Conflict c.in_default.not-MetaFault c.in_default.not-Down c.in_default.not-Memory

pub returns-in_err-next-clause-silent : goal.returns-in_err-next-clause-silent
returns-in_err-next-clause-silent g c = none_refl _ _

pub returns-in-Written-clause-silent : goal.returns-in-Written-clause-silent
returns-in-Written-clause-silent g c = turn_silent _ _ _ _ _ _ c.in-Written.ensures.turn refl

pub returns-in-Conflict-clause-silent : goal.returns-in-Conflict-clause-silent
returns-in-Conflict-clause-silent g c = turn_silent _ _ _ _ _ _ c.in-Conflict.ensures.turn refl

pub returns-in-MetaFault-clause-silent : goal.returns-in-MetaFault-clause-silent
returns-in-MetaFault-clause-silent g c = turn_silent _ _ _ _ _ _ c.in-MetaFault.ensures.turn refl

pub returns-in-Down-clause-silent : goal.returns-in-Down-clause-silent
returns-in-Down-clause-silent g c = turn_silent _ _ _ _ _ _ c.in-Down.ensures.turn refl

pub returns-in-Memory-clause-silent : goal.returns-in-Memory-clause-silent
returns-in-Memory-clause-silent g c = turn_silent _ _ _ _ _ _ c.in-Memory.ensures.turn refl
