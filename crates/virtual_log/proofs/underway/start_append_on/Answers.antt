use Rattle.std.proofs.Common.{◌∙◌, refl, sym, subst, arith}
use Rattle.delos_types.specs.declared.entry.Entry.{Entry}
use Rattle.delos_types.specs.Spelling.{IsSpellable}
use Rattle.loglet_api.specs.declared.call.Op.TheVariants.{Append}
use Rattle.virtual_log.proofs.OneTurn.{turn_later}
use Rattle.virtual_log.proofs.Appending.{may_append, started_within}
use Rattle.virtual_log.proofs.Going.{last_there, goes_later}
use Rattle.virtual_log.proofs.Saying.{turn_silent}
use Rattle.virtual_log.proofs.Sealing.{turn_none}
use Rattle.virtual_log.proofs.Calming.{turn_calm}
use Rattle.virtual_log.proofs.Answering.{begin_answers}
use Rattle.virtual_log.proofs.Sparing.{turn_going}
use Rattle.virtual_log.proofs.Stepping.{begin_others, starts_going}
use Rattle.virtual_log.proofs.underway.start_append_on.Goals as goal

pub turn-requires-clause-may : goal.turn-requires-clause-may
turn-requires-clause-may g c =
    let p = g.T.Law.Rules in
    let t = g.T.Turns in
    let who = t.who c.args.turns.now in
    let old = t.seen c.args.turns.now in
    let k = c.args.known.now in
    let s = c.last_of-segment.result in
    may_append p.law who old s.id c.in_ok-copy.copy
    (started_within p.law old s.id s.start c.requires.legal (last_there p.law old k.version k.tail k.chain s c.requires.legal c.requires.goes_by c.last_of-segment.ensures))
    (subst (λ (e : Entry). p.law.may who e) (sym c.in_ok-copy.ensures.cases) c.requires.may)
    (subst IsSpellable (sym c.in_ok-copy.ensures.cases) c.requires.spelled)

pub returns-in-Begun-clause-going : goal.returns-in-Begun-clause-going
returns-in-Begun-clause-going g c =
    let p = g.T.Law.Rules in
    let t = g.T.Turns in
    let who = t.who c.args.turns.now in
    let old = t.seen c.args.turns.now in
    let new = t.seen c.turn.new.self in
    let k = c.args.known.now in
    let s = c.last_of-segment.result in
    starts_going p.law who old k c.requires.legal c.requires.goes_by s c.in-Begun.ticket c.in_ok-copy.copy c.in_ok-kept.kept new c.last_of-segment.ensures
    (c.in_ok-copy.ensures.cases ∙ sym c.in_ok-kept.ensures.cases)
    (subst (λ (e : Entry). p.law.may who e) (sym c.in_ok-kept.ensures.cases) c.requires.may)
    (subst IsSpellable (sym c.in_ok-kept.ensures.cases) c.requires.spelled)
    c.in-Begun.ensures.turn

pub returns-in-Begun-clause-others : goal.returns-in-Begun-clause-others
returns-in-Begun-clause-others g c = λ early other x.
    let p = g.T.Law.Rules in
    let t = g.T.Turns in
    let who = t.who c.args.turns.now in
    let old = t.seen c.args.turns.now in
    let new = t.seen c.turn.new.self in
    let k = c.args.known.now in
    let s = c.last_of-segment.result in
    begin_others p.law who old k c.requires.legal c.requires.goes_by s.id c.in-Begun.ticket (Append c.in_ok-copy.copy) new c.in-Begun.ensures.turn early other x

pub returns-in-Begun-clause-goes_by : goal.returns-in-Begun-clause-goes_by
returns-in-Begun-clause-goes_by g c =
    let p = g.T.Law.Rules in
    let t = g.T.Turns in
    let who = t.who c.args.turns.now in
    let old = t.seen c.args.turns.now in
    let new = t.seen c.turn.new.self in
    let k = c.args.known.now in
    let s = c.last_of-segment.result in
    goes_later p.law old new k.version k.tail k.chain (turn_later p.law who old _ _ new c.in-Begun.ensures.turn) c.requires.goes_by

pub returns-in-Begun-clause-silent : goal.returns-in-Begun-clause-silent
returns-in-Begun-clause-silent g c = turn_silent _ _ _ _ _ _ c.in-Begun.ensures.turn refl

pub returns-in-Begun-clause-unsealed : goal.returns-in-Begun-clause-unsealed
returns-in-Begun-clause-unsealed g c = turn_none _ _ _ _ _ _ c.in-Begun.ensures.turn refl

pub returns-in-Full-clause-goes_by : goal.returns-in-Full-clause-goes_by
returns-in-Full-clause-goes_by g c =
    let p = g.T.Law.Rules in
    let t = g.T.Turns in
    let who = t.who c.args.turns.now in
    let old = t.seen c.args.turns.now in
    let new = t.seen c.turn.new.self in
    let k = c.args.known.now in
    let s = c.last_of-segment.result in
    goes_later p.law old new k.version k.tail k.chain (turn_later p.law who old _ _ new c.in-Full.ensures.turn) c.requires.goes_by

pub returns-in-Full-clause-others : goal.returns-in-Full-clause-others
returns-in-Full-clause-others g c = λ early other x.
    let p = g.T.Law.Rules in
    let t = g.T.Turns in
    let who = t.who c.args.turns.now in
    let old = t.seen c.args.turns.now in
    let new = t.seen c.turn.new.self in
    let k = c.args.known.now in
    let s = c.last_of-segment.result in
    (turn_going p.law who old _ _ new c.in-Full.ensures.turn early k.chain k.chain other (omega arith) (λ i u _. tt) x, tt)

pub returns-in-Full-clause-silent : goal.returns-in-Full-clause-silent
returns-in-Full-clause-silent g c = turn_silent _ _ _ _ _ _ c.in-Full.ensures.turn refl

pub returns-in-Full-clause-unsealed : goal.returns-in-Full-clause-unsealed
returns-in-Full-clause-unsealed g c = turn_none _ _ _ _ _ _ c.in-Full.ensures.turn refl

pub returns-in-Memory-clause-goes_by : goal.returns-in-Memory-clause-goes_by
returns-in-Memory-clause-goes_by g c =
    let p = g.T.Law.Rules in
    let t = g.T.Turns in
    let who = t.who c.args.turns.now in
    let old = t.seen c.args.turns.now in
    let new = t.seen c.turn.new.self in
    let k = c.args.known.now in
    let s = c.last_of-segment.result in
    goes_later p.law old new k.version k.tail k.chain (turn_later p.law who old _ _ new c.in-Memory.ensures.turn) c.requires.goes_by

pub returns-in-Memory-clause-others : goal.returns-in-Memory-clause-others
returns-in-Memory-clause-others g c = λ early other x.
    let p = g.T.Law.Rules in
    let t = g.T.Turns in
    let who = t.who c.args.turns.now in
    let old = t.seen c.args.turns.now in
    let new = t.seen c.turn.new.self in
    let k = c.args.known.now in
    let s = c.last_of-segment.result in
    (turn_going p.law who old _ _ new c.in-Memory.ensures.turn early k.chain k.chain other (omega arith) (λ i u _. tt) x, tt)

pub returns-in-Memory-clause-silent : goal.returns-in-Memory-clause-silent
returns-in-Memory-clause-silent g c = turn_silent _ _ _ _ _ _ c.in-Memory.ensures.turn refl

pub returns-in-Memory-clause-unsealed : goal.returns-in-Memory-clause-unsealed
returns-in-Memory-clause-unsealed g c = turn_none _ _ _ _ _ _ c.in-Memory.ensures.turn refl

pub returns-in-Begun-clause-calm : goal.returns-in-Begun-clause-calm
returns-in-Begun-clause-calm g c = turn_calm _ _ _ _ _ _ c.in-Begun.ensures.turn tt

pub returns-in-Memory-clause-memory : goal.returns-in-Memory-clause-memory
returns-in-Memory-clause-memory g c = λ _. turn_calm _ _ _ _ _ _ c.in-Memory.ensures.turn tt

pub unreachable-requires : goal.unreachable-requires
unreachable-requires g c = begin_answers _ _ _ _ _ _ _ c.turn.ensures.turn c.in_default.not-Begun c.in_default.not-Full c.in_default.not-Memory
