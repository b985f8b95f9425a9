use Rattle.std.proofs.Common.{refl, sym, subst}
use Rattle.virtual_log.specs.declared.underway.Step.{Step}
use Rattle.virtual_log.specs.declared.underway.Step.TheVariants.{Starting, Dropping}
use Rattle.virtual_log.specs.Underway.{IsGoing, Forgets, Went}
use Rattle.virtual_log.proofs.OneTurn.{turn_later}
use Rattle.virtual_log.proofs.Going.{goes_later}
use Rattle.virtual_log.proofs.Stepping.{at_step, went_by, went_still, going_by, undropped, dropped, dropped_starts}
use Rattle.virtual_log.proofs.Saying.{none_then, turn_silent}
use Rattle.virtual_log.proofs.underway.drop_and_start.Goals as goal

pub start-started-requires-clause-goes_by : goal.start-started-requires-clause-goes_by
start-started-requires-clause-goes_by g c =
    let p = g.T.Law.Rules in
    let t = g.T.Turns in
    let who = t.who c.args.turns.now in
    let old = t.seen c.args.turns.now in
    let mid = t.seen c.forget.new.turns in
    let k = c.args.known.now in
    let j = c.args.cell in
    let u = c.args.ticket in
    let going = c.args.going.now in
    let last = c.forget.ensures.turn in
    goes_later p.law old mid k.version k.tail k.chain (turn_later p.law who old _ _ mid last.2) c.requires.goes_by

pub start-started-requires-clause-going : goal.start-started-requires-clause-going
start-started-requires-clause-going g c =
    let p = g.T.Law.Rules in
    let t = g.T.Turns in
    let who = t.who c.args.turns.now in
    let old = t.seen c.args.turns.now in
    let mid = t.seen c.forget.new.turns in
    let k = c.args.known.now in
    let j = c.args.cell in
    let u = c.args.ticket in
    let going = c.args.going.now in
    let last = c.forget.ensures.turn in
    let x = going_by going (Dropping j u) c.requires.step c.requires.going.1 in (
      c.requires.going.0,
      subst (λ w. IsGoing p.law.may w c.requires.going.0 mid k.chain (at_step going.entry Starting)) (sym c.forget.ensures.who)
          (dropped_starts p.law who old k c.requires.legal c.requires.goes_by j u going.entry c.requires.going.0 last.0 mid last.2 x),
    )

pub returns-in-Starting-clause-went : goal.returns-in-Starting-clause-went
returns-in-Starting-clause-went g c =
    let p = g.T.Law.Rules in
    let t = g.T.Turns in
    let who = t.who c.args.turns.now in
    let old = t.seen c.args.turns.now in
    let mid = t.seen c.forget.new.turns in
    let k = c.args.known.now in
    let j = c.args.cell in
    let u = c.args.ticket in
    let going = c.args.going.now in
    let last = c.forget.ensures.turn in
    let new = t.seen c.start-started.new.turns in
    let f = subst (λ (x : Step). Forgets j u last.0 x) c.in-Starting.is last.1 in
    let w = subst (λ by. Went p.law by mid k (at_step going.entry Starting) new k c.start-started.new.going c.start-started.result) c.forget.ensures.who (c.start-started.ensures.went) in
    let x = going_by going (Dropping j u) c.requires.step c.requires.going.1 in
    went_by going (Dropping j u) c.requires.step
    (dropped p.law who old k c.requires.legal c.requires.goes_by j u going.entry last.0 mid new k c.start-started.new.going c.start-started.result last.2 f x.at w)

pub returns-in_default-clause-went : goal.returns-in_default-clause-went
returns-in_default-clause-went g c =
    let p = g.T.Law.Rules in
    let t = g.T.Turns in
    let who = t.who c.args.turns.now in
    let old = t.seen c.args.turns.now in
    let mid = t.seen c.forget.new.turns in
    let k = c.args.known.now in
    let j = c.args.cell in
    let u = c.args.ticket in
    let going = c.args.going.now in
    let last = c.forget.ensures.turn in
    went_still going (Dropping j u) c.requires.step
    (undropped p.law who old k c.requires.legal c.requires.goes_by j u going.entry last.0 _ mid last.2 last.1)

pub returns-in-Starting-clause-silent : goal.returns-in-Starting-clause-silent
returns-in-Starting-clause-silent g c =
    let t = g.T.Turns in
    let who = t.who c.args.turns.now in
    let old = t.seen c.args.turns.now in
    let mid = t.seen c.forget.new.turns in
    none_then who (t.who c.forget.new.turns) old mid (t.seen c.start-started.new.turns) c.forget.ensures.who (turn_silent _ _ _ _ _ _ c.forget.ensures.turn.2 refl) c.start-started.ensures.silent

pub returns-in_default-clause-silent : goal.returns-in_default-clause-silent
returns-in_default-clause-silent g c = turn_silent _ _ _ _ _ _ c.forget.ensures.turn.2 refl
