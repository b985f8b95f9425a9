use Rattle.std.proofs.Common.{◌≡◌, length, Some, sym, ap, subst, arith}
use Rattle.std.proofs.lemmas.Result.{err_from_is_err_and}
use Rattle.delos_types.specs.declared.chain.Segment.{Segment}
use Rattle.legal_journal.specs.Journal.{state_of}
use Rattle.legal_journal.proofs.Legal.{sound}
use Rattle.virtual_log.specs.Causes.{HasCause}
use Rattle.virtual_log.proofs.OneTurn.{cause_since}
use Rattle.virtual_log.proofs.Replacing.{last_started}
use Rattle.virtual_log.proofs.Going.{goes_later}
use Rattle.virtual_log.proofs.Saying.{none_drawn, drawn_then, draws_any}
use Rattle.virtual_log.proofs.Sealing.{seals_then}
use Rattle.virtual_log.proofs.Calming.{calm_then}
use Rattle.virtual_log.proofs.Operating.{operates_then, closes_none}
use Rattle.virtual_log.proofs.Attempts.{idle_then}
use Rattle.virtual_log.proofs.replace.finish.Goals as goal

pub find_tail-requires-clause-started : goal.find_tail-requires-clause-started
find_tail-requires-clause-started g c =
    let p = g.T.Law.Rules in
    let w = state_of (g.T.Turns.seen c.args.turns.now) in
    let k = c.args.known.now in
    subst (λ (s : Segment). w.starts s.id ≡ Some s.start) (sym c.last_of-last.ensures)
    (last_started (length p.law.shelf) w k.version k.chain (sound p.law (g.T.Turns.seen c.args.turns.now) c.requires.legal) c.requires.goes_by.given)

pub write-requires-clause-goes_by : goal.write-requires-clause-goes_by
write-requires-clause-goes_by g c =
    let p = g.T.Law.Rules in
    let k = c.args.known.now in
    goes_later p.law (g.T.Turns.seen c.args.turns.now) (g.T.Turns.seen c.find_tail.new.turns) k.version k.tail k.chain c.in_ok-length.ensures.later c.requires.goes_by

pub returns-in_err-write-clause-err : goal.returns-in_err-write-clause-err
returns-in_err-write-clause-err g c =
    let t = g.T.Turns in
    let who = t.who c.args.turns.now in
    let old = t.seen c.args.turns.now in
    let mid = t.seen c.find_tail.new.turns in
    let user = t.who c.find_tail.new.turns in
    let new = t.seen c.write.new.turns in
    let first = c.in_ok-length.ensures in
    let r = err_from_is_err_and c.from_residual-in_err-write.result c.from_residual-in_err-write.ensures.1 in
    rw (r.1, r.2) (let f = c.in_err-write.field-0.0 in cause_since who f old mid new first.later.more first.later.seen (subst (λ w. HasCause w mid f new) first.who c.in_err-write.ensures.err))

pub returns-in_err-write-clause-unsealed : goal.returns-in_err-write-clause-unsealed
returns-in_err-write-clause-unsealed g c =
    let t = g.T.Turns in
    let who = t.who c.args.turns.now in
    let old = t.seen c.args.turns.now in
    let mid = t.seen c.find_tail.new.turns in
    let user = t.who c.find_tail.new.turns in
    let new = t.seen c.write.new.turns in
    let first = c.in_ok-length.ensures in
    seals_then who user old mid new first.who first.unsealed c.in_err-write.ensures.unsealed

pub returns-in_err-write-clause-memory : goal.returns-in_err-write-clause-memory
returns-in_err-write-clause-memory g c =
    let t = g.T.Turns in
    let who = t.who c.args.turns.now in
    let old = t.seen c.args.turns.now in
    let mid = t.seen c.find_tail.new.turns in
    let user = t.who c.find_tail.new.turns in
    let new = t.seen c.write.new.turns in
    let first = c.in_ok-length.ensures in
    let r = err_from_is_err_and c.from_residual-in_err-write.result c.from_residual-in_err-write.ensures.1 in
    rw (r.1, r.2) (λ is. calm_then who user old mid new first.who first.calm (c.in_err-write.ensures.memory is))

pub returns-clause-ok : goal.returns-clause-ok
returns-clause-ok g c =
    let p = g.T.Law.Rules in
    let k = c.write.new.known in
    let known = (sound p.law (g.T.Turns.seen c.write.new.turns) c.in_ok-write.ensures.later.legal).olds k.version k.chain c.in_ok-write.ensures.goes_by.given in
    omega (arith, c.in_ok-write.ensures.has, known.last, ap (λ (s : Segment). s.id) c.last_of-last.ensures)

pub returns-clause-unsealed : goal.returns-clause-unsealed
returns-clause-unsealed g c =
    let t = g.T.Turns in
    let who = t.who c.args.turns.now in
    let old = t.seen c.args.turns.now in
    let mid = t.seen c.find_tail.new.turns in
    let user = t.who c.find_tail.new.turns in
    let new = t.seen c.write.new.turns in
    let first = c.in_ok-length.ensures in
    seals_then who user old mid new first.who first.unsealed c.in_ok-write.ensures.unsealed

pub returns-clause-calm : goal.returns-clause-calm
returns-clause-calm g c =
    let t = g.T.Turns in
    let who = t.who c.args.turns.now in
    let old = t.seen c.args.turns.now in
    let mid = t.seen c.find_tail.new.turns in
    let user = t.who c.find_tail.new.turns in
    let new = t.seen c.write.new.turns in
    let first = c.in_ok-length.ensures in
    calm_then who user old mid new first.who first.calm c.in_ok-write.ensures.calm

pub returns-in_err-write-clause-closes : goal.returns-in_err-write-clause-closes
returns-in_err-write-clause-closes g c =
    let t = g.T.Turns in
    let who = t.who c.args.turns.now in
    let old = t.seen c.args.turns.now in
    let mid = t.seen c.find_tail.new.turns in
    let user = t.who c.find_tail.new.turns in
    let new = t.seen c.write.new.turns in
    let first = c.in_ok-length.ensures in
    closes_none _ _ _ c.from_residual-in_err-write.result (operates_then who user old mid new first.who first.closes c.in_err-write.ensures.closes)

pub returns-clause-closes : goal.returns-clause-closes
returns-clause-closes g c =
    let t = g.T.Turns in
    let who = t.who c.args.turns.now in
    let old = t.seen c.args.turns.now in
    let mid = t.seen c.find_tail.new.turns in
    let user = t.who c.find_tail.new.turns in
    let new = t.seen c.write.new.turns in
    let first = c.in_ok-length.ensures in
    operates_then who user old mid new first.who first.closes c.in_ok-write.ensures.closes

pub returns-in_err-write-clause-idle : goal.returns-in_err-write-clause-idle
returns-in_err-write-clause-idle g c =
    let t = g.T.Turns in
    let who = t.who c.args.turns.now in
    let old = t.seen c.args.turns.now in
    let mid = t.seen c.find_tail.new.turns in
    let user = t.who c.find_tail.new.turns in
    let new = t.seen c.write.new.turns in
    let first = c.in_ok-length.ensures in
    idle_then who user old mid new first.who first.idle c.in_err-write.ensures.idle

pub returns-clause-idle : goal.returns-clause-idle
returns-clause-idle g c =
    let t = g.T.Turns in
    let who = t.who c.args.turns.now in
    let old = t.seen c.args.turns.now in
    let mid = t.seen c.find_tail.new.turns in
    let user = t.who c.find_tail.new.turns in
    let new = t.seen c.write.new.turns in
    let first = c.in_ok-length.ensures in
    idle_then who user old mid new first.who first.idle c.in_ok-write.ensures.idle

pub returns-in_err-write-clause-draws : goal.returns-in_err-write-clause-draws
returns-in_err-write-clause-draws g c =
    let t = g.T.Turns in
    let who = t.who c.args.turns.now in
    let old = t.seen c.args.turns.now in
    let mid = t.seen c.find_tail.new.turns in
    let user = t.who c.find_tail.new.turns in
    let new = t.seen c.write.new.turns in
    let first = c.in_ok-length.ensures in
    draws_any _ _ _ c.from_residual-in_err-write.result (drawn_then who user old mid new first.who first.draws (none_drawn c.in_err-write.ensures.silent))

pub returns-clause-draws : goal.returns-clause-draws
returns-clause-draws g c =
    let t = g.T.Turns in
    let who = t.who c.args.turns.now in
    let old = t.seen c.args.turns.now in
    let mid = t.seen c.find_tail.new.turns in
    let user = t.who c.find_tail.new.turns in
    let new = t.seen c.write.new.turns in
    let first = c.in_ok-length.ensures in
    drawn_then who user old mid new first.who first.draws (none_drawn c.in_ok-write.ensures.silent)
