use Rattle.std.proofs.Common.{subst, arith}
use Rattle.std.proofs.lemmas.Result.{err_from_is_err_and}
use Rattle.legal_journal.specs.Journal.{state_of}
use Rattle.virtual_log.specs.declared.write.Change.TheVariants.{Raise}
use Rattle.virtual_log.specs.Causes.{HasCause}
use Rattle.virtual_log.proofs.OneTurn.{later_continues, cause_since}
use Rattle.virtual_log.proofs.Going.{goes_later, goes_now}
use Rattle.virtual_log.proofs.Raising.{free_later, truncated_by}
use Rattle.virtual_log.proofs.Changing.{settled_since}
use Rattle.virtual_log.proofs.Saying.{none_then}
use Rattle.virtual_log.proofs.Sealing.{seals_then}
use Rattle.virtual_log.proofs.Calming.{calm_then}
use Rattle.virtual_log.proofs.Operating.{operates_then}
use Rattle.virtual_log.proofs.Rising.{rises_now}
use Rattle.virtual_log.proofs.truncate.truncate_on.Goals as goal

pub returns-in_err-version-clause-goes_by : goal.returns-in_err-version-clause-goes_by
returns-in_err-version-clause-goes_by g c =
    let p = g.T.Law.Rules in
    let t = g.T.Turns in
    let who = t.who c.args.turns.now in
    let old = t.seen c.args.turns.now in
    let mid = t.seen c.look.new.turns in
    let user = t.who c.look.new.turns in
    goes_later p.law old mid c.args.known.now.version c.args.known.now.tail c.args.known.now.chain c.in_err-version.ensures.later c.requires.goes_by

pub returns-then-n-known-clause-goes_by : goal.returns-then-n-known-clause-goes_by
returns-then-n-known-clause-goes_by g c =
    let p = g.T.Law.Rules in
    let t = g.T.Turns in
    let who = t.who c.args.turns.now in
    let old = t.seen c.args.turns.now in
    let mid = t.seen c.look.new.turns in
    let user = t.who c.look.new.turns in
    goes_now p.law who c.args.known.now.version c.args.known.now.tail c.in_ok-version.version c.args.known.now.chain c.in_ok-version.chain old mid c.requires.legal c.in_ok-version.ensures.later c.requires.goes_by c.in_ok-version.ensures.ok

pub write-requires-clause-goes_by : goal.write-requires-clause-goes_by
write-requires-clause-goes_by g c =
    let p = g.T.Law.Rules in
    let t = g.T.Turns in
    let who = t.who c.args.turns.now in
    let old = t.seen c.args.turns.now in
    let mid = t.seen c.look.new.turns in
    let user = t.who c.look.new.turns in
    goes_now p.law who c.args.known.now.version c.args.known.now.tail c.in_ok-version.version c.args.known.now.chain c.in_ok-version.chain old mid c.requires.legal c.in_ok-version.ensures.later c.requires.goes_by c.in_ok-version.ensures.ok

pub write-requires-clause-granted : goal.write-requires-clause-granted
write-requires-clause-granted g c =
    let p = g.T.Law.Rules in
    let t = g.T.Turns in
    let who = t.who c.args.turns.now in
    let old = t.seen c.args.turns.now in
    let mid = t.seen c.look.new.turns in
    let user = t.who c.look.new.turns in
    (c.requires.known, free_later (state_of old) (state_of mid) p.law.floor c.args.n (later_continues p.law old mid c.in_ok-version.ensures.later) c.requires.free)

pub returns-in_err-write-clause-silent : goal.returns-in_err-write-clause-silent
returns-in_err-write-clause-silent g c =
    let p = g.T.Law.Rules in
    let t = g.T.Turns in
    let who = t.who c.args.turns.now in
    let old = t.seen c.args.turns.now in
    let mid = t.seen c.look.new.turns in
    let user = t.who c.look.new.turns in
    let new = t.seen c.write.new.turns in
    let first = c.in_ok-version.ensures in
    none_then who user old mid new first.who first.silent c.in_err-write.ensures.silent

pub returns-in_err-write-clause-err : goal.returns-in_err-write-clause-err
returns-in_err-write-clause-err g c =
    let p = g.T.Law.Rules in
    let t = g.T.Turns in
    let who = t.who c.args.turns.now in
    let old = t.seen c.args.turns.now in
    let mid = t.seen c.look.new.turns in
    let user = t.who c.look.new.turns in
    let new = t.seen c.write.new.turns in
    let first = c.in_ok-version.ensures in
    let r = err_from_is_err_and c.from_residual-in_err-write.result c.from_residual-in_err-write.ensures.1 in
    rw (r.1, r.2) (let f = c.in_err-write.field-0.0 in cause_since who f old mid new first.later.more first.later.seen (subst (λ w. HasCause w mid f new) first.who c.in_err-write.ensures.err))

pub returns-in_err-write-clause-unsealed : goal.returns-in_err-write-clause-unsealed
returns-in_err-write-clause-unsealed g c =
    let p = g.T.Law.Rules in
    let t = g.T.Turns in
    let who = t.who c.args.turns.now in
    let old = t.seen c.args.turns.now in
    let mid = t.seen c.look.new.turns in
    let user = t.who c.look.new.turns in
    let new = t.seen c.write.new.turns in
    let first = c.in_ok-version.ensures in
    seals_then who user old mid new first.who first.unsealed c.in_err-write.ensures.unsealed

pub returns-in_err-write-clause-memory : goal.returns-in_err-write-clause-memory
returns-in_err-write-clause-memory g c =
    let p = g.T.Law.Rules in
    let t = g.T.Turns in
    let who = t.who c.args.turns.now in
    let old = t.seen c.args.turns.now in
    let mid = t.seen c.look.new.turns in
    let user = t.who c.look.new.turns in
    let new = t.seen c.write.new.turns in
    let first = c.in_ok-version.ensures in
    let r = err_from_is_err_and c.from_residual-in_err-write.result c.from_residual-in_err-write.ensures.1 in
    rw (r.1, r.2) (λ is. calm_then who user old mid new first.who first.calm (c.in_err-write.ensures.memory is))

pub returns-clause-truncated : goal.returns-clause-truncated
returns-clause-truncated g c =
    let p = g.T.Law.Rules in
    let t = g.T.Turns in
    let who = t.who c.args.turns.now in
    let old = t.seen c.args.turns.now in
    let mid = t.seen c.look.new.turns in
    let user = t.who c.look.new.turns in
    let new = t.seen c.write.new.turns in
    let first = c.in_ok-version.ensures in
    let k = c.write.new.known in
    truncated_by who old new c.args.n k.version k.chain c.in_ok-write.field-0 c.in_ok-write.ensures.has (settled_since who user old mid new first.later.more (Raise c.args.n) k.version k.chain c.in_ok-write.field-0 first.who first.later.seen first.quiet c.in_ok-write.ensures.settled)

pub returns-clause-silent : goal.returns-clause-silent
returns-clause-silent g c =
    let p = g.T.Law.Rules in
    let t = g.T.Turns in
    let who = t.who c.args.turns.now in
    let old = t.seen c.args.turns.now in
    let mid = t.seen c.look.new.turns in
    let user = t.who c.look.new.turns in
    let new = t.seen c.write.new.turns in
    let first = c.in_ok-version.ensures in
    none_then who user old mid new first.who first.silent c.in_ok-write.ensures.silent

pub returns-clause-unsealed : goal.returns-clause-unsealed
returns-clause-unsealed g c =
    let p = g.T.Law.Rules in
    let t = g.T.Turns in
    let who = t.who c.args.turns.now in
    let old = t.seen c.args.turns.now in
    let mid = t.seen c.look.new.turns in
    let user = t.who c.look.new.turns in
    let new = t.seen c.write.new.turns in
    let first = c.in_ok-version.ensures in
    seals_then who user old mid new first.who first.unsealed c.in_ok-write.ensures.unsealed

pub returns-clause-calm : goal.returns-clause-calm
returns-clause-calm g c =
    let p = g.T.Law.Rules in
    let t = g.T.Turns in
    let who = t.who c.args.turns.now in
    let old = t.seen c.args.turns.now in
    let mid = t.seen c.look.new.turns in
    let user = t.who c.look.new.turns in
    let new = t.seen c.write.new.turns in
    let first = c.in_ok-version.ensures in
    calm_then who user old mid new first.who first.calm c.in_ok-write.ensures.calm

pub returns-in_err-write-clause-closes : goal.returns-in_err-write-clause-closes
returns-in_err-write-clause-closes g c =
    let p = g.T.Law.Rules in
    let t = g.T.Turns in
    let who = t.who c.args.turns.now in
    let old = t.seen c.args.turns.now in
    let mid = t.seen c.look.new.turns in
    let user = t.who c.look.new.turns in
    let new = t.seen c.write.new.turns in
    let first = c.in_ok-version.ensures in
    operates_then who user old mid new first.who first.closes c.in_err-write.ensures.closes

pub returns-clause-closes : goal.returns-clause-closes
returns-clause-closes g c =
    let p = g.T.Law.Rules in
    let t = g.T.Turns in
    let who = t.who c.args.turns.now in
    let old = t.seen c.args.turns.now in
    let mid = t.seen c.look.new.turns in
    let user = t.who c.look.new.turns in
    let new = t.seen c.write.new.turns in
    let first = c.in_ok-version.ensures in
    operates_then who user old mid new first.who first.closes c.in_ok-write.ensures.closes

pub returns-then-n-known-clause-rises : goal.returns-then-n-known-clause-rises
returns-then-n-known-clause-rises g c =
    let p = g.T.Law.Rules in
    let t = g.T.Turns in
    let k = c.args.known.now in
    let first = c.in_ok-version.ensures in
    let up = rises_now p.law (t.who c.args.turns.now) k.version k.tail c.in_ok-version.version k.chain c.in_ok-version.chain (t.seen c.args.turns.now) (t.seen c.look.new.turns) first.later c.requires.goes_by first.ok in
    up

pub returns-in_err-write-clause-rises : goal.returns-in_err-write-clause-rises
returns-in_err-write-clause-rises g c =
    let p = g.T.Law.Rules in
    let t = g.T.Turns in
    let k = c.args.known.now in
    let first = c.in_ok-version.ensures in
    let up = rises_now p.law (t.who c.args.turns.now) k.version k.tail c.in_ok-version.version k.chain c.in_ok-version.chain (t.seen c.args.turns.now) (t.seen c.look.new.turns) first.later c.requires.goes_by first.ok in
    omega (arith, up, c.in_err-write.ensures.rises)

pub returns-clause-rises : goal.returns-clause-rises
returns-clause-rises g c =
    let p = g.T.Law.Rules in
    let t = g.T.Turns in
    let k = c.args.known.now in
    let first = c.in_ok-version.ensures in
    let up = rises_now p.law (t.who c.args.turns.now) k.version k.tail c.in_ok-version.version k.chain c.in_ok-version.chain (t.seen c.args.turns.now) (t.seen c.look.new.turns) first.later c.requires.goes_by first.ok in
    omega (arith, up, c.in_ok-write.ensures.rises)
