use Rattle.std.proofs.Common.{◌∙◌, refl, subst, arith, None}
use Rattle.std.proofs.lemmas.Result.{err_from_is_err_and}
use Rattle.legal_journal.specs.declared.events.FabricCall.TheVariants.{WriteChain}
use Rattle.legal_journal.specs.declared.events.FabricAnswer.TheVariants.{Written, Conflict}
use Rattle.legal_journal.specs.Turns.{IsTurn}
use Rattle.virtual_log.specs.declared.write.Settled.TheVariants as settled
use Rattle.virtual_log.specs.Changing.{told_by}
use Rattle.virtual_log.specs.Causes.{HasCause}
use Rattle.virtual_log.proofs.OneTurn.{nil, later_refl, later_trans, cause_since}
use Rattle.virtual_log.proofs.Writing.{wrote_refl, wrote_trans, wrote_by}
use Rattle.virtual_log.proofs.Sealing.{seals_refl, seals_then}
use Rattle.virtual_log.proofs.Saying.{none_refl, none_then}
use Rattle.virtual_log.proofs.Calming.{calm_refl, calm_then}
use Rattle.virtual_log.proofs.Going.{goes_later}
use Rattle.virtual_log.proofs.Changing.{granted_later, is_chain, admits, may_change, changed_has, changed_goes, changed_made, lost_goes, lost_later, lost, lacks_still, settled_since, changed_rises, lost_rises}
use Rattle.virtual_log.proofs.Operating.{operates_refl, operates_then}
use Rattle.virtual_log.proofs.Attempts.{idle_refl, idle_then}
use Rattle.virtual_log.proofs.write.write.Goals as goal

pub made-requires-clause-chain : goal.made-requires-clause-chain
made-requires-clause-chain g c =
    let p = g.T.Law.Rules in
    let t = g.T.Turns in
    let l = c.write in
    let i = l.invariant in
    let k = l.known in
    let now = t.seen l.turns in
    is_chain p.law (t.who l.turns) now k.version k.tail k.chain i.later.legal i.goes_by

pub made-requires-clause-fits : goal.made-requires-clause-fits
made-requires-clause-fits g c =
    let p = g.T.Law.Rules in
    let t = g.T.Turns in
    let l = c.write in
    let i = l.invariant in
    let k = l.known in
    let now = t.seen l.turns in
    admits p.law (t.who l.turns) now k.version k.tail k.chain i.later.legal i.goes_by c.args.change i.granted i.lacks

pub write_over-requires : goal.write_over-requires
write_over-requires g c =
    let p = g.T.Law.Rules in
    let t = g.T.Turns in
    let l = c.write in
    let i = l.invariant in
    let k = l.known in
    let now = t.seen l.turns in
    record { may = may_change p.law (t.who l.turns) now k.version k.tail k.chain i.later.legal i.goes_by c.args.change _ i.granted i.lacks c.in_ok-next.ensures }

pub returns-in_err-version-clause-goes_by : goal.returns-in_err-version-clause-goes_by
returns-in_err-version-clause-goes_by g c =
    let p = g.T.Law.Rules in
    let t = g.T.Turns in
    let l = c.write in
    let i = l.invariant in
    let k = l.known in
    let now = t.seen l.turns in
    let who = t.who c.args.turns.now in
    let old = t.seen c.args.turns.now in
    let user = t.who l.turns in
    let new = t.seen c.write_over.new.turns in
    goes_later p.law now new k.version k.tail k.chain c.in_err-version.ensures.later i.goes_by

pub returns-in_err-version-clause-unsealed : goal.returns-in_err-version-clause-unsealed
returns-in_err-version-clause-unsealed g c =
    let p = g.T.Law.Rules in
    let t = g.T.Turns in
    let l = c.write in
    let i = l.invariant in
    let k = l.known in
    let now = t.seen l.turns in
    let who = t.who c.args.turns.now in
    let old = t.seen c.args.turns.now in
    let user = t.who l.turns in
    let new = t.seen c.write_over.new.turns in
    seals_then who user old now new i.who i.unsealed c.in_err-version.ensures.unsealed

pub returns-in_err-version-clause-silent : goal.returns-in_err-version-clause-silent
returns-in_err-version-clause-silent g c =
    let p = g.T.Law.Rules in
    let t = g.T.Turns in
    let l = c.write in
    let i = l.invariant in
    let k = l.known in
    let now = t.seen l.turns in
    let who = t.who c.args.turns.now in
    let old = t.seen c.args.turns.now in
    let user = t.who l.turns in
    let new = t.seen c.write_over.new.turns in
    none_then who user old now new i.who i.silent c.in_err-version.ensures.silent

pub returns-in_err-version-clause-err : goal.returns-in_err-version-clause-err
returns-in_err-version-clause-err g c =
    let p = g.T.Law.Rules in
    let t = g.T.Turns in
    let l = c.write in
    let i = l.invariant in
    let k = l.known in
    let now = t.seen l.turns in
    let who = t.who c.args.turns.now in
    let old = t.seen c.args.turns.now in
    let user = t.who l.turns in
    let new = t.seen c.write_over.new.turns in
    let r = err_from_is_err_and c.from_residual-in_err-version.result c.from_residual-in_err-version.ensures.1 in
    rw (r.1, r.2) (let f = c.in_err-version.field-0.0 in cause_since who f old now new i.later.more i.later.seen (subst (λ w. HasCause w now f new) i.who c.in_err-version.ensures.err))

pub returns-in_err-version-clause-memory : goal.returns-in_err-version-clause-memory
returns-in_err-version-clause-memory g c =
    let p = g.T.Law.Rules in
    let t = g.T.Turns in
    let l = c.write in
    let i = l.invariant in
    let k = l.known in
    let now = t.seen l.turns in
    let who = t.who c.args.turns.now in
    let old = t.seen c.args.turns.now in
    let user = t.who l.turns in
    let new = t.seen c.write_over.new.turns in
    let r = err_from_is_err_and c.from_residual-in_err-version.result c.from_residual-in_err-version.ensures.1 in
    rw (r.1, r.2) (λ is. calm_then who user old now new i.who i.calm (c.in_err-version.ensures.memory is))

pub returns-in-Written-clause-goes_by : goal.returns-in-Written-clause-goes_by
returns-in-Written-clause-goes_by g c =
    let p = g.T.Law.Rules in
    let t = g.T.Turns in
    let l = c.write in
    let i = l.invariant in
    let k = l.known in
    let now = t.seen l.turns in
    let who = t.who c.args.turns.now in
    let old = t.seen c.args.turns.now in
    let user = t.who l.turns in
    let new = t.seen c.write_over.new.turns in
    let turn : IsTurn p.law user now (WriteChain k.version c.in_ok-next.next) (Written c.in-Written.version) new = subst (λ r. IsTurn p.law user now (WriteChain k.version c.in_ok-next.next) (told_by r) new) c.in-Written.is c.in_ok-version.ensures.ok in
    changed_goes p.law (t.who l.turns) now k.version k.tail k.chain i.later.legal i.goes_by c.args.change c.in-Written.version c.in_ok-next.next c.in_ok-copy.copy new i.lacks c.in_ok-next.ensures c.in_ok-copy.ensures.cases turn

pub returns-in-Written-clause-has : goal.returns-in-Written-clause-has
returns-in-Written-clause-has g c =
    let p = g.T.Law.Rules in
    let t = g.T.Turns in
    let l = c.write in
    let i = l.invariant in
    let k = l.known in
    let now = t.seen l.turns in
    let who = t.who c.args.turns.now in
    let old = t.seen c.args.turns.now in
    let user = t.who l.turns in
    let new = t.seen c.write_over.new.turns in
    changed_has p.law (t.who l.turns) now k.version k.tail k.chain i.later.legal i.goes_by c.args.change c.in_ok-copy.copy i.lacks (c.in_ok-copy.ensures.cases ∙ c.in_ok-next.ensures)

pub returns-in-Written-clause-settled : goal.returns-in-Written-clause-settled
returns-in-Written-clause-settled g c =
    let p = g.T.Law.Rules in
    let t = g.T.Turns in
    let l = c.write in
    let i = l.invariant in
    let k = l.known in
    let now = t.seen l.turns in
    let who = t.who c.args.turns.now in
    let old = t.seen c.args.turns.now in
    let user = t.who l.turns in
    let new = t.seen c.write_over.new.turns in
    let turn : IsTurn p.law user now (WriteChain k.version c.in_ok-next.next) (Written c.in-Written.version) new = subst (λ r. IsTurn p.law user now (WriteChain k.version c.in_ok-next.next) (told_by r) new) c.in-Written.is c.in_ok-version.ensures.ok in
    settled_since who user old now new i.later.more c.args.change c.in-Written.version c.in_ok-copy.copy settled.Written i.who i.later.seen i.quiet
    (changed_made p.law (t.who l.turns) now k.version k.tail k.chain i.later.legal i.goes_by c.args.change c.in-Written.version c.in_ok-next.next c.in_ok-copy.copy new i.lacks c.in_ok-next.ensures c.in_ok-copy.ensures.cases turn)

pub returns-in-Written-clause-unsealed : goal.returns-in-Written-clause-unsealed
returns-in-Written-clause-unsealed g c =
    let p = g.T.Law.Rules in
    let t = g.T.Turns in
    let l = c.write in
    let i = l.invariant in
    let k = l.known in
    let now = t.seen l.turns in
    let who = t.who c.args.turns.now in
    let old = t.seen c.args.turns.now in
    let user = t.who l.turns in
    let new = t.seen c.write_over.new.turns in
    seals_then who user old now new i.who i.unsealed c.in_ok-version.ensures.unsealed

pub returns-in-Written-clause-silent : goal.returns-in-Written-clause-silent
returns-in-Written-clause-silent g c =
    let p = g.T.Law.Rules in
    let t = g.T.Turns in
    let l = c.write in
    let i = l.invariant in
    let k = l.known in
    let now = t.seen l.turns in
    let who = t.who c.args.turns.now in
    let old = t.seen c.args.turns.now in
    let user = t.who l.turns in
    let new = t.seen c.write_over.new.turns in
    none_then who user old now new i.who i.silent c.in_ok-version.ensures.silent

pub returns-in-Written-clause-calm : goal.returns-in-Written-clause-calm
returns-in-Written-clause-calm g c =
    let p = g.T.Law.Rules in
    let t = g.T.Turns in
    let l = c.write in
    let i = l.invariant in
    let k = l.known in
    let now = t.seen l.turns in
    let who = t.who c.args.turns.now in
    let old = t.seen c.args.turns.now in
    let user = t.who l.turns in
    let new = t.seen c.write_over.new.turns in
    calm_then who user old now new i.who i.calm c.in_ok-version.ensures.calm

pub returns-then-is_in-clause-goes_by : goal.returns-then-is_in-clause-goes_by
returns-then-is_in-clause-goes_by g c =
    let p = g.T.Law.Rules in
    let t = g.T.Turns in
    let l = c.write in
    let i = l.invariant in
    let k = l.known in
    let now = t.seen l.turns in
    let who = t.who c.args.turns.now in
    let old = t.seen c.args.turns.now in
    let user = t.who l.turns in
    let new = t.seen c.write_over.new.turns in
    let turn : IsTurn p.law user now (WriteChain k.version c.in_ok-next.next) (Conflict c.in-Conflict.version c.in-Conflict.chain) new = subst (λ r. IsTurn p.law user now (WriteChain k.version c.in_ok-next.next) (told_by r) new) c.in-Conflict.is c.in_ok-version.ensures.ok in
    lost_goes p.law (t.who l.turns) now k.version k.tail k.chain i.later.legal i.goes_by c.in-Conflict.version c.in_ok-next.next c.in-Conflict.chain new turn

pub returns-then-is_in-clause-settled : goal.returns-then-is_in-clause-settled
returns-then-is_in-clause-settled g c =
    let p = g.T.Law.Rules in
    let t = g.T.Turns in
    let l = c.write in
    let i = l.invariant in
    let k = l.known in
    let now = t.seen l.turns in
    let who = t.who c.args.turns.now in
    let old = t.seen c.args.turns.now in
    let user = t.who l.turns in
    let new = t.seen c.write_over.new.turns in
    let turn : IsTurn p.law user now (WriteChain k.version c.in_ok-next.next) (Conflict c.in-Conflict.version c.in-Conflict.chain) new = subst (λ r. IsTurn p.law user now (WriteChain k.version c.in_ok-next.next) (told_by r) new) c.in-Conflict.is c.in_ok-version.ensures.ok in
    settled_since who user old now new i.later.more c.args.change c.in-Conflict.version c.in-Conflict.chain settled.Found i.who i.later.seen i.quiet
    (lost p.law (t.who l.turns) now k.version k.tail k.chain i.later.legal i.goes_by c.in-Conflict.version c.in_ok-next.next c.in-Conflict.chain new turn)

pub returns-then-is_in-clause-unsealed : goal.returns-then-is_in-clause-unsealed
returns-then-is_in-clause-unsealed g c =
    let p = g.T.Law.Rules in
    let t = g.T.Turns in
    let l = c.write in
    let i = l.invariant in
    let k = l.known in
    let now = t.seen l.turns in
    let who = t.who c.args.turns.now in
    let old = t.seen c.args.turns.now in
    let user = t.who l.turns in
    let new = t.seen c.write_over.new.turns in
    seals_then who user old now new i.who i.unsealed c.in_ok-version.ensures.unsealed

pub returns-then-is_in-clause-silent : goal.returns-then-is_in-clause-silent
returns-then-is_in-clause-silent g c =
    let p = g.T.Law.Rules in
    let t = g.T.Turns in
    let l = c.write in
    let i = l.invariant in
    let k = l.known in
    let now = t.seen l.turns in
    let who = t.who c.args.turns.now in
    let old = t.seen c.args.turns.now in
    let user = t.who l.turns in
    let new = t.seen c.write_over.new.turns in
    none_then who user old now new i.who i.silent c.in_ok-version.ensures.silent

pub returns-then-is_in-clause-calm : goal.returns-then-is_in-clause-calm
returns-then-is_in-clause-calm g c =
    let p = g.T.Law.Rules in
    let t = g.T.Turns in
    let l = c.write in
    let i = l.invariant in
    let k = l.known in
    let now = t.seen l.turns in
    let who = t.who c.args.turns.now in
    let old = t.seen c.args.turns.now in
    let user = t.who l.turns in
    let new = t.seen c.write_over.new.turns in
    calm_then who user old now new i.who i.calm c.in_ok-version.ensures.calm

pub write-smaller : goal.write-smaller
write-smaller g c =
    let p = g.T.Law.Rules in
    let t = g.T.Turns in
    let l = c.write in
    let i = l.invariant in
    let k = l.known in
    let now = t.seen l.turns in
    let who = t.who c.args.turns.now in
    let old = t.seen c.args.turns.now in
    let user = t.who l.turns in
    let new = t.seen c.write_over.new.turns in
    let turn : IsTurn p.law user now (WriteChain k.version c.in_ok-next.next) (Conflict c.in-Conflict.version c.in-Conflict.chain) new = subst (λ r. IsTurn p.law user now (WriteChain k.version c.in_ok-next.next) (told_by r) new) c.in-Conflict.is c.in_ok-version.ensures.ok in
    let x = lost_later p.law (t.who l.turns) now k.version k.tail k.chain i.later.legal i.goes_by c.in-Conflict.version c.in_ok-next.next c.in-Conflict.chain new turn in
    omega (arith, x.0, x.1)

pub write-preserved : goal.write-preserved
write-preserved g c =
    let p = g.T.Law.Rules in
    let t = g.T.Turns in
    let l = c.write in
    let i = l.invariant in
    let k = l.known in
    let now = t.seen l.turns in
    let who = t.who c.args.turns.now in
    let old = t.seen c.args.turns.now in
    let user = t.who l.turns in
    let new = t.seen c.write_over.new.turns in
    let turn : IsTurn p.law user now (WriteChain k.version c.in_ok-next.next) (Conflict c.in-Conflict.version c.in-Conflict.chain) new = subst (λ r. IsTurn p.law user now (WriteChain k.version c.in_ok-next.next) (told_by r) new) c.in-Conflict.is c.in_ok-version.ensures.ok in
    let step = c.in_ok-version.ensures.later in
    record {
      later = later_trans p.law old now new i.later step;
      who = c.in_ok-version.ensures.who ∙ i.who;
      goes_by = lost_goes p.law (t.who l.turns) now k.version k.tail k.chain i.later.legal i.goes_by c.in-Conflict.version c.in_ok-next.next c.in-Conflict.chain new turn;
      tail = i.tail;
      rises = omega (arith, i.rises, lost_rises p.law (t.who l.turns) now k.version k.tail k.chain i.later.legal i.goes_by c.in-Conflict.version c.in_ok-next.next c.in-Conflict.chain new turn);
      granted = granted_later p.law k.tail now new c.args.change step i.granted;
      lacks = lacks_still p.law (t.who l.turns) now k.version k.tail k.chain i.later.legal i.goes_by c.args.change c.in-Conflict.version c.in_ok-next.next c.in-Conflict.chain new i.lacks turn c.is_in.result c.if-is_in.false c.is_in.ensures;
      quiet = wrote_trans who old now new i.quiet (wrote_by who user now new i.who (lost p.law (t.who l.turns) now k.version k.tail k.chain i.later.legal i.goes_by c.in-Conflict.version c.in_ok-next.next c.in-Conflict.chain new turn).quiet);
      unsealed = seals_then who user old now new i.who i.unsealed c.in_ok-version.ensures.unsealed;
      idle = idle_then who user old now new i.who i.idle c.in_ok-version.ensures.idle;
      silent = none_then who user old now new i.who i.silent c.in_ok-version.ensures.silent;
      calm = calm_then who user old now new i.who i.calm c.in_ok-version.ensures.calm;
      closes = operates_then who user old now new i.who i.closes c.in_ok-version.ensures.closes;
    }

pub write-init : goal.write-init
write-init g c =
    let p = g.T.Law.Rules in
    let t = g.T.Turns in
    let who = t.who c.args.turns.now in
    let old = t.seen c.args.turns.now in
    record {
      later = later_refl p.law old c.requires.legal;
      who = refl;
      goes_by = c.requires.goes_by;
      tail = refl;
      rises = omega arith;
      granted = c.requires.granted;
      lacks = c.requires.lacks;
      quiet = wrote_refl who old (nil old);
      unsealed = seals_refl who old;
      idle = idle_refl who old;
      silent = none_refl who old;
      calm = calm_refl who old;
      closes = operates_refl who None old;
    }

pub returns-in_err-version-clause-closes : goal.returns-in_err-version-clause-closes
returns-in_err-version-clause-closes g c =
    let p = g.T.Law.Rules in
    let t = g.T.Turns in
    let l = c.write in
    let i = l.invariant in
    let k = l.known in
    let now = t.seen l.turns in
    let who = t.who c.args.turns.now in
    let old = t.seen c.args.turns.now in
    let user = t.who l.turns in
    let new = t.seen c.write_over.new.turns in
    operates_then who user old now new i.who i.closes c.in_err-version.ensures.closes

pub returns-in-Written-clause-closes : goal.returns-in-Written-clause-closes
returns-in-Written-clause-closes g c =
    let p = g.T.Law.Rules in
    let t = g.T.Turns in
    let l = c.write in
    let i = l.invariant in
    let k = l.known in
    let now = t.seen l.turns in
    let who = t.who c.args.turns.now in
    let old = t.seen c.args.turns.now in
    let user = t.who l.turns in
    let new = t.seen c.write_over.new.turns in
    operates_then who user old now new i.who i.closes c.in_ok-version.ensures.closes

pub returns-then-is_in-clause-closes : goal.returns-then-is_in-clause-closes
returns-then-is_in-clause-closes g c =
    let p = g.T.Law.Rules in
    let t = g.T.Turns in
    let l = c.write in
    let i = l.invariant in
    let k = l.known in
    let now = t.seen l.turns in
    let who = t.who c.args.turns.now in
    let old = t.seen c.args.turns.now in
    let user = t.who l.turns in
    let new = t.seen c.write_over.new.turns in
    operates_then who user old now new i.who i.closes c.in_ok-version.ensures.closes

pub returns-in_err-version-clause-rises : goal.returns-in_err-version-clause-rises
returns-in_err-version-clause-rises g c = c.write.invariant.rises

pub returns-in-Written-clause-rises : goal.returns-in-Written-clause-rises
returns-in-Written-clause-rises g c =
    let p = g.T.Law.Rules in
    let t = g.T.Turns in
    let l = c.write in
    let i = l.invariant in
    let k = l.known in
    let now = t.seen l.turns in
    let up = changed_rises p.law (t.who l.turns) now k.version k.tail k.chain i.later.legal i.goes_by c.args.change c.in_ok-copy.copy (c.in_ok-copy.ensures.cases ∙ c.in_ok-next.ensures) in
    omega (arith, i.rises, up)

pub returns-then-is_in-clause-rises : goal.returns-then-is_in-clause-rises
returns-then-is_in-clause-rises g c =
    let p = g.T.Law.Rules in
    let t = g.T.Turns in
    let l = c.write in
    let i = l.invariant in
    let k = l.known in
    let now = t.seen l.turns in
    let user = t.who l.turns in
    let new = t.seen c.write_over.new.turns in
    let turn : IsTurn p.law user now (WriteChain k.version c.in_ok-next.next) (Conflict c.in-Conflict.version c.in-Conflict.chain) new = subst (λ r. IsTurn p.law user now (WriteChain k.version c.in_ok-next.next) (told_by r) new) c.in-Conflict.is c.in_ok-version.ensures.ok in
    let up = lost_rises p.law user now k.version k.tail k.chain i.later.legal i.goes_by c.in-Conflict.version c.in_ok-next.next c.in-Conflict.chain new turn in
    omega (arith, i.rises, up)

pub returns-in_err-version-clause-idle : goal.returns-in_err-version-clause-idle
returns-in_err-version-clause-idle g c =
    let p = g.T.Law.Rules in
    let t = g.T.Turns in
    let l = c.write in
    let i = l.invariant in
    let k = l.known in
    let now = t.seen l.turns in
    let who = t.who c.args.turns.now in
    let old = t.seen c.args.turns.now in
    let user = t.who l.turns in
    let new = t.seen c.write_over.new.turns in
    idle_then who user old now new i.who i.idle c.in_err-version.ensures.idle

pub returns-in-Written-clause-idle : goal.returns-in-Written-clause-idle
returns-in-Written-clause-idle g c =
    let p = g.T.Law.Rules in
    let t = g.T.Turns in
    let l = c.write in
    let i = l.invariant in
    let k = l.known in
    let now = t.seen l.turns in
    let who = t.who c.args.turns.now in
    let old = t.seen c.args.turns.now in
    let user = t.who l.turns in
    let new = t.seen c.write_over.new.turns in
    idle_then who user old now new i.who i.idle c.in_ok-version.ensures.idle

pub returns-then-is_in-clause-idle : goal.returns-then-is_in-clause-idle
returns-then-is_in-clause-idle g c =
    let p = g.T.Law.Rules in
    let t = g.T.Turns in
    let l = c.write in
    let i = l.invariant in
    let k = l.known in
    let now = t.seen l.turns in
    let who = t.who c.args.turns.now in
    let old = t.seen c.args.turns.now in
    let user = t.who l.turns in
    let new = t.seen c.write_over.new.turns in
    idle_then who user old now new i.who i.idle c.in_ok-version.ensures.idle
