use Rattle.std.proofs.Common.{◌≡◌, ◌∙◌, inr, ◌<◌, sym, ap, subst, ⊎_elim, IfNone, IfSome, arith, inl, refl, None}
use Rattle.std.proofs.lemmas.Result.{err_from_is_err_and}
use Rattle.legal_journal.specs.Journal.{state_of, tail_of, trim_of}
use Rattle.virtual_log.specs.Turning.{OnlyOwn}
use Rattle.virtual_log.specs.Causes.{HasCause}
use Rattle.virtual_log.proofs.Owning.{own_split}
use Rattle.virtual_log.proofs.OneTurn.{later_trans, later_continues, cause_since, later_refl}
use Rattle.virtual_log.proofs.Going.{goes_later, goes_now, trim_now}
use Rattle.virtual_log.specs.Holding.{Holds}
use Rattle.virtual_log.proofs.Holding.{reads_found}
use Rattle.virtual_log.proofs.Saying.{drawn_refl, none_drawn, drawn_then, draws_any, draws_then}
use Rattle.virtual_log.proofs.Sealing.{seals_refl, seals_then}
use Rattle.virtual_log.proofs.Calming.{calm_refl, calm_then}
use Rattle.virtual_log.proofs.Operating.{operates_refl, operates_then, left_then, closes_none}
use Rattle.virtual_log.proofs.Rising.{rises_now}
use Rattle.virtual_log.proofs.calls.read_from.Goals as goal

pub returns-in_err-entry-clause-goes_by : goal.returns-in_err-entry-clause-goes_by
returns-in_err-entry-clause-goes_by g c =
    let p = g.T.Law.Rules in
    let t = g.T.Turns in
    let l = c.trim in
    let i = l.invariant in
    let k = l.known in
    let now = t.seen l.turns in
    let mid = t.seen c.read_at.new.turns in
    goes_later p.law now mid k.version k.tail k.chain c.in_err-entry.ensures.later i.goes_by

pub returns-in-Some-clause-goes_by : goal.returns-in-Some-clause-goes_by
returns-in-Some-clause-goes_by g c =
    let p = g.T.Law.Rules in
    let t = g.T.Turns in
    let l = c.trim in
    let i = l.invariant in
    let k = l.known in
    let now = t.seen l.turns in
    let mid = t.seen c.read_at.new.turns in
    goes_later p.law now mid k.version k.tail k.chain c.in_ok-entry.ensures.later i.goes_by

pub returns-in-Some-clause-reads : goal.returns-in-Some-clause-reads
returns-in-Some-clause-reads g c =
    let p = g.T.Law.Rules in
    let t = g.T.Turns in
    let l = c.trim in
    let i = l.invariant in
    let k = l.known in
    let now = t.seen l.turns in
    let mid = t.seen c.read_at.new.turns in
    let goes = goes_later p.law now mid k.version k.tail k.chain c.in_ok-entry.ensures.later i.goes_by in
    let held = subst (λ o. IfSome o (λ e. Holds mid c.max-pos.result e)) c.in-Some.is c.in_ok-entry.ensures.held in
    (c.requires.some, reads_found p.law mid k.version k.tail c.args.min c.max-pos.result k.chain goes c.max-pos.ensures, held)

pub returns-in-Some-clause-quiet : goal.returns-in-Some-clause-quiet
returns-in-Some-clause-quiet g c = λ low alone.
    let p = g.T.Law.Rules in
    let t = g.T.Turns in
    let l = c.trim in
    let i = l.invariant in
    let start = t.seen c.args.turns.now in
    let now = t.seen l.turns in
    let mid = t.seen c.read_at.new.turns in
    let to_mid = c.in_ok-entry.ensures.later in
    let parts = own_split (t.who c.args.turns.now) start now mid i.later.more to_mid.more i.later.seen to_mid.seen alone in
    ⊎_elim
    (λ (same : now ≡ start). c.in_ok-entry.ensures.quiet (subst (λ w. OnlyOwn w now mid) (sym i.who) parts.1) ∙ ap (λ es. tail_of (state_of es)) same)
    (λ (cut : c.args.min < trim_of (state_of now)). absurd (omega (arith, low, cut, (later_continues p.law now mid to_mid).trim)))
    i.first

pub returns-in_err-version-clause-goes_by : goal.returns-in_err-version-clause-goes_by
returns-in_err-version-clause-goes_by g c =
    let p = g.T.Law.Rules in
    let t = g.T.Turns in
    let l = c.trim in
    let i = l.invariant in
    let k = l.known in
    let now = t.seen l.turns in
    let mid = t.seen c.read_at.new.turns in
    let end = t.seen c.look.new.turns in
    let to_mid = c.in_ok-entry.ensures.later in
    goes_later p.law now end k.version k.tail k.chain (later_trans p.law now mid end to_mid c.in_err-version.ensures.later) i.goes_by

pub returns-in_err-version-clause-err : goal.returns-in_err-version-clause-err
returns-in_err-version-clause-err g c =
    let p = g.T.Law.Rules in
    let t = g.T.Turns in
    let i = c.trim.invariant in
    let start = t.seen c.args.turns.now in
    let now = t.seen c.trim.turns in
    let mid = t.seen c.read_at.new.turns in
    let end = t.seen c.look.new.turns in
    let r = err_from_is_err_and c.from_residual-in_err-version.result c.from_residual-in_err-version.ensures.1 in
    let f = c.in_err-version.field-0.0 in
    let before = later_trans p.law start now mid i.later c.in_ok-entry.ensures.later in
    rw (r.1, r.2) (cause_since (t.who c.args.turns.now) f start mid end before.more before.seen
    (subst (λ w. HasCause w mid f end) (c.in_ok-entry.ensures.who ∙ i.who) c.in_err-version.ensures.err))

pub trim-smaller : goal.trim-smaller
trim-smaller g c =
    let p = g.T.Law.Rules in
    let t = g.T.Turns in
    let l = c.trim in
    let i = l.invariant in
    let k = l.known in
    let now = t.seen l.turns in
    let mid = t.seen c.read_at.new.turns in
    let end = t.seen c.look.new.turns in
    let to_mid = c.in_ok-entry.ensures.later in
    let to_end = c.in_ok-version.ensures.later in
    let cut = subst (λ o. IfNone o (c.max-pos.result < trim_of (state_of mid))) c.in_default.is c.in_ok-entry.ensures.cut in
    let on = later_continues p.law mid end to_end in
    let trim = trim_now p.law (t.who c.read_at.new.turns) c.in_ok-version.version c.in_ok-version.chain mid end to_end c.in_ok-version.ensures.ok in
    omega (arith, cut, on.trim, trim.0, trim.1, c.max-pos.ensures)

pub trim-preserved : goal.trim-preserved
trim-preserved g c =
    let p = g.T.Law.Rules in
    let t = g.T.Turns in
    let l = c.trim in
    let i = l.invariant in
    let k = l.known in
    let now = t.seen l.turns in
    let mid = t.seen c.read_at.new.turns in
    let end = t.seen c.look.new.turns in
    let to_mid = c.in_ok-entry.ensures.later in
    let to_end = c.in_ok-version.ensures.later in
    let at_mid = goes_later p.law now mid k.version k.tail k.chain to_mid i.goes_by in
    record {
      later = later_trans p.law (t.seen c.args.turns.now) now end i.later (later_trans p.law now mid end to_mid to_end);
      who = c.in_ok-version.ensures.who ∙ (c.in_ok-entry.ensures.who ∙ i.who);
      goes_by = goes_now p.law (t.who c.read_at.new.turns) k.version k.tail c.in_ok-version.version k.chain c.in_ok-version.chain mid end to_mid.legal to_end at_mid c.in_ok-version.ensures.ok;
      tail = i.tail;
      rises = omega (arith, i.rises, rises_now p.law (t.who c.read_at.new.turns) k.version k.tail c.in_ok-version.version k.chain c.in_ok-version.chain mid end to_end at_mid c.in_ok-version.ensures.ok);
      first =
          let cut = subst (λ o. IfNone o (c.max-pos.result < trim_of (state_of mid))) c.in_default.is c.in_ok-entry.ensures.cut in
          inr (omega (arith, cut, (later_continues p.law mid end to_end).trim, c.max-pos.ensures));
      unsealed =
          let who = t.who c.args.turns.now in
          let old = t.seen c.args.turns.now in
          seals_then who (t.who c.read_at.new.turns) old (t.seen c.read_at.new.turns) (t.seen c.look.new.turns) (c.in_ok-entry.ensures.who ∙ i.who) (seals_then who (t.who l.turns) old now (t.seen c.read_at.new.turns) i.who i.unsealed c.in_ok-entry.ensures.unsealed) c.in_ok-version.ensures.unsealed;
      calm =
          let who = t.who c.args.turns.now in
          let old = t.seen c.args.turns.now in
          calm_then who (t.who c.read_at.new.turns) old (t.seen c.read_at.new.turns) (t.seen c.look.new.turns) (c.in_ok-entry.ensures.who ∙ i.who) (calm_then who (t.who l.turns) old now (t.seen c.read_at.new.turns) i.who i.calm c.in_ok-entry.ensures.calm) c.in_ok-version.ensures.calm;
      closes =
          let who = t.who c.args.turns.now in
          let old = t.seen c.args.turns.now in
          operates_then who (t.who c.read_at.new.turns) old (t.seen c.read_at.new.turns) (t.seen c.look.new.turns) (c.in_ok-entry.ensures.who ∙ i.who) (operates_then who (t.who l.turns) old now (t.seen c.read_at.new.turns) i.who i.closes c.in_ok-entry.ensures.closes) c.in_ok-version.ensures.closes;
      draws =
          let who = t.who c.args.turns.now in
          let old = t.seen c.args.turns.now in
          drawn_then who (t.who c.read_at.new.turns) old (t.seen c.read_at.new.turns) (t.seen c.look.new.turns) (c.in_ok-entry.ensures.who ∙ i.who) (drawn_then who (t.who l.turns) old now (t.seen c.read_at.new.turns) i.who i.draws c.in_ok-entry.ensures.draws) (none_drawn c.in_ok-version.ensures.silent);
    }

pub trim-init : goal.trim-init
trim-init g c =
    let p = g.T.Law.Rules in
    let t = g.T.Turns in
    let old = t.seen c.args.turns.now in
    record {
      later = later_refl p.law old c.requires.legal;
      who = refl;
      goes_by = c.requires.goes_by;
      tail = refl;
      rises = omega arith;
      first = inl refl;
      unsealed = seals_refl (t.who c.args.turns.now) old;
      calm = calm_refl (t.who c.args.turns.now) old;
      closes = operates_refl (t.who c.args.turns.now) None old;
      draws = drawn_refl (t.who c.args.turns.now) old;
    }

pub returns-in_err-entry-clause-unsealed : goal.returns-in_err-entry-clause-unsealed
returns-in_err-entry-clause-unsealed g c =
    let t = g.T.Turns in
    let who = t.who c.args.turns.now in
    let old = t.seen c.args.turns.now in
    let l = c.trim in
    let i = l.invariant in
    let now = t.seen l.turns in
    seals_then who (t.who l.turns) old now (t.seen c.read_at.new.turns) i.who i.unsealed c.in_err-entry.ensures.unsealed

pub returns-in_err-entry-clause-memory : goal.returns-in_err-entry-clause-memory
returns-in_err-entry-clause-memory g c =
    let t = g.T.Turns in
    let who = t.who c.args.turns.now in
    let old = t.seen c.args.turns.now in
    let l = c.trim in
    let i = l.invariant in
    let now = t.seen l.turns in
    let r = err_from_is_err_and c.from_residual.result c.from_residual.ensures.1 in
    rw (r.1, r.2) (λ is. calm_then who (t.who l.turns) old now (t.seen c.read_at.new.turns) i.who i.calm (c.in_err-entry.ensures.memory is))

pub returns-in-Some-clause-unsealed : goal.returns-in-Some-clause-unsealed
returns-in-Some-clause-unsealed g c =
    let t = g.T.Turns in
    let who = t.who c.args.turns.now in
    let old = t.seen c.args.turns.now in
    let l = c.trim in
    let i = l.invariant in
    let now = t.seen l.turns in
    seals_then who (t.who l.turns) old now (t.seen c.read_at.new.turns) i.who i.unsealed c.in_ok-entry.ensures.unsealed

pub returns-in-Some-clause-calm : goal.returns-in-Some-clause-calm
returns-in-Some-clause-calm g c =
    let t = g.T.Turns in
    let who = t.who c.args.turns.now in
    let old = t.seen c.args.turns.now in
    let l = c.trim in
    let i = l.invariant in
    let now = t.seen l.turns in
    calm_then who (t.who l.turns) old now (t.seen c.read_at.new.turns) i.who i.calm c.in_ok-entry.ensures.calm

pub returns-in_err-version-clause-unsealed : goal.returns-in_err-version-clause-unsealed
returns-in_err-version-clause-unsealed g c =
    let t = g.T.Turns in
    let who = t.who c.args.turns.now in
    let old = t.seen c.args.turns.now in
    let l = c.trim in
    let i = l.invariant in
    let now = t.seen l.turns in
    seals_then who (t.who c.read_at.new.turns) old (t.seen c.read_at.new.turns) (t.seen c.look.new.turns) (c.in_ok-entry.ensures.who ∙ i.who) (seals_then who (t.who l.turns) old now (t.seen c.read_at.new.turns) i.who i.unsealed c.in_ok-entry.ensures.unsealed) c.in_err-version.ensures.unsealed

pub returns-in_err-version-clause-memory : goal.returns-in_err-version-clause-memory
returns-in_err-version-clause-memory g c =
    let t = g.T.Turns in
    let who = t.who c.args.turns.now in
    let old = t.seen c.args.turns.now in
    let l = c.trim in
    let i = l.invariant in
    let now = t.seen l.turns in
    let r = err_from_is_err_and c.from_residual-in_err-version.result c.from_residual-in_err-version.ensures.1 in
    rw (r.1, r.2) (λ is. calm_then who (t.who c.read_at.new.turns) old (t.seen c.read_at.new.turns) (t.seen c.look.new.turns) (c.in_ok-entry.ensures.who ∙ i.who) (calm_then who (t.who l.turns) old now (t.seen c.read_at.new.turns) i.who i.calm c.in_ok-entry.ensures.calm) (c.in_err-version.ensures.memory is))

pub returns-in_err-entry-clause-closes : goal.returns-in_err-entry-clause-closes
returns-in_err-entry-clause-closes g c =
    let t = g.T.Turns in
    let who = t.who c.args.turns.now in
    let old = t.seen c.args.turns.now in
    let l = c.trim in
    let i = l.invariant in
    let now = t.seen l.turns in
    let r = err_from_is_err_and c.from_residual.result c.from_residual.ensures.1 in
    rw (r.1, r.2) (left_then who (t.who l.turns) old now (t.seen c.read_at.new.turns) c.in_err-entry.field-0.0 i.who i.closes c.in_err-entry.ensures.closes)

pub returns-in-Some-clause-closes : goal.returns-in-Some-clause-closes
returns-in-Some-clause-closes g c =
    let t = g.T.Turns in
    let who = t.who c.args.turns.now in
    let old = t.seen c.args.turns.now in
    let l = c.trim in
    let i = l.invariant in
    let now = t.seen l.turns in
    operates_then who (t.who l.turns) old now (t.seen c.read_at.new.turns) i.who i.closes c.in_ok-entry.ensures.closes

pub returns-in_err-version-clause-closes : goal.returns-in_err-version-clause-closes
returns-in_err-version-clause-closes g c =
    let t = g.T.Turns in
    let who = t.who c.args.turns.now in
    let old = t.seen c.args.turns.now in
    let l = c.trim in
    let i = l.invariant in
    let now = t.seen l.turns in
    closes_none _ _ _ c.from_residual-in_err-version.result (operates_then who (t.who c.read_at.new.turns) old (t.seen c.read_at.new.turns) (t.seen c.look.new.turns) (c.in_ok-entry.ensures.who ∙ i.who) (operates_then who (t.who l.turns) old now (t.seen c.read_at.new.turns) i.who i.closes c.in_ok-entry.ensures.closes) c.in_err-version.ensures.closes)

pub returns-in_err-entry-clause-err : goal.returns-in_err-entry-clause-err
returns-in_err-entry-clause-err g c =
    let t = g.T.Turns in
    let who = t.who c.args.turns.now in
    let old = t.seen c.args.turns.now in
    let l = c.trim in
    let i = l.invariant in
    let now = t.seen l.turns in
    let new = t.seen c.read_at.new.turns in
    let f = c.in_err-entry.field-0.0 in
    let r = err_from_is_err_and c.from_residual.result c.from_residual.ensures.1 in
    rw (r.1, r.2) (cause_since who f old now new i.later.more i.later.seen (subst (λ w. HasCause w now f new) i.who c.in_err-entry.ensures.err))

pub returns-in_err-entry-clause-rises : goal.returns-in_err-entry-clause-rises
returns-in_err-entry-clause-rises g c = c.trim.invariant.rises

pub returns-in-Some-clause-rises : goal.returns-in-Some-clause-rises
returns-in-Some-clause-rises g c = c.trim.invariant.rises

pub returns-in_err-version-clause-rises : goal.returns-in_err-version-clause-rises
returns-in_err-version-clause-rises g c = c.trim.invariant.rises

pub returns-in_err-entry-clause-draws : goal.returns-in_err-entry-clause-draws
returns-in_err-entry-clause-draws g c =
    let t = g.T.Turns in
    let who = t.who c.args.turns.now in
    let old = t.seen c.args.turns.now in
    let l = c.trim in
    let i = l.invariant in
    let now = t.seen l.turns in
    let r = err_from_is_err_and c.from_residual.result c.from_residual.ensures.1 in
    rw (r.1, r.2) (draws_then _ who (t.who l.turns) old now (t.seen c.read_at.new.turns) c.in_err-entry.field-0.0 i.who i.draws c.in_err-entry.ensures.draws)

pub returns-in-Some-clause-draws : goal.returns-in-Some-clause-draws
returns-in-Some-clause-draws g c =
    let t = g.T.Turns in
    let who = t.who c.args.turns.now in
    let old = t.seen c.args.turns.now in
    let l = c.trim in
    let i = l.invariant in
    let now = t.seen l.turns in
    drawn_then who (t.who l.turns) old now (t.seen c.read_at.new.turns) i.who i.draws c.in_ok-entry.ensures.draws

pub returns-in_err-version-clause-draws : goal.returns-in_err-version-clause-draws
returns-in_err-version-clause-draws g c =
    let t = g.T.Turns in
    let who = t.who c.args.turns.now in
    let old = t.seen c.args.turns.now in
    let l = c.trim in
    let i = l.invariant in
    let now = t.seen l.turns in
    draws_any _ _ _ c.from_residual-in_err-version.result (drawn_then who (t.who c.read_at.new.turns) old (t.seen c.read_at.new.turns) (t.seen c.look.new.turns) (c.in_ok-entry.ensures.who ∙ i.who) (drawn_then who (t.who l.turns) old now (t.seen c.read_at.new.turns) i.who i.draws c.in_ok-entry.ensures.draws) (none_drawn c.in_err-version.ensures.silent))
