use Rattle.std.proofs.Common.{◌∙◌, sym, ap, subst, arith, refl, None}
use Rattle.std.proofs.lemmas.Result.{err_from_is_err_and}
use Rattle.delos_types.specs.declared.chain.Segment.{Segment}
use Rattle.virtual_log.specs.Turning.{OnlyOwn, IsAbove, FirstTurn}
use Rattle.virtual_log.specs.Causes.{HasCause}
use Rattle.virtual_log.specs.Tails.{IsFound}
use Rattle.virtual_log.proofs.Owning.{own_split}
use Rattle.virtual_log.proofs.OneTurn.{later_trans, cause_since, later_refl}
use Rattle.virtual_log.proofs.Appending.{above_since}
use Rattle.virtual_log.proofs.Going.{last_there, there_later, goes_later, goes_further, goes_behind, fewer}
use Rattle.virtual_log.proofs.Holding.{above_known}
use Rattle.virtual_log.proofs.Saying.{drawn_refl, drawn_then, draws_then}
use Rattle.virtual_log.proofs.Sealing.{seals_refl, seals_then}
use Rattle.virtual_log.proofs.Calming.{calm_refl, calm_then}
use Rattle.virtual_log.proofs.Operating.{operates_refl, operates_then, left_then}
use Rattle.virtual_log.proofs.calls.tail_on.Goals as goal

pub find_tail-requires-clause-started : goal.find_tail-requires-clause-started
find_tail-requires-clause-started g c =
    let p = g.T.Law.Rules in
    let t = g.T.Turns in
    let l = c.segment in
    let i = l.invariant in
    let k = l.known in
    let now = t.seen l.turns in
    let last = c.last_of-last.result in
    let there = last_there p.law now k.version k.tail k.chain last i.later.legal i.goes_by c.last_of-last.ensures in
    there

pub returns-in_err-tail-clause-goes_by : goal.returns-in_err-tail-clause-goes_by
returns-in_err-tail-clause-goes_by g c =
    let p = g.T.Law.Rules in
    let t = g.T.Turns in
    let l = c.segment in
    let i = l.invariant in
    let k = l.known in
    let now = t.seen l.turns in
    let last = c.last_of-last.result in
    let there = last_there p.law now k.version k.tail k.chain last i.later.legal i.goes_by c.last_of-last.ensures in
    let mid = t.seen c.find_tail.new.turns in
    goes_later p.law now mid k.version k.tail k.chain c.in_err-tail.ensures.later i.goes_by

pub returns-in-Open-clause-goes_by : goal.returns-in-Open-clause-goes_by
returns-in-Open-clause-goes_by g c =
    let p = g.T.Law.Rules in
    let t = g.T.Turns in
    let l = c.segment in
    let i = l.invariant in
    let k = l.known in
    let now = t.seen l.turns in
    let last = c.last_of-last.result in
    let there = last_there p.law now k.version k.tail k.chain last i.later.legal i.goes_by c.last_of-last.ensures in
    let mid = t.seen c.find_tail.new.turns in
    let to_mid = c.in_ok-tail.ensures.later in
    let found = subst (IsFound (t.who l.turns) now last mid) c.in-Open.is c.in_ok-tail.ensures.found in
    goes_further p.law mid k.version k.tail c.in-Open.tail c.max-known.result k.chain last (goes_later p.law now mid k.version k.tail k.chain to_mid i.goes_by) c.last_of-last.ensures found.2 c.max-known.ensures

pub returns-in-Open-clause-above : goal.returns-in-Open-clause-above
returns-in-Open-clause-above g c =
    let p = g.T.Law.Rules in
    let t = g.T.Turns in
    let l = c.segment in
    let i = l.invariant in
    let k = l.known in
    let now = t.seen l.turns in
    let last = c.last_of-last.result in
    let there = last_there p.law now k.version k.tail k.chain last i.later.legal i.goes_by c.last_of-last.ensures in
    let mid = t.seen c.find_tail.new.turns in
    let to_mid = c.in_ok-tail.ensures.later in
    let found = subst (IsFound (t.who l.turns) now last mid) c.in-Open.is c.in_ok-tail.ensures.found in
    i.above c.in-Open.tail mid to_mid (subst (λ w. IsAbove w now c.in-Open.tail mid) i.who found.1)

pub returns-in-Open-clause-forward : goal.returns-in-Open-clause-forward
returns-in-Open-clause-forward g c =
    let p = g.T.Law.Rules in
    let t = g.T.Turns in
    let l = c.segment in
    let i = l.invariant in
    let k = l.known in
    let now = t.seen l.turns in
    let last = c.last_of-last.result in
    let there = last_there p.law now k.version k.tail k.chain last i.later.legal i.goes_by c.last_of-last.ensures in
    let mid = t.seen c.find_tail.new.turns in
    let to_mid = c.in_ok-tail.ensures.later in
    let found = subst (IsFound (t.who l.turns) now last mid) c.in-Open.is c.in_ok-tail.ensures.found in
    above_known p.law (t.who c.args.turns.now) (t.seen c.args.turns.now) mid c.args.known.now.version c.args.known.now.tail c.in-Open.tail c.args.known.now.chain c.requires.legal to_mid.legal c.requires.goes_by
    (i.above c.in-Open.tail mid to_mid (subst (λ w. IsAbove w now c.in-Open.tail mid) i.who found.1))

pub returns-in-Open-clause-exact : goal.returns-in-Open-clause-exact
returns-in-Open-clause-exact g c = λ alone.
    let t = g.T.Turns in
    let l = c.segment in
    let i = l.invariant in
    let now = t.seen l.turns in
    let mid = t.seen c.find_tail.new.turns in
    let to_mid = c.in_ok-tail.ensures.later in
    let found = subst (IsFound (t.who l.turns) now c.last_of-last.result mid) c.in-Open.is c.in_ok-tail.ensures.found in
    let parts = own_split (t.who c.args.turns.now) (t.seen c.args.turns.now) now mid i.later.more to_mid.more i.later.seen to_mid.seen alone in
    found.3 (subst (λ w. OnlyOwn w now mid) (sym i.who) parts.1)

pub chain_behind-requires-clause-started : goal.chain_behind-requires-clause-started
chain_behind-requires-clause-started g c =
    let p = g.T.Law.Rules in
    let t = g.T.Turns in
    let l = c.segment in
    let i = l.invariant in
    let k = l.known in
    let now = t.seen l.turns in
    let last = c.last_of-last.result in
    let there = last_there p.law now k.version k.tail k.chain last i.later.legal i.goes_by c.last_of-last.ensures in
    let mid = t.seen c.find_tail.new.turns in
    let to_mid = c.in_ok-tail.ensures.later in
    there_later p.law now mid last.id last.start to_mid there

pub returns-in_err-version-clause-goes_by : goal.returns-in_err-version-clause-goes_by
returns-in_err-version-clause-goes_by g c =
    let p = g.T.Law.Rules in
    let t = g.T.Turns in
    let l = c.segment in
    let i = l.invariant in
    let k = l.known in
    let now = t.seen l.turns in
    let last = c.last_of-last.result in
    let there = last_there p.law now k.version k.tail k.chain last i.later.legal i.goes_by c.last_of-last.ensures in
    let mid = t.seen c.find_tail.new.turns in
    let to_mid = c.in_ok-tail.ensures.later in
    let end = t.seen c.chain_behind.new.turns in
    goes_later p.law now end k.version k.tail k.chain (later_trans p.law now mid end to_mid c.in_err-version.ensures.later) i.goes_by

pub returns-in_err-version-clause-err : goal.returns-in_err-version-clause-err
returns-in_err-version-clause-err g c =
    let p = g.T.Law.Rules in
    let t = g.T.Turns in
    let l = c.segment in
    let i = l.invariant in
    let k = l.known in
    let now = t.seen l.turns in
    let last = c.last_of-last.result in
    let there = last_there p.law now k.version k.tail k.chain last i.later.legal i.goes_by c.last_of-last.ensures in
    let mid = t.seen c.find_tail.new.turns in
    let to_mid = c.in_ok-tail.ensures.later in
    let end = t.seen c.chain_behind.new.turns in
    let r = err_from_is_err_and c.from_residual-in_err-version.result c.from_residual-in_err-version.ensures.1 in
    let f = c.in_err-version.field-0.0 in
    let before = later_trans p.law (t.seen c.args.turns.now) now mid i.later to_mid in
    rw (r.1, r.2) (cause_since (t.who c.args.turns.now) f (t.seen c.args.turns.now) mid end before.more before.seen
    (subst (λ w. HasCause w mid f end) (c.in_ok-tail.ensures.who ∙ i.who) c.in_err-version.ensures.err))

pub segment-smaller : goal.segment-smaller
segment-smaller g c =
    let p = g.T.Law.Rules in
    let t = g.T.Turns in
    let l = c.segment in
    let i = l.invariant in
    let k = l.known in
    let now = t.seen l.turns in
    let last = c.last_of-last.result in
    let there = last_there p.law now k.version k.tail k.chain last i.later.legal i.goes_by c.last_of-last.ensures in
    let mid = t.seen c.find_tail.new.turns in
    let to_mid = c.in_ok-tail.ensures.later in
    let end = t.seen c.chain_behind.new.turns in
    let from = c.in_ok-version.ensures in
    let behind = goes_behind p.law now end k.version k.tail c.in_ok-version.version k.chain c.in_ok-version.chain last i.later.legal (later_trans p.law now mid end to_mid from.later) i.goes_by c.last_of-last.ensures from.given from.behind in
    let less = fewer p.law end c.in_ok-version.version k.tail last.id c.in_ok-version.chain from.later.legal behind from.behind in
    omega (arith, less, ap (λ (x : Segment). x.id) c.last_of-last.ensures)

pub segment-preserved : goal.segment-preserved
segment-preserved g c =
    let p = g.T.Law.Rules in
    let t = g.T.Turns in
    let l = c.segment in
    let i = l.invariant in
    let k = l.known in
    let now = t.seen l.turns in
    let last = c.last_of-last.result in
    let there = last_there p.law now k.version k.tail k.chain last i.later.legal i.goes_by c.last_of-last.ensures in
    let mid = t.seen c.find_tail.new.turns in
    let to_mid = c.in_ok-tail.ensures.later in
    let end = t.seen c.chain_behind.new.turns in
    let from = c.in_ok-version.ensures in
    let behind = goes_behind p.law now end k.version k.tail c.in_ok-version.version k.chain c.in_ok-version.chain last i.later.legal (later_trans p.law now mid end to_mid from.later) i.goes_by c.last_of-last.ensures from.given from.behind in
    let first = (subst (IsFound (t.who l.turns) now last mid) c.in_default.is c.in_ok-tail.ensures.found).2 in
    record {
      later = later_trans p.law (t.seen c.args.turns.now) now end i.later (later_trans p.law now mid end to_mid from.later);
      who = from.who ∙ (c.in_ok-tail.ensures.who ∙ i.who);
      goes_by = behind;
      tail = i.tail;
      rises = omega (arith, i.rises, from.behind, ap (λ (x : Segment). x.id) c.last_of-last.ensures);
      above = λ pos new later x.
          i.above pos new (later_trans p.law now end new (later_trans p.law now mid end to_mid from.later) later)
          (above_since p.law (t.who c.args.turns.now) pos now mid end new (subst (λ w. FirstTurn w now mid) i.who first) from.later later x);
      unsealed =
          let who = t.who c.args.turns.now in
          let old = t.seen c.args.turns.now in
          seals_then who (t.who c.find_tail.new.turns) old (t.seen c.find_tail.new.turns) (t.seen c.chain_behind.new.turns) (c.in_ok-tail.ensures.who ∙ i.who) (seals_then who (t.who l.turns) old now (t.seen c.find_tail.new.turns) i.who i.unsealed c.in_ok-tail.ensures.unsealed) c.in_ok-version.ensures.unsealed;
      calm =
          let who = t.who c.args.turns.now in
          let old = t.seen c.args.turns.now in
          calm_then who (t.who c.find_tail.new.turns) old (t.seen c.find_tail.new.turns) (t.seen c.chain_behind.new.turns) (c.in_ok-tail.ensures.who ∙ i.who) (calm_then who (t.who l.turns) old now (t.seen c.find_tail.new.turns) i.who i.calm c.in_ok-tail.ensures.calm) c.in_ok-version.ensures.calm;
      closes =
          let who = t.who c.args.turns.now in
          let old = t.seen c.args.turns.now in
          operates_then who (t.who c.find_tail.new.turns) old (t.seen c.find_tail.new.turns) (t.seen c.chain_behind.new.turns) (c.in_ok-tail.ensures.who ∙ i.who) (operates_then who (t.who l.turns) old now (t.seen c.find_tail.new.turns) i.who i.closes c.in_ok-tail.ensures.closes) c.in_ok-version.ensures.closes;
      draws =
          let who = t.who c.args.turns.now in
          let old = t.seen c.args.turns.now in
          drawn_then who (t.who c.find_tail.new.turns) old (t.seen c.find_tail.new.turns) (t.seen c.chain_behind.new.turns) (c.in_ok-tail.ensures.who ∙ i.who) (drawn_then who (t.who l.turns) old now (t.seen c.find_tail.new.turns) i.who i.draws c.in_ok-tail.ensures.draws) c.in_ok-version.ensures.draws;
    }

pub segment-init : goal.segment-init
segment-init g c =
    let p = g.T.Law.Rules in
    let t = g.T.Turns in
    let old = t.seen c.args.turns.now in
    record {
      later = later_refl p.law old c.requires.legal;
      who = refl;
      goes_by = c.requires.goes_by;
      tail = refl;
      rises = omega arith;
      above = λ pos new later x. x;
      unsealed = seals_refl (t.who c.args.turns.now) old;
      calm = calm_refl (t.who c.args.turns.now) old;
      closes = operates_refl (t.who c.args.turns.now) None old;
      draws = drawn_refl (t.who c.args.turns.now) old;
    }

pub returns-in_err-tail-clause-unsealed : goal.returns-in_err-tail-clause-unsealed
returns-in_err-tail-clause-unsealed g c =
    let t = g.T.Turns in
    let who = t.who c.args.turns.now in
    let old = t.seen c.args.turns.now in
    let l = c.segment in
    let i = l.invariant in
    let now = t.seen l.turns in
    seals_then who (t.who l.turns) old now (t.seen c.find_tail.new.turns) i.who i.unsealed c.in_err-tail.ensures.unsealed

pub returns-in_err-tail-clause-memory : goal.returns-in_err-tail-clause-memory
returns-in_err-tail-clause-memory g c =
    let t = g.T.Turns in
    let who = t.who c.args.turns.now in
    let old = t.seen c.args.turns.now in
    let l = c.segment in
    let i = l.invariant in
    let now = t.seen l.turns in
    let r = err_from_is_err_and c.from_residual.result c.from_residual.ensures.1 in
    rw (r.1, r.2) (λ is. calm_then who (t.who l.turns) old now (t.seen c.find_tail.new.turns) i.who i.calm (c.in_err-tail.ensures.memory is))

pub returns-in-Open-clause-unsealed : goal.returns-in-Open-clause-unsealed
returns-in-Open-clause-unsealed g c =
    let t = g.T.Turns in
    let who = t.who c.args.turns.now in
    let old = t.seen c.args.turns.now in
    let l = c.segment in
    let i = l.invariant in
    let now = t.seen l.turns in
    seals_then who (t.who l.turns) old now (t.seen c.find_tail.new.turns) i.who i.unsealed c.in_ok-tail.ensures.unsealed

pub returns-in-Open-clause-calm : goal.returns-in-Open-clause-calm
returns-in-Open-clause-calm g c =
    let t = g.T.Turns in
    let who = t.who c.args.turns.now in
    let old = t.seen c.args.turns.now in
    let l = c.segment in
    let i = l.invariant in
    let now = t.seen l.turns in
    calm_then who (t.who l.turns) old now (t.seen c.find_tail.new.turns) i.who i.calm c.in_ok-tail.ensures.calm

pub returns-in_err-version-clause-unsealed : goal.returns-in_err-version-clause-unsealed
returns-in_err-version-clause-unsealed g c =
    let t = g.T.Turns in
    let who = t.who c.args.turns.now in
    let old = t.seen c.args.turns.now in
    let l = c.segment in
    let i = l.invariant in
    let now = t.seen l.turns in
    seals_then who (t.who c.find_tail.new.turns) old (t.seen c.find_tail.new.turns) (t.seen c.chain_behind.new.turns) (c.in_ok-tail.ensures.who ∙ i.who) (seals_then who (t.who l.turns) old now (t.seen c.find_tail.new.turns) i.who i.unsealed c.in_ok-tail.ensures.unsealed) c.in_err-version.ensures.unsealed

pub returns-in_err-version-clause-memory : goal.returns-in_err-version-clause-memory
returns-in_err-version-clause-memory g c =
    let t = g.T.Turns in
    let who = t.who c.args.turns.now in
    let old = t.seen c.args.turns.now in
    let l = c.segment in
    let i = l.invariant in
    let now = t.seen l.turns in
    let r = err_from_is_err_and c.from_residual-in_err-version.result c.from_residual-in_err-version.ensures.1 in
    rw (r.1, r.2) (λ is. calm_then who (t.who c.find_tail.new.turns) old (t.seen c.find_tail.new.turns) (t.seen c.chain_behind.new.turns) (c.in_ok-tail.ensures.who ∙ i.who) (calm_then who (t.who l.turns) old now (t.seen c.find_tail.new.turns) i.who i.calm c.in_ok-tail.ensures.calm) (c.in_err-version.ensures.memory is))

pub returns-in_err-tail-clause-closes : goal.returns-in_err-tail-clause-closes
returns-in_err-tail-clause-closes g c =
    let t = g.T.Turns in
    let who = t.who c.args.turns.now in
    let old = t.seen c.args.turns.now in
    let l = c.segment in
    let i = l.invariant in
    let now = t.seen l.turns in
    let r = err_from_is_err_and c.from_residual.result c.from_residual.ensures.1 in
    rw (r.1, r.2) (left_then who (t.who l.turns) old now (t.seen c.find_tail.new.turns) c.in_err-tail.field-0.0 i.who i.closes c.in_err-tail.ensures.closes)

pub returns-in-Open-clause-closes : goal.returns-in-Open-clause-closes
returns-in-Open-clause-closes g c =
    let t = g.T.Turns in
    let who = t.who c.args.turns.now in
    let old = t.seen c.args.turns.now in
    let l = c.segment in
    let i = l.invariant in
    let now = t.seen l.turns in
    operates_then who (t.who l.turns) old now (t.seen c.find_tail.new.turns) i.who i.closes c.in_ok-tail.ensures.closes

pub returns-in_err-version-clause-closes : goal.returns-in_err-version-clause-closes
returns-in_err-version-clause-closes g c =
    let t = g.T.Turns in
    let who = t.who c.args.turns.now in
    let old = t.seen c.args.turns.now in
    let l = c.segment in
    let i = l.invariant in
    let now = t.seen l.turns in
    let r = err_from_is_err_and c.from_residual-in_err-version.result c.from_residual-in_err-version.ensures.1 in
    rw (r.1, r.2) (left_then who (t.who c.find_tail.new.turns) old (t.seen c.find_tail.new.turns) (t.seen c.chain_behind.new.turns) c.in_err-version.field-0.0 (c.in_ok-tail.ensures.who ∙ i.who) (operates_then who (t.who l.turns) old now (t.seen c.find_tail.new.turns) i.who i.closes c.in_ok-tail.ensures.closes) c.in_err-version.ensures.closes)

pub returns-in_err-tail-clause-err : goal.returns-in_err-tail-clause-err
returns-in_err-tail-clause-err g c =
    let t = g.T.Turns in
    let who = t.who c.args.turns.now in
    let old = t.seen c.args.turns.now in
    let l = c.segment in
    let i = l.invariant in
    let now = t.seen l.turns in
    let new = t.seen c.find_tail.new.turns in
    let f = c.in_err-tail.field-0.0 in
    let r = err_from_is_err_and c.from_residual.result c.from_residual.ensures.1 in
    rw (r.1, r.2) (cause_since who f old now new i.later.more i.later.seen (subst (λ w. HasCause w now f new) i.who c.in_err-tail.ensures.err))

pub returns-in_err-tail-clause-rises : goal.returns-in_err-tail-clause-rises
returns-in_err-tail-clause-rises g c = c.segment.invariant.rises

pub returns-in-Open-clause-rises : goal.returns-in-Open-clause-rises
returns-in-Open-clause-rises g c = c.segment.invariant.rises

pub returns-in_err-version-clause-rises : goal.returns-in_err-version-clause-rises
returns-in_err-version-clause-rises g c = c.segment.invariant.rises

pub returns-in_err-tail-clause-draws : goal.returns-in_err-tail-clause-draws
returns-in_err-tail-clause-draws g c =
    let t = g.T.Turns in
    let who = t.who c.args.turns.now in
    let old = t.seen c.args.turns.now in
    let l = c.segment in
    let i = l.invariant in
    let now = t.seen l.turns in
    let r = err_from_is_err_and c.from_residual.result c.from_residual.ensures.1 in
    rw (r.1, r.2) (draws_then _ who (t.who l.turns) old now (t.seen c.find_tail.new.turns) c.in_err-tail.field-0.0 i.who i.draws c.in_err-tail.ensures.draws)

pub returns-in-Open-clause-draws : goal.returns-in-Open-clause-draws
returns-in-Open-clause-draws g c =
    let t = g.T.Turns in
    let who = t.who c.args.turns.now in
    let old = t.seen c.args.turns.now in
    let l = c.segment in
    let i = l.invariant in
    let now = t.seen l.turns in
    drawn_then who (t.who l.turns) old now (t.seen c.find_tail.new.turns) i.who i.draws c.in_ok-tail.ensures.draws

pub returns-in_err-version-clause-draws : goal.returns-in_err-version-clause-draws
returns-in_err-version-clause-draws g c =
    let t = g.T.Turns in
    let who = t.who c.args.turns.now in
    let old = t.seen c.args.turns.now in
    let l = c.segment in
    let i = l.invariant in
    let now = t.seen l.turns in
    let r = err_from_is_err_and c.from_residual-in_err-version.result c.from_residual-in_err-version.ensures.1 in
    rw (r.1, r.2) (draws_then _ who (t.who c.find_tail.new.turns) old (t.seen c.find_tail.new.turns) (t.seen c.chain_behind.new.turns) c.in_err-version.field-0.0 (c.in_ok-tail.ensures.who ∙ i.who) (drawn_then who (t.who l.turns) old now (t.seen c.find_tail.new.turns) i.who i.draws c.in_ok-tail.ensures.draws) c.in_err-version.ensures.draws)
