use Rattle.std.proofs.Common.{◌≡◌, ◌+◌, ◌<◌, ◌∙◌, length, refl, ap, sym, subst, arith}
use Rattle.virtual_log.proofs.OneTurn.{later_trans, later_refl}
use Rattle.base_engine.specs.Settling.{view_of, Carried, LandsOldest, Begins}
use Rattle.base_engine.proofs.Settling.{one_more, landed_more, landed_none, none_yet}
use Rattle.base_engine.proofs.Landing.{calm_before}
use Rattle.base_engine.proofs.Beginning.{begins_none, begins_then}
use Rattle.base_engine.proofs.settle.carry_all.Goals as goal

pub entry-preserved : goal.entry-preserved
entry-preserved g c =
    let p = g.L.Law.Rules in
    let t = g.L.SharedLog in
    let l = c.entry in
    let i = l.invariant in
    let e = c.in_ok-carry_oldest.ensures in
    let now = t.seen l.log in
    let new = t.seen c.carry_oldest.new.log in
    record {
      later = later_trans p.law (t.seen c.args.log.now) now new i.later e.later;
      who = e.who ∙ i.who;
      known = omega (arith, i.known, e.known);
      may = e.may;
      landed = λ calm.
          let k = e.carried in
          let before = (calm_before l.outbox.unsettled k.fate (sym k.unsettled ∙ calm)).0 in
          landed_more t.holds (t.who c.args.log.now) (t.seen c.args.log.now) now new c.args.outbox.now.entries.items l.outbox.entries.items c.carry_oldest.new.outbox.entries.items (t.reaches l.log) (t.reaches c.carry_oldest.new.log) (i.landed before) e.known
          (subst (λ w. LandsOldest t.holds w now l.outbox.entries.items new c.carry_oldest.new.outbox.entries.items (t.reaches c.carry_oldest.new.log)) i.who (e.landed calm));
      once =
          let k = i.once in
          let m = e.once in
          let shorter = ap length e.carried.oldest in
          (k.0 + m.0, omega (arith, k.1, m.1, shorter), begins_then (t.who c.args.log.now) (t.who l.log) k.0 m.0 (t.seen c.args.log.now) now new i.who k.2 m.2);
      begun = λ calm.
          let carried = e.carried in
          let before = (calm_before l.outbox.unsettled carried.fate (sym carried.unsettled ∙ calm)).0 in
          let k = i.begun before in
          let shorter = ap length carried.oldest in
          (k.0 + 1, omega (arith, k.1, shorter), begins_then (t.who c.args.log.now) (t.who l.log) k.0 1 (t.seen c.args.log.now) now new i.who k.2 (e.begun calm));
      sofar = one_more t.holds (t.who c.args.log.now) (t.seen c.args.log.now) now new (view_of c.args.outbox.now) (view_of l.outbox) (view_of c.carry_oldest.new.outbox) i.sofar
          (subst (λ w. Carried t.holds w now (view_of l.outbox) new (view_of c.carry_oldest.new.outbox)) i.who e.carried);
    }

pub entry-init : goal.entry-init
entry-init g c =
    let p = g.L.Law.Rules in
    let t = g.L.SharedLog in
    let w = t.who c.args.log.now in
    let old = t.seen c.args.log.now in
    record {
      later = later_refl p.law old c.requires.legal;
      who = refl;
      known = omega arith;
      may = c.requires.may;
      landed = λ _. landed_none t.holds w old c.args.outbox.now.entries.items (t.reaches c.args.log.now);
      once = (0, omega arith, begins_none w old);
      begun = λ _. (0, omega arith, begins_none w old);
      sofar = none_yet t.holds w old (view_of c.args.outbox.now);
    }

pub returns-in_err-carry_oldest-clause-once : goal.returns-in_err-carry_oldest-clause-once
returns-in_err-carry_oldest-clause-once g c =
    let t = g.L.SharedLog in
    let l = c.entry in
    let k = l.invariant.once in
    let m = c.in_err-carry_oldest.ensures.once in
    let some : 0 < length l.outbox.entries.items = grind (arith, c.entry-test.true, c.is_empty.ensures) in
    (k.0 + m.0, omega (arith, k.1, m.1, some), begins_then (t.who c.args.log.now) (t.who l.log) k.0 m.0 (t.seen c.args.log.now) (t.seen l.log) (t.seen c.carry_oldest.new.log) l.invariant.who k.2 m.2)

pub returns-clause-once : goal.returns-clause-once
returns-clause-once g c =
    let k = c.entry.invariant.once in
    (k.0, omega (arith, k.1), k.2)

pub returns-clause-begun : goal.returns-clause-begun
returns-clause-begun g c = λ calm.
    let t = g.L.SharedLog in
    let l = c.entry in
    let k = l.invariant.begun calm in
    let over : length l.outbox.entries.items ≡ 0 = grind (arith, c.entry-test.false, c.is_empty.ensures) in
    let all : k.0 ≡ length c.args.outbox.now.entries.items = omega (arith, k.1, over) in
    subst (λ n. Begins (t.who c.args.log.now) n (t.seen c.args.log.now) (t.seen l.log)) all k.2
