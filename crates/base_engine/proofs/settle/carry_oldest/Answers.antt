use Rattle.std.proofs.Common.{◌∙◌, sym, subst, arith}
use Rattle.std.proofs.lemmas.List.{append-nil}
use Rattle.virtual_log.proofs.OneTurn.{later_refl}
use Rattle.delos_types.specs.declared.entry.Entry.{Entry}
use Rattle.base_engine.specs.Settling.{Landed, MaySend}
use Rattle.base_engine.proofs.Settling.{head_rest, head_drop, all_tail_by, first_landed, never_calm}
use Rattle.base_engine.proofs.Beginning.{begins_none, begins_of, begins_at_most}
use Rattle.base_engine.proofs.settle.carry_oldest.Goals as goal

pub returns-in_err-sessions-clause-later : goal.returns-in_err-sessions-clause-later
returns-in_err-sessions-clause-later g c =
    let p = g.L.Law.Rules in later_refl p.law (g.L.SharedLog.seen c.args.log.now) c.requires.legal

pub returns-in_err-reserve-clause-later : goal.returns-in_err-reserve-clause-later
returns-in_err-reserve-clause-later g c =
    let p = g.L.Law.Rules in later_refl p.law (g.L.SharedLog.seen c.args.log.now) c.requires.legal

pub returns-in-Ok-clause-carried : goal.returns-in-Ok-clause-carried
returns-in-Ok-clause-carried g c =
    record {
      entry = c.index-2.result.now;
      fate = Landed c.in-Ok.field-0;
      oldest = head_rest c.args.outbox.now.entries.items c.remove-landed.new.self.items c.index-2.result.now c.requires.some c.index-2.ensures c.remove-landed.ensures.items;
      met = (c.in-Ok.ensures.stands, c.in-Ok.ensures.held, c.in-Ok.ensures.above);
      gained = c.reserve.ensures.items ∙ sym (append-nil c.args.outbox.now.given.items);
      unsettled = first_landed c.args.outbox.now.unsettled c.in-Ok.field-0;
    }

pub returns-in-Ok-clause-landed : goal.returns-in-Ok-clause-landed
returns-in-Ok-clause-landed g c = λ calm.
    record {
      entry = c.index-2.result.now;
      position = c.in-Ok.field-0;
      oldest = head_rest c.args.outbox.now.entries.items c.remove-landed.new.self.items c.index-2.result.now c.requires.some c.index-2.ensures c.remove-landed.ensures.items;
      met = (c.in-Ok.ensures.stands, c.in-Ok.ensures.held, c.in-Ok.ensures.above);
      within = omega (arith, c.in-Ok.ensures.known);
    }

pub returns-in-Because-clause-landed : goal.returns-in-Because-clause-landed
returns-in-Because-clause-landed g c = λ calm. absurd (never_calm c.args.outbox.now.unsettled c.in-Because.cause (sym c.lose.ensures.unsettled ∙ calm))

pub returns-in-Because-clause-may : goal.returns-in-Because-clause-may
returns-in-Because-clause-may g c =
    let may = g.L.Law.Rules.law.may in
    let t = g.L.SharedLog in
    all_tail_by (MaySend may (t.who c.args.log.now)) (MaySend may (t.who c.append.new.self)) c.args.outbox.now.entries.items c.lose.new.outbox.entries.items c.index-2.result.now
    (head_drop c.args.outbox.now.entries.items c.lose.new.outbox.entries.items c.index-2.result.now c.requires.some c.index-2.ensures c.lose.ensures.entries)
    (λ (x : Entry) h. subst (λ w. MaySend may w x) (sym c.append.ensures.who) h) c.requires.may

pub returns-in_err-sessions-clause-once : goal.returns-in_err-sessions-clause-once
returns-in_err-sessions-clause-once g c =
    let t = g.L.SharedLog in (0, omega arith, begins_none (t.who c.args.log.now) (t.seen c.args.log.now))

pub returns-in_err-reserve-clause-once : goal.returns-in_err-reserve-clause-once
returns-in_err-reserve-clause-once g c =
    let t = g.L.SharedLog in (0, omega arith, begins_none (t.who c.args.log.now) (t.seen c.args.log.now))

pub returns-in-Ok-clause-once : goal.returns-in-Ok-clause-once
returns-in-Ok-clause-once g c = (1, omega arith, begins_of _ _ _ _ _ c.in-Ok.ensures.once)

pub returns-in-Ok-clause-begun : goal.returns-in-Ok-clause-begun
returns-in-Ok-clause-begun g c = λ _. begins_of _ _ _ _ _ c.in-Ok.ensures.once

pub returns-in-Memory-clause-once : goal.returns-in-Memory-clause-once
returns-in-Memory-clause-once g c =
    let t = g.L.SharedLog in
    begins_at_most (t.who c.args.log.now) c.index-2.result.now (t.seen c.args.log.now) (t.seen c.append.new.self) c.in-Err.fault c.in-Err.ensures.at_most

pub returns-in-Because-clause-once : goal.returns-in-Because-clause-once
returns-in-Because-clause-once g c =
    let t = g.L.SharedLog in
    begins_at_most (t.who c.args.log.now) c.index-2.result.now (t.seen c.args.log.now) (t.seen c.append.new.self) c.in-Err.fault c.in-Err.ensures.at_most

pub returns-in-Because-clause-begun : goal.returns-in-Because-clause-begun
returns-in-Because-clause-begun g c = λ calm. absurd (never_calm c.args.outbox.now.unsettled c.in-Because.cause (sym c.lose.ensures.unsettled ∙ calm))
