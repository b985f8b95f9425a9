use Rattle.std.proofs.Common.{refl}
use Rattle.virtual_log.proofs.OneTurn.{later_refl}
use Rattle.base_engine.specs.Settling.{view_of}
use Rattle.base_engine.proofs.Settling.{settled_one, settled_none}
use Rattle.base_engine.proofs.propose.leave_three.Goals as goal

pub returns-then-len-lt-MOST-clause-later : goal.returns-then-len-lt-MOST-clause-later
returns-then-len-lt-MOST-clause-later g c =
    let p = g.L.Law.Rules in later_refl p.law (g.L.SharedLog.seen c.args.log.now) c.requires.legal

pub returns-then-len-lt-MOST-clause-settled : goal.returns-then-len-lt-MOST-clause-settled
returns-then-len-lt-MOST-clause-settled g c =
    let p = g.L.Law.Rules in
    let t = g.L.SharedLog in
    let v = view_of c.args.outbox.now in
    settled_none t.holds p.law (t.who c.args.log.now) (t.seen c.args.log.now) (t.seen c.args.log.now) v v refl (later_refl p.law (t.seen c.args.log.now) c.requires.legal)

pub returns-in-Ok-clause-settled : goal.returns-in-Ok-clause-settled
returns-in-Ok-clause-settled g c =
    let t = g.L.SharedLog in
    settled_one t.holds (t.who c.args.log.now) (t.seen c.args.log.now) (t.seen c.carry_oldest.new.log) (view_of c.args.outbox.now) (view_of c.carry_oldest.new.outbox) c.in-Ok.ensures.carried

pub returns-in-Err-clause-settled : goal.returns-in-Err-clause-settled
returns-in-Err-clause-settled g c =
    let p = g.L.Law.Rules in
    let t = g.L.SharedLog in
    settled_none t.holds p.law (t.who c.args.log.now) (t.seen c.args.log.now) (t.seen c.carry_oldest.new.log) (view_of c.args.outbox.now) (view_of c.carry_oldest.new.outbox) c.in-Err.ensures.same c.in-Err.ensures.later
