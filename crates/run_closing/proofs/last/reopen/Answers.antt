use Rattle.std.proofs.Common.{◌≡◌, refl, sym, ◌∙◌, subst, inl, Bool, false, arith}
use Rattle.base_engine.specs.Arming.{StoreTwice}
use Rattle.base_engine.specs.Causes.{Blames}
use Rattle.base_engine.proofs.Arming.{arming_refl}
use Rattle.node_lines.proofs.Spending.{strikes-stay}
use Rattle.run_closing.proofs.Ending.{comes_up, stays_down}
use Rattle.run_closing.proofs.last.reopen.Goals as goal

is_up : (answer down : Bool) → answer ≡ down → answer ≡ false → down ≡ false
is_up answer down is up = sym is ∙ up

pub returns-in-Err-Because : goal.returns-in-Err-Because
returns-in-Err-Because g c =
    let p = g.T.Law.Rules in
    let n = c.args.node.now in
    let m = c.recover.new.self in
    let e = c.in-Err-Because.ensures in
    stays_down p.law n m c.in-Err-Because.field-0-0 e.keeps e.seen e.kept e.outbox (strikes-stay c.args.node.now.replica c.recover.new.self.replica e.keeps.counts e.arming.down)
    (subst (λ f. Blames n.who n.seen n.replica.faults f m.seen m.replica.faults) c.in-Err-Because.field-0-is e.blames)
    (subst (λ f. StoreTwice n.replica f m.replica) c.in-Err-Because.field-0-is e.twice) e.arming

pub returns-in-Ok : goal.returns-in-Ok
returns-in-Ok g c =
    let p = g.T.Law.Rules in
    let e = c.in-Ok.ensures in
    comes_up p.law c.args.node.now c.recover.new.self e.keeps e.seen e.kept e.outbox (strikes-stay c.args.node.now.replica c.recover.new.self.replica e.keeps.counts e.arming.down) e.arming e.up

pub returns-then-not-is_down : goal.returns-then-not-is_down
returns-then-not-is_down g c =
    let n = c.args.node.now in
    record {
      who = refl;
      nodes = refl;
      origin = refl;
      seen = refl;
      forward = omega arith;
      counts = omega arith;
      struck = omega arith;
      arming = arming_refl 0 n.replica;
      kept = refl;
      outbox = refl;
      up = inl (is_up c.is_down.result n.replica.down c.is_down.ensures c.if-not-is_down.true);
    }
