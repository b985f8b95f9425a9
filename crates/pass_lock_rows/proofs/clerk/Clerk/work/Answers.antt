use Rattle.std.proofs.Common.{refl, sym, ◌∙◌}
use Rattle.pass_lock_rows.proofs.Own.{made-waits, made-makes, kept_of, lost_of}
use Rattle.pass_lock_rows.proofs.clerk.Clerk.work.Goals as goal

pub loop-n-preserved : goal.loop-n-preserved
loop-n-preserved g c = made-makes _ _ _ c.loop-n.n _ refl c.loop-n.invariant (kept_of _ _ c.turn.result (sym c.is_err.ensures.value ∙ c.if-is_err.false) c.turn.ensures)

pub returns-then-is_err : goal.returns-then-is_err
returns-then-is_err g c = record {
  made = c.loop-n.n;
  few = c.loop-n.auto.n-end;
  in_order = made-waits _ _ _ c.loop-n.n c.loop-n.invariant (lost_of _ _ c.turn.result (sym c.is_err.ensures.value ∙ c.if-is_err.true) c.turn.ensures);
}
