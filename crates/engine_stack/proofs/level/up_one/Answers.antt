use Rattle.std.proofs.Common.{sym, append-nil}
use Rattle.engine_steps.specs.declared.engine.Up.TheVariants.{Pass}
use Rattle.engine_stack.proofs.SoFar.{passed_on}
use Rattle.engine_stack.proofs.level.up_one.Goals as goal

pub returns-in_ok-pass_on-in-Pass-clause-step : goal.returns-in_ok-pass_on-in-Pass-clause-step
returns-in_ok-pass_on-in-Pass-clause-step g c =
    (Pass c.in-Pass.behind, rw c.in-Pass.is at c.in_ok-behind.ensures.step, passed_on _ _ _ _ _ c.in_ok-push_back-in-Pass.ensures.items c.in_ok-pass_on-in-Pass.ensures, sym (append-nil _))
