use Rattle.std.proofs.Common.{ap}
use Rattle.log_laws.specs.Rises.{acted_word}
use Rattle.engine_stack.proofs.SoFar.{acted_none, acted_one}
use Rattle.engine_stack.proofs.stack.acted.Goals as goal

pub loop-t-preserved-in_default : goal.loop-t-preserved-in_default
loop-t-preserved-in_default c = acted_none c.loop-t.yielded c.in-Some.t _ c.loop-t.invariant (ap (acted_word c.in-Some.t) c.in_default.ensures)

pub loop-t-preserved : goal.loop-t-preserved
loop-t-preserved c = acted_one c.loop-t.yielded c.in-Some.t _ _ _ c.loop-t.invariant c.in_ok-push.ensures.items (ap (acted_word c.in-Some.t) c.in-Some-session_word.ensures)
