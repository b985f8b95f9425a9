use Rattle.std.proofs.Common.{refl}
use Rattle.session_engine.proofs.FreesSoFar.{acted}
use Rattle.session_engine.proofs.act.Goals as goal

pub returns-clause-step : goal.returns-clause-step
returns-clause-step g c = acted _ _ _ _ _ _ _ _ _ _ c.new-freed.ensures c.in_ok-last.ensures.step c.in_ok-set_number.ensures.ok c.last_key-key.ensures refl
