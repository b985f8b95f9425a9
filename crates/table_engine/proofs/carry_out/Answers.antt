use Rattle.table_engine.proofs.Same.{keeps}
use Rattle.table_engine.proofs.carry_out.Goals as goal

pub returns-in-Keep-clause-step : goal.returns-in-Keep-clause-step
returns-in-Keep-clause-step g c = keeps _ _ _ c.in-Keep.is
