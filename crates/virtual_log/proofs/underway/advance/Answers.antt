use Rattle.virtual_log.proofs.Saying.{draws_any, none_drawn}
use Rattle.virtual_log.proofs.underway.advance.Goals as goal

pub returns-in-Starting-clause-draws : goal.returns-in-Starting-clause-draws
returns-in-Starting-clause-draws g c = draws_any _ _ _ c.start.result (none_drawn c.start.ensures.silent)

pub returns-in-Reading-clause-draws : goal.returns-in-Reading-clause-draws
returns-in-Reading-clause-draws g c = draws_any _ _ _ c.read.result (none_drawn c.read.ensures.silent)

pub returns-in-Asking-clause-draws : goal.returns-in-Asking-clause-draws
returns-in-Asking-clause-draws g c = draws_any _ _ _ c.ask.result (none_drawn c.ask.ensures.silent)

pub returns-in-Closing-clause-draws : goal.returns-in-Closing-clause-draws
returns-in-Closing-clause-draws g c = draws_any _ _ _ c.close.result (none_drawn c.close.ensures.silent)

pub returns-in-Dropping-clause-draws : goal.returns-in-Dropping-clause-draws
returns-in-Dropping-clause-draws g c = draws_any _ _ _ c.drop_and_start.result (none_drawn c.drop_and_start.ensures.silent)
