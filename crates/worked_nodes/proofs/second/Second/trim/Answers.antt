use Rattle.virtual_log.proofs.Going.{goes_first}
use Rattle.virtual_log.proofs.OneTurn.{later_trans}
use Rattle.worked_nodes.proofs.second.Second.trim.Goals as goal

pub tail_on-requires-clause-goes_by : goal.tail_on-requires-clause-goes_by
tail_on-requires-clause-goes_by c = goes_first _ _ _ c.requires c.in-Ok.ensures

pub returns-clause-later : goal.returns-clause-later
returns-clause-later c = later_trans _ _ _ _ c.tail_on.ensures.later c.truncate_on.ensures.later
