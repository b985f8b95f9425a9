use Rattle.virtual_log.proofs.Going.{goes_first}
use Rattle.worked_nodes.proofs.second.Second.extend.Goals as goal

pub extend_on-requires-clause-goes_by : goal.extend_on-requires-clause-goes_by
extend_on-requires-clause-goes_by c = goes_first _ _ _ c.requires c.in-Ok.ensures
