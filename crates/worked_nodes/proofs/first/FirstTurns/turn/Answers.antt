use Rattle.worked_nodes.proofs.Alone.{may_first, turn_first}
use Rattle.worked_nodes.proofs.first.FirstTurns.turn.Goals as goal

pub first-requires : goal.first-requires
first-requires c = may_first _ _ _ _ c.let_act.ensures c.requires.may

pub returns-clause-turn : goal.returns-clause-turn
returns-clause-turn c = turn_first _ _ _ _ _ _ c.let_act.ensures c.first.ensures.adds c.first.ensures.legal
