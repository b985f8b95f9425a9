use Rattle.worked_nodes.proofs.Alone.{alone_more, may_alone, turn_alone}
use Rattle.worked_nodes.proofs.second.SecondTurns.turn.Goals as goal

pub apply-requires : goal.apply-requires
apply-requires c = may_alone _ _ _ _ _ c.self.view_is c.requires.may c.journal-seen.ensures.legal

pub invariant_of-self : goal.invariant_of-self
invariant_of-self c = alone_more _ _ _ _ _ c.self.invariant c.apply.ensures.adds

pub returns-clause-turn : goal.returns-clause-turn
returns-clause-turn c = turn_alone _ _ _ _ _ _ _ c.self.view_is c.apply.ensures.adds c.apply.ensures.legal
