use Rattle.worked_nodes.proofs.Resting.{two_later}
use Rattle.worked_nodes.proofs.house.Two.settle_all.Goals as goal

pub invariant_of-self : goal.invariant_of-self
invariant_of-self g c = two_later _ _ _ _ _ _ c.settle_all.ensures.keeps c.self.invariant
