use Rattle.worked_nodes.proofs.Free.{may_raise_first}
use Rattle.worked_nodes.proofs.chains.raise_first.Goals as goal

pub turn-requires-clause-may : goal.turn-requires-clause-may
turn-requires-clause-may c = may_raise_first _ _ _ _ _ _ (λ l m h. h) c.in_ok-first.ensures c.in_ok-next.ensures.value c.requires.0 c.requires.1
