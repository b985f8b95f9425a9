use Rattle.std.proofs.Common.{ap, ◌∙◌}
use Rattle.worked_nodes.specs.Apart.{SecondView}
use Rattle.worked_nodes.proofs.Alone.{acted_apart}
use Rattle.worked_nodes.proofs.second.Second.act.Goals as goal

pub returns : goal.returns
returns c = acted_apart _ _ _ _ _ _ c.renumber.ensures.journal c.renumber.ensures.alone (λ z. c.if-self-eq0.false (ap (λ (s : SecondView). s.who) c.self.view_is ∙ z)) c.call.ensures.later c.call.ensures.who c.self-2.view_is c.self-2.invariant
