use Rattle.std.specs.Prelude.{List}
use Rattle.std.proofs.Common.{sym, subst, ⊎_elim, inl, inr}
use Rattle.node_lines.specs.declared.desk.Desk.{Desk}
use Rattle.node_lines.specs.Desks.{DesksOk, KeepsFrom}
use Rattle.node_lines.specs.Turns.{AllAnswered}
use Rattle.node_workers.proofs.steps.EndNodeStep.run.Goals as goal

pub end_turn-requires-clause-desks : goal.end_turn-requires-clause-desks
end_turn-requires-clause-desks g c = subst (λ (xs : List Desk). DesksOk c.args.node.now xs) (sym c.as_mut_slice.ensures.value) c.requires.can.1

pub end_turn-requires-clause-keeps : goal.end_turn-requires-clause-keeps
end_turn-requires-clause-keeps g c =
    let law = g.T.Law.Rules in
    ⊎_elim
    (λ (keeps : KeepsFrom law.law c.args.node.now.replica.cursor). inl keeps)
    (λ (all : AllAnswered c.args.node.now c.args.on.now.items). inr (subst (λ (xs : List Desk). AllAnswered c.args.node.now xs) (sym c.as_mut_slice.ensures.value) all)) c.requires.can.3
