use Rattle.std.specs.Prelude.{List}
use Rattle.std.proofs.Common.{sym, subst}
use Rattle.node_lines.specs.declared.desk.Desk.{Desk}
use Rattle.node_lines.specs.Desks.{DesksOk}
use Rattle.node_workers.proofs.steps.AnswerAllNodeStep.run.Goals as goal

pub answer_all-requires-clause-desks : goal.answer_all-requires-clause-desks
answer_all-requires-clause-desks g c = subst (λ (xs : List Desk). DesksOk c.args.node.now xs) (sym c.as_mut_slice.ensures.value) c.requires.can.1

pub answer_all-requires-clause-keeps : goal.answer_all-requires-clause-keeps
answer_all-requires-clause-keeps g c = c.requires.stays tt
