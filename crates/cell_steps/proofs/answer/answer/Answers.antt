use Rattle.std.proofs.lemmas.Result.{IfOk-weaker}
use Rattle.cell_steps.proofs.answer.answer.Goals as goal

pub returns-in-Reached : goal.returns-in-Reached
returns-in-Reached c = rw c.in-Reached.is (c.placed.ensures c.args.cut)

pub returns-in-Shut : goal.returns-in-Shut
returns-in-Shut c = rw c.in-Shut.is (c.shut.ensures c.args.cut)

pub returns-in-Found : goal.returns-in-Found
returns-in-Found c = rw c.in-Found.is (IfOk-weaker c.found.result _ _ (λ a h. h c.args.cut) c.found.ensures)
