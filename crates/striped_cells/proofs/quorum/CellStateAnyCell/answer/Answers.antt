use Rattle.std.proofs.Common.{◌∙◌, ap, sym}
use Rattle.std.proofs.lemmas.Result.{IfOk-weaker}
use Rattle.quorum_cell.specs.Cells.{Operation}
use Rattle.cell_views.specs.Views.{taken}
use Rattle.striped_cells.proofs.Taken.{answer_none, answer_closed, answer_open}
use Rattle.striped_cells.proofs.quorum.CellStateAnyCell.answer.Goals as goal

pub returns-in_default : goal.returns-in_default
returns-in_default c = answer_none c.args.self.now c.args.ticket (sym c.in_default.ensures)

pub returns-then-operation : goal.returns-then-operation
returns-then-operation c = answer_closed c.args.self.now c.args.ticket c.in-Some.operation.now (sym c.in-Some.ensures) (ap (λ (o : Operation). o.closed) (sym c.operation-2.view_is) ∙ c.if-operation.true)

pub returns : goal.returns
returns c =
    let open_is = answer_open c.args.self.now c.args.ticket c.in-Some.operation.now (sym c.in-Some.ensures) (ap (λ (o : Operation). o.closed) (sym c.operation-2.view_is) ∙ c.if-operation.false) in
    IfOk-weaker c.taken.result _ _ (λ a h. h ∙ (ap (λ n. taken n c.in-Some.operation.now c.in-Some.operation.now.decided) c.cut.ensures ∙ open_is)) c.taken.ensures
