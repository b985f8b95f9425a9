use Rattle.std.proofs.Common.{sym, ◌∙◌}
use Rattle.striped_cells.proofs.Taken.{left_none, left_there}
use Rattle.striped_cells.proofs.quorum.CellStateAnyCell.left.Goals as goal

pub returns-in-None : goal.returns-in-None
returns-in-None c = left_none c.args.self.now c.args.ticket (sym c.in-None.ensures)

pub returns-in-Some : goal.returns-in-Some
returns-in-Some c = c.left_of.ensures ∙ left_there c.args.self.now c.args.ticket c.in-Some.operation.now (sym c.in-Some.ensures)
