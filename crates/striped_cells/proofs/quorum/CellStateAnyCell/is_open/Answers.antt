use Rattle.std.proofs.Common.{sym}
use Rattle.striped_cells.proofs.Taken.{open_none}
use Rattle.striped_cells.proofs.quorum.CellStateAnyCell.is_open.Goals as goal

pub returns-in-None : goal.returns-in-None
returns-in-None c = open_none c.args.self.now c.args.ticket (sym c.in-None.ensures)
