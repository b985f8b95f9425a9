use Rattle.snap_rows.proofs.Readers.{told_on}
use Rattle.snap_rows.proofs.board.Board.publish.Goals as goal

pub invariant_of-self : goal.invariant_of-self
invariant_of-self g c = told_on c.self.inside.desk.published c.publish.new.self.published c.self.inside.readers.items c.publish.ensures c.self.invariant
