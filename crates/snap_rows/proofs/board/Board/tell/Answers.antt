use Rattle.snap_rows.proofs.Readers.{told_at, told_set}
use Rattle.snap_rows.proofs.board.Board.tell.Goals as goal

pub tell-requires : goal.tell-requires
tell-requires g c = let item = c.in_ok-peeker.ensures.item.3 in told_at c.self.inside.desk.published c.self.inside.readers.items c.args.at c.in_ok-peeker.peeker.now item.0 item.1 c.self.invariant

pub invariant_of-self-2 : goal.invariant_of-self-2
invariant_of-self-2 g c = told_set c.self.inside.desk c.tell.new.self c.self.inside.readers.items c.args.at c.tell.new.peeker c.tell.ensures.same c.tell.ensures.told c.self.invariant
