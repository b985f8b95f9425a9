use Rattle.std.proofs.Common.{◌≡◌, List, sym, subst, refl}
use Rattle.snap_reads.specs.declared.change.Published.{Published}
use Rattle.snap_reads.specs.Tables.{StartsWith}
use Rattle.snap_rows.proofs.Readers.{told_at, told_set}
use Rattle.snap_rows.proofs.board.Board.see.Goals as goal

pub invariant_of-self-2 : goal.invariant_of-self-2
invariant_of-self-2 g c =
    let desk = c.self.inside.desk in
    let item = c.in_ok-peeker.ensures.item.3 in
    told_set desk desk c.self.inside.readers.items c.args.at c.see.new.self refl
    (subst (λ (t : List Published). StartsWith desk.published t) (sym c.see.ensures.told) (told_at desk.published c.self.inside.readers.items c.args.at c.in_ok-peeker.peeker.now item.0 item.1 c.self.invariant)) c.self.invariant
