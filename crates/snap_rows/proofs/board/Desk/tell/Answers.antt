use Rattle.std.proofs.Common.{◌≡◌, sym, subst}
use Rattle.snap_reads.specs.Tables.{StartsWith}
use Rattle.snap_reads.specs.Views.{Shelf}
use Rattle.snap_rows.proofs.Readers.{told_after}
use Rattle.snap_rows.proofs.board.Desk.tell.Goals as goal

pub returns-clause-told : goal.returns-clause-told
returns-clause-told g c =
    told_after c.tell.result c.self.inside.snap c.tell.new.self c.args.peeker.now c.tell.new.peeker c.tell.ensures.same
    (subst (λ (s : Shelf). StartsWith s.published c.args.peeker.now.told) (sym c.self.view_is) c.requires) c.tell.ensures.told c.tell.ensures.err
