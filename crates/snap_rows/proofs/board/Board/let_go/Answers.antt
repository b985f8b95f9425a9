use Rattle.std.proofs.lemmas.List.Elements.{All-pop}
use Rattle.snap_reads.specs.Tables.{StartsWith}
use Rattle.snap_reads.specs.Views.{Peek}
use Rattle.snap_rows.proofs.board.Board.let_go.Goals as goal

pub invariant_of-self : goal.invariant_of-self
invariant_of-self g c = (All-pop (λ (p : Peek). StartsWith c.self.inside.desk.published p.told) c.self.inside.readers.items c.pop.new.self.items c.pop.result c.pop.ensures.items c.self.invariant).0
