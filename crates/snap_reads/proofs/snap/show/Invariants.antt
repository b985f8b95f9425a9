use Rattle.std.proofs.Common.{map, drop}
use Rattle.snap_reads.specs.Steps.{meant, published_by}
use Rattle.snap_reads.proofs.snap.show.Given as goal

abbrev pub ghosts-show_next : goal.ghosts-show_next
ghosts-show_next g a = record { list = published_by (map meant (drop a.writer.behind a.writer.log.items)) }
