use Rattle.snap_reads.proofs.Keeps.{admits}
use Rattle.snap_reads.proofs.meet.has_place.Goals as goal

pub reader-requires : goal.reader-requires
reader-requires c = admits
