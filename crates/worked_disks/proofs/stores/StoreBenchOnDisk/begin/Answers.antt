use Rattle.std.proofs.Common.{ap, ◌∙◌}
use Rattle.journal_pair.specs.Records.{records_of}
use Rattle.journal_pair.proofs.Areas.{no_bytes}
use Rattle.worked_disks.proofs.stores.StoreBenchOnDisk.begin.Goals as goal

pub begin_on-requires-clause-empty : goal.begin_on-requires-clause-empty
begin_on-requires-clause-empty c = ap records_of c.requires.empty ∙ no_bytes
