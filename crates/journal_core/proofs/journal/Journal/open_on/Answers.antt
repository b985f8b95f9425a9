use Rattle.std.proofs.Common.{◌≡◌, ℕ, List, ap}
use Rattle.disk_model.specs.Disk.{content}
use Rattle.disk_model.specs.CrashLaws.{stays}
use Rattle.disk_model.proofs.Tear.{synced_is}
use Rattle.journal_core.specs.Records.{records_of}
use Rattle.journal_core.proofs.journal.Journal.open_on.Goals as goal

pub returns-in-Err-clause-any_crash_refused : goal.returns-in-Err-clause-any_crash_refused
returns-in-Err-clause-any_crash_refused g c =
    let old = (g.D.Disk.view c.args.disk).timeline in
    stays old _ (λ (f : List ℕ). records_of f ≡ records_of (content old.now)) c.read_records.ensures.same (λ f image. ap records_of (synced_is old.now c.requires f image))
