use Rattle.std.proofs.Common.{◌≡◌, ℕ, List, ap}
use Rattle.disk_model.specs.Disk.{content}
use Rattle.disk_model.specs.CrashLaws.{stays}
use Rattle.disk_model.proofs.Tear.{synced_is}
use Rattle.journal_pair.specs.Records.{records_of}
use Rattle.journal_pair.proofs.open.find_count.Goals as goal

pub returns-in_err-second-clause-any_crash : goal.returns-in_err-second-clause-any_crash
returns-in_err-second-clause-any_crash g c =
    let old = (g.D.Disk.view c.args.disk.now).timeline in
    stays old _ (λ (b : List ℕ). records_of b ≡ records_of (content old.now)) c.read_header.ensures.same (λ f image. ap records_of (synced_is old.now c.requires f image))
