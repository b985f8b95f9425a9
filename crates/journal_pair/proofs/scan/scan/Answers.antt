use Rattle.std.proofs.Common.{◌≡◌, ℕ, List, length, sym, ap, ◌∙◌}
use Rattle.disk_model.specs.Disk.{content}
use Rattle.disk_model.specs.CrashLaws.{stays}
use Rattle.disk_model.proofs.Tear.{synced_is}
use Rattle.journal_pair.specs.Records.{records_of}
use Rattle.journal_pair.proofs.Areas.{selects_records}
use Rattle.journal_pair.proofs.scan.scan.Goals as goal

pub returns-in_err-found-clause-any_crash : goal.returns-in_err-found-clause-any_crash
returns-in_err-found-clause-any_crash g c =
    let old = (g.D.Disk.view c.args.disk.now).timeline in
    stays old _ (λ (f : List ℕ). records_of f ≡ records_of (content old.now)) c.read_records.ensures.same (λ f image. ap records_of (synced_is old.now c.requires.synced f image))

pub returns-clause-records : goal.returns-clause-records
returns-clause-records g c = c.in_ok-found.ensures.records ∙ sym (selects_records c.args.second c.args.base (content (g.D.Disk.view c.args.disk.now).timeline.now) c.requires.selects)
