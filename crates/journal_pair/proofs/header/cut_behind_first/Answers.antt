use Rattle.std.proofs.Common.{◌≡◌, false, ℕ, List, refl, ◌∙◌, ap}
use Rattle.disk_model.specs.Disk.{content}
use Rattle.disk_model.specs.CrashLaws.{stays, weaker}
use Rattle.disk_model.proofs.Tear.{synced_is}
use Rattle.journal_pair.specs.Records.{is_ready}
use Rattle.journal_pair.proofs.Areas.{closed_unready}
use Rattle.journal_pair.proofs.Front.{cut_unready}
use Rattle.journal_pair.proofs.header.cut_behind_first.Goals as goal

pub returns-in_err-cut_synced-clause-any_crash : goal.returns-in_err-cut_synced-clause-any_crash
returns-in_err-cut_synced-clause-any_crash g c =
    let old = (g.D.Disk.view c.args.disk.now).timeline in
    weaker _ _ _ (λ (b : List ℕ). is_ready b ≡ false) (λ f cut. cut_unready (content old.now) f c.requires.begun c.requires.closed cut) c.cut_synced.ensures.any_crash

pub returns-in_ok-cut_synced-clause-any_crash : goal.returns-in_ok-cut_synced-clause-any_crash
returns-in_ok-cut_synced-clause-any_crash g c =
    let old = (g.D.Disk.view c.args.disk.now).timeline in
    weaker _ _ _ (λ (b : List ℕ). is_ready b ≡ false) (λ f cut. cut_unready (content old.now) f c.requires.begun c.requires.closed cut) c.cut_synced.ensures.any_crash

pub returns-else-len-gt1-clause-any_crash : goal.returns-else-len-gt1-clause-any_crash
returns-else-len-gt1-clause-any_crash g c =
    let old = (g.D.Disk.view c.args.disk.now).timeline in
    stays old old (λ (b : List ℕ). is_ready b ≡ false) refl (λ f image. ap is_ready (synced_is old.now c.requires.synced f image) ∙ closed_unready (content old.now) c.requires.closed)
