use Rattle.std.proofs.Common.{◌≡◌, ℕ, List, sym, ap, subst}
use Rattle.disk_model.specs.Disk.{content}
use Rattle.disk_model.specs.CrashLaws.{weaker}
use Rattle.journal_core.specs.Records.{records_of}
use Rattle.journal_core.specs.Layout.{EndsAt}
use Rattle.journal_core.proofs.Closing.{close_torn, close_done}
use Rattle.journal_core.proofs.open.close_gate.Goals as goal

pub returns-clause-ends : goal.returns-clause-ends
returns-clause-ends g c =
    let bytes = content (g.D.Disk.view c.args.disk.now).timeline.now in
    let r = c.requires in
    subst (EndsAt (records_of bytes) c.args.end) (sym (ap content c.in_ok-write_synced.ensures.ok)) (close_done (records_of bytes) c.args.end bytes r.ends.inside r.opened r.ends.whole r.ends.none)

pub returns-clause-any_crash : goal.returns-clause-any_crash
returns-clause-any_crash g c =
    let bytes = content (g.D.Disk.view c.args.disk.now).timeline.now in
    let r = c.requires in
    weaker _ _ _ (λ (b : List ℕ). records_of b ≡ records_of bytes) (close_torn (records_of bytes) c.args.end bytes r.ends.inside r.opened r.ends.whole r.ends.none) c.write_synced.ensures.any_crash

pub returns-in_err-write_synced-clause-any_crash : goal.returns-in_err-write_synced-clause-any_crash
returns-in_err-write_synced-clause-any_crash g c =
    let bytes = content (g.D.Disk.view c.args.disk.now).timeline.now in
    let r = c.requires in
    weaker _ _ _ (λ (b : List ℕ). records_of b ≡ records_of bytes) (close_torn (records_of bytes) c.args.end bytes r.ends.inside r.opened r.ends.whole r.ends.none) c.write_synced.ensures.any_crash
