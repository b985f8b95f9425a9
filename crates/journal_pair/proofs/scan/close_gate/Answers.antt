use Rattle.std.proofs.Common.{◌≡◌, ℕ, List, sym, ap, subst}
use Rattle.disk_model.specs.Disk.{content}
use Rattle.disk_model.specs.CrashLaws.{weaker}
use Rattle.journal_pair.specs.Records.{records_of}
use Rattle.journal_pair.specs.Layout.{Stands}
use Rattle.journal_pair.proofs.Growing.{closing_torn, closing_done}
use Rattle.journal_pair.proofs.scan.close_gate.Goals as goal

pub write_synced-requires-clause-inside : goal.write_synced-requires-clause-inside
write_synced-requires-clause-inside g c = c.requires.opened.inside

pub returns-clause-stands : goal.returns-clause-stands
returns-clause-stands g c =
    let bytes = content (g.D.Disk.view c.args.disk.now).timeline.now in
    subst (Stands (records_of bytes) c.args.area) (sym (ap content c.in_ok-write_synced.ensures.ok)) (closing_done (records_of bytes) c.args.area bytes c.requires.opened)

pub returns-clause-any_crash : goal.returns-clause-any_crash
returns-clause-any_crash g c =
    let bytes = content (g.D.Disk.view c.args.disk.now).timeline.now in
    weaker _ _ _ (λ (b : List ℕ). records_of b ≡ records_of bytes) (closing_torn (records_of bytes) c.args.area bytes c.requires.opened) c.write_synced.ensures.any_crash

pub returns-in_err-write_synced-clause-any_crash : goal.returns-in_err-write_synced-clause-any_crash
returns-in_err-write_synced-clause-any_crash g c =
    let bytes = content (g.D.Disk.view c.args.disk.now).timeline.now in
    weaker _ _ _ (λ (b : List ℕ). records_of b ≡ records_of bytes) (closing_torn (records_of bytes) c.args.area bytes c.requires.opened) c.write_synced.ensures.any_crash
