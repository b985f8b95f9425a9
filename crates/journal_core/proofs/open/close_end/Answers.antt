use Rattle.std.proofs.Common.{◌≡◌, ℕ, List, ap, ◌∙◌}
use Rattle.disk_model.specs.Disk.{Timeline, content}
use Rattle.disk_model.specs.CrashLaws.{stays}
use Rattle.disk_model.proofs.Tear.{synced_is}
use Rattle.journal_core.specs.Records.{records_of}
use Rattle.journal_core.proofs.Reading.{now_has}
use Rattle.journal_core.proofs.open.close_end.Goals as goal

pub returns-in_err-gate_is_open-clause-any_crash : goal.returns-in_err-gate_is_open-clause-any_crash
returns-in_err-gate_is_open-clause-any_crash g c =
    let old = (g.D.Disk.view c.args.disk.now).timeline in
    stays old _ (λ (f : List ℕ). records_of f ≡ records_of (content old.now)) c.gate_is_open.ensures.same (λ f image. ap records_of (synced_is old.now c.requires.synced f image))

pub returns-then-not-branch-clause-any_crash : goal.returns-then-not-branch-clause-any_crash
returns-then-not-branch-clause-any_crash g c =
    let old = (g.D.Disk.view c.args.disk.now).timeline in
    stays old _ (λ (f : List ℕ). records_of f ≡ records_of (content old.now)) c.gate_is_open.ensures.same (λ f image. ap records_of (synced_is old.now c.requires.synced f image))

pub returns-clause-kept : goal.returns-clause-kept
returns-clause-kept g c = now_has _ _ c.close_gate.ensures.any_crash.last ∙ ap (λ (l : Timeline). records_of (content l.now)) c.gate_is_open.ensures.same
