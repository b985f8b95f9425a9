use Rattle.std.proofs.Common.{◌≡◌, ◌⊎◌, inl, ℕ, List, Vec, sym, ap, ◌∙◌, subst}
use Rattle.std.specs.declared.alloc.Global.{Global}
use Rattle.disk_model.specs.Disk.{content}
use Rattle.disk_model.specs.CrashLaws.{stays}
use Rattle.disk_model.proofs.Tear.{synced_is}
use Rattle.journal_core.specs.Records.{payloads}
use Rattle.journal_pair.specs.Records.{records_of}
use Rattle.journal_pair.proofs.Areas.{stands_selects, selects_records}
use Rattle.journal_pair.proofs.compact.replace.Goals as goal

pub returns-in-Err-Memory-clause-any_crash : goal.returns-in-Err-Memory-clause-any_crash
returns-in-Err-Memory-clause-any_crash g c =
    let old = (g.D.Disk.view c.args.disk.now).timeline in
    stays old _ (λ (f : List ℕ). (records_of f ≡ records_of (content old.now)) ⊎ (records_of f ≡ payloads c.args.records.now)) c.read_records.ensures.same (λ f image. inl (ap records_of (synced_is old.now c.requires.synced f image)))

pub returns-in-Err-Disk-clause-any_crash : goal.returns-in-Err-Disk-clause-any_crash
returns-in-Err-Disk-clause-any_crash g c =
    let old = (g.D.Disk.view c.args.disk.now).timeline in
    stays old _ (λ (f : List ℕ). (records_of f ≡ records_of (content old.now)) ⊎ (records_of f ≡ payloads c.args.records.now)) c.read_records.ensures.same (λ f image. inl (ap records_of (synced_is old.now c.requires.synced f image)))

pub returns-in-Err-Disk-select_other-clause-before : goal.returns-in-Err-Disk-select_other-clause-before
returns-in-Err-Disk-select_other-clause-before g c =
    λ before e.
    let file = content (g.D.Disk.view c.args.disk.now).timeline.now in
    let a = c.args.area in
    let same : c.in-Ok.before ≡ before = cc in
    let there : payloads c.in-Ok.before.items ≡ records_of file = c.in-Ok.ensures.records ∙ sym (selects_records a.second a.base file (stands_selects (records_of file) a file c.requires.stands)) in
    subst (λ (v : Vec (Vec ℕ Global) Global). payloads v.items ≡ records_of file) same there
