use Rattle.std.proofs.Common.{◌≡◌, ℕ, None, ap, ◌∙◌, arith}
use Rattle.disk_model.specs.Armed.{Spends}
use Rattle.journal_pair.specs.Records.{records_of}
use Rattle.journal_pair.proofs.Areas.{no_bytes}
use Rattle.meta_register.proofs.Keeping.{bad_of, kept_written, kept_survives, nothing_counted, opened_fresh}
use Rattle.meta_register.proofs.meta.MetaRegister.open_on.Goals as goal

unarmed_still : {old new : ℕ} → old ≡ 0 → Spends 4 old new → new ≡ 0
unarmed_still none spends = omega (arith, none, spends.fewer)

pub returns-in-Ok-clause-fresh : goal.returns-in-Ok-clause-fresh
returns-in-Ok-clause-fresh g c =
    let o = c.in-Ok.ensures in
    λ none no_fault unarmed. opened_fresh c.in-Ok.field-0.value c.in-Ok.field-0.kept _ o.spelled none o.opened.0 o.opened.1 (o.spares.faults ∙ no_fault) (unarmed_still unarmed o.spares.spends)

pub returns-in-Ok-clause-empty : goal.returns-in-Ok-clause-empty
returns-in-Ok-clause-empty g c =
    let o = c.in-Ok.ensures in
    λ none no_fault unarmed. opened_fresh c.in-Ok.field-0.value c.in-Ok.field-0.kept _ o.spelled (ap records_of none ∙ no_bytes) o.opened.0 o.opened.1 (o.spares.faults ∙ no_fault) (unarmed_still unarmed o.spares.spends)

pub returns-in-Ok-clause-survives : goal.returns-in-Ok-clause-survives
returns-in-Ok-clause-survives g c = kept_survives c.in-Ok.field-0.value None nothing_counted c.in-Ok.field-0.kept (kept_written c.in-Ok.field-0.value c.in-Ok.field-0.kept c.in-Ok.ensures.sound c.in-Ok.ensures.kept)

pub returns-in-Err-clause-bad : goal.returns-in-Err-clause-bad
returns-in-Err-clause-bad g c = λ index e. bad_of _ index (c.in-Err.ensures.bad index e)
