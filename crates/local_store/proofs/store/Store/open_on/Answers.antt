use Rattle.std.proofs.Common.{Some, sym, ap, ◌∙◌}
use Rattle.std.specs.Arc.{arc_value}
use Rattle.std.proofs.lemmas.Result.{err_from_is_err_and}
use Rattle.local_store.specs.declared.base.Base.{Base}
use Rattle.local_store.specs.Keeping.{saved_by}
use Rattle.local_store.proofs.Keeping.{bad_of, standing_calm, kept_now, kept_survives}
use Rattle.local_store.proofs.store.Store.open_on.Goals as goal

pub returns-in_err-kept-clause-bad : goal.returns-in_err-kept-clause-bad
returns-in_err-kept-clause-bad g c = λ index.
    let r = err_from_is_err_and c.from_residual.result c.from_residual.ensures.1 in
    rw (r.1, r.2) (λ is. bad_of _ index (c.in_err-kept.ensures.bad index is))

pub returns-in-Ok-clause-spelled : goal.returns-in-Ok-clause-spelled
returns-in-Ok-clause-spelled g c = c.in_ok-kept.ensures.spelled ∙ ap (λ (b : Base). Some (saved_by b)) (sym c.in-Ok.ensures.ok)

pub returns-in-Ok-clause-survives : goal.returns-in-Ok-clause-survives
returns-in-Ok-clause-survives g c =
    let o = c.in_ok-kept.field-0 in
    let base = arc_value c.in-Ok.base in
    kept_survives base o.kept (kept_now base o.value o.kept c.in-Ok.ensures.ok c.in_ok-kept.ensures.sound (standing_calm o.kept c.in_ok-kept.ensures.opened.0) c.in_ok-kept.ensures.kept)
