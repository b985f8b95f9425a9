use Rattle.std.proofs.Common.{◌≡◌, refl, sym, ap, ◌∙◌}
use Rattle.std.proofs.lemmas.Option.{same_Some}
use Rattle.native_plan.specs.declared.pending.Pending.{Pending}
use Rattle.native_loglet.proofs.closing.take_decided.Goals as goal

pub returns-clause-taken : goal.returns-clause-taken
returns-clause-taken c =
    let same : c.in_ok-task.field-0 ≡ c.in_ok-get.field-0.now = same_Some _ _ (c.in_ok-task.ensures.value ∙ sym c.in_ok-get.ensures.value) in
    record {
      p = c.in_ok-task.field-0;
      was = sym c.in_ok-task.ensures.value;
      task = refl;
      size = refl;
      firm = refl;
      got = refl;
      outcome = ap (λ (p : Pending). p.outcome) same ∙ c.in_ok-outcome.was;
      rest = c.remove.ensures.updates;
    }
