use Rattle.std.proofs.Common.{refl, sym, ◌∙◌}
use Rattle.striped_loglet.proofs.pending.take_decided.Goals as goal

pub returns-clause-taken : goal.returns-clause-taken
returns-clause-taken g c =
    record {
      p = c.in_ok-asked.field-0;
      was = sym c.remove.ensures.value ∙ c.in_ok-asked.was;
      task = refl;
      size = refl;
      answer = c.in_ok-answer.was;
      rest = c.remove.ensures.updates;
    }
