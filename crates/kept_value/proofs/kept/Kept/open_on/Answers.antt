use Rattle.std.proofs.Common.{List, ℕ, subst, ◌∙◌, refl}
use Rattle.kept_value.specs.View.{IsFirstBad}
use Rattle.kept_value.proofs.kept.Kept.open_on.Goals as goal

pub returns-in-Ok-replay-clause-opened : goal.returns-in-Ok-replay-clause-opened
returns-in-Ok-replay-clause-opened g c = (refl, c.in-Ok.ensures.opened.1)

pub returns-in-Err-replay-clause-bad : goal.returns-in-Err-replay-clause-bad
returns-in-Err-replay-clause-bad g c =
    λ index e. subst (λ (rs : List (List ℕ)). IsFirstBad g.V.KeptValue.kind rs index) (c.in-Ok.ensures.handed ∙ c.in-Ok.ensures.records) (c.in-Err-replay.ensures.bad index e)
