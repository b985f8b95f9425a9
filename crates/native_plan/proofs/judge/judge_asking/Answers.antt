use Rattle.std.proofs.Common.{sym, ◌∙◌}
use Rattle.native_plan.proofs.Stages.{no_lack, asking_is}
use Rattle.native_plan.proofs.judge.judge_asking.Goals as goal

pub returns-then-are_many_opened : goal.returns-then-are_many_opened
returns-then-are_many_opened c = c.judge_opening.ensures ∙ rw c.greatest_opened.ensures (asking_is _ (sym c.if-is_any_sealed.ensures) (no_lack _ _ (sym c.in_default.ensures)) (sym c.if-are_many_opened.ensures))
