use Rattle.std.proofs.Common.{sym, ◌∙◌}
use Rattle.native_plan.proofs.Stages.{no_lack, sealing_is}
use Rattle.native_plan.proofs.judge.judge_sealing.Goals as goal

pub returns-then-are_many_sealed : goal.returns-then-are_many_sealed
returns-then-are_many_sealed c = c.judge_mending.ensures ∙ rw c.greatest_sealed.ensures (sealing_is _ (no_lack _ _ (sym c.in_default.ensures)) (sym c.if-are_many_sealed.ensures))
