use Rattle.std.proofs.Common.{◌∙◌, ap}
use Rattle.native_plan.specs.declared.member.Member.{Member}
use Rattle.native_plan.specs.Members.{turn_of}
use Rattle.native_plan.proofs.Counts.{same_default}
use Rattle.native_loglet.proofs.carrying.turn.Goals as goal

pub returns : goal.returns
returns c = c.turn.ensures ∙ ap (λ (m : Member). turn_of m.message) (c.index.ensures ∙ same_default _ _ _ _ c.requires)
