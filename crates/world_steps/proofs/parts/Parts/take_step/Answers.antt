use Rattle.std.proofs.Common.{sym, subst}
use Rattle.std.proofs.lemmas.Result.{on_ok_weaker}
use Rattle.world_steps.specs.Laws.{WorldLaw, any_append, any_trim}
use Rattle.world_steps.proofs.Stepped.{step_law}
use Rattle.world_steps.proofs.Fresh.{keeps_any}
use Rattle.world_steps.proofs.parts.Parts.take_step.Goals as goal

pub returns-clause-law : goal.returns-clause-law
returns-clause-law c =
    on_ok_weaker c.make.result
    (λ e. subst (WorldLaw any_append any_trim) (sym e) (step_law any_append any_trim c.args.self.now c.args.step.now c.requires.law (keeps_any c.args.self.now c.args.step.now c.requires.brings)))
    c.make.ensures
