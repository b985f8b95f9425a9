use Rattle.std.proofs.Common.{◌&&◌, ◌==◌, not, rules}
use Rattle.fitting_run.specs.declared.answered.Answered.{Answered}
use Rattle.fitting_run.specs.Replacements.{is_behind}
use Rattle.fitting_run.specs.Trims.{may_allow}
use Rattle.fitting_run.proofs.Walks.{any-beside}
use Rattle.fitting_run.proofs.trimming.node_may_have_allowed.Goals as goal

pub returns-else-may_above : goal.returns-else-may_above
returns-else-may_above c =
    any-beside (λ (a : Answered). (a.line.node == c.args.node) && may_allow c.args.n a) (λ (a : Answered). not (is_behind c.args.b.now a)) c.args.above.now c.args.below.now _ (search rules) (search rules)
