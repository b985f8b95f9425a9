use Rattle.run_ends.proofs.Rules.{may_run}
use Rattle.run_ends.proofs.line_rules.lines_may_run.Goals as goal

pub returns : goal.returns
returns c = may_run
