use Rattle.run_ends.proofs.Rules.{leave_sent}
use Rattle.run_ends.proofs.line_rules.leaves_are_sent.Goals as goal

pub returns : goal.returns
returns c = leave_sent
