use Rattle.run_ends.proofs.Rules.{line_sent}
use Rattle.run_ends.proofs.line_rules.lines_are_sent.Goals as goal

pub returns : goal.returns
returns c = line_sent
