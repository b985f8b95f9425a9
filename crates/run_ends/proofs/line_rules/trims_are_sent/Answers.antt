use Rattle.run_ends.proofs.Rules.{trim_sent}
use Rattle.run_ends.proofs.line_rules.trims_are_sent.Goals as goal

pub returns : goal.returns
returns c = trim_sent
