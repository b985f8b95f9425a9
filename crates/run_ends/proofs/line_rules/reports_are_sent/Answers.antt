use Rattle.run_ends.proofs.Rules.{report_sent}
use Rattle.run_ends.proofs.line_rules.reports_are_sent.Goals as goal

pub returns : goal.returns
returns c = report_sent
