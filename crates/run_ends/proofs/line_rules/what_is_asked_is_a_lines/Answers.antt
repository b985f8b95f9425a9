use Rattle.run_ends.proofs.Rules.{asked_by}
use Rattle.run_ends.proofs.line_rules.what_is_asked_is_a_lines.Goals as goal

pub returns : goal.returns
returns c = asked_by
