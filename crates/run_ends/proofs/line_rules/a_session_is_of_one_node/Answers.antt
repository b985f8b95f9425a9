use Rattle.run_ends.proofs.Rules.{session_home}
use Rattle.run_ends.proofs.line_rules.a_session_is_of_one_node.Goals as goal

pub returns : goal.returns
returns c = session_home
