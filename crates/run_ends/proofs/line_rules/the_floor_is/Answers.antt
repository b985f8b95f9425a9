use Rattle.run_ends.proofs.Rules.{floor_is}
use Rattle.run_ends.proofs.line_rules.the_floor_is.Goals as goal

pub returns : goal.returns
returns c = floor_is
