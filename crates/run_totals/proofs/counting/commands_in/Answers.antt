use Rattle.std.proofs.Common.{rules}
use Rattle.run_totals.proofs.counting.commands_in.Goals as goal

pub returns : goal.returns
returns c = search rules
