use Rattle.std.proofs.Common.{◌≡◌}
use Rattle.majority_rule.specs.Majority.{votes_below}
use Rattle.quorum_cell.specs.Tallies.{heard_from as heard_by}
use Rattle.cell_steps.specs.Says.{says as says_of}
use Rattle.cell_steps.proofs.tally.OperationState.majority_says.Given as goal

abbrev pub invariant-loop-server : goal.invariant-loop-server
invariant-loop-server l = l.votes ≡ votes_below l.server (heard_by (says_of l.says) l.self)
