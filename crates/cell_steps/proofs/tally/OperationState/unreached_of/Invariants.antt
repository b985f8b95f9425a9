use Rattle.std.proofs.Common.{◌≡◌}
use Rattle.majority_rule.specs.Majority.{votes_below}
use Rattle.quorum_cell.specs.Tallies.{unreached as unreached_by}
use Rattle.cell_steps.proofs.tally.OperationState.unreached_of.Given as goal

abbrev pub invariant-loop-server : goal.invariant-loop-server
invariant-loop-server l = l.votes ≡ votes_below l.server (unreached_by l.self)
