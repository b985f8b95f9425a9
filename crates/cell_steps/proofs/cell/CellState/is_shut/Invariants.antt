use Rattle.std.proofs.Common.{◌≡◌}
use Rattle.majority_rule.specs.Majority.{votes_below}
use Rattle.quorum_cell.specs.Servers.{is_sealed}
use Rattle.quorum_cell.specs.Cells.{server}
use Rattle.cell_steps.proofs.cell.CellState.is_shut.Given as goal

abbrev pub invariant-loop-server : goal.invariant-loop-server
invariant-loop-server l = l.sealed ≡ votes_below l.server (λ i. is_sealed (server l.self i))
