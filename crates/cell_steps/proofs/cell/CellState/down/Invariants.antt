use Rattle.std.proofs.Common.{◌≡◌}
use Rattle.std.specs.Prelude.{not}
use Rattle.majority_rule.specs.Majority.{votes_below}
use Rattle.quorum_cell.specs.Cells.{server}
use Rattle.cell_steps.proofs.cell.CellState.down.Given as goal

abbrev pub invariant-loop-server : goal.invariant-loop-server
invariant-loop-server l = l.down ≡ votes_below l.server (λ i. not (server l.self i).up)
