use Rattle.std.proofs.Common.{◌≡◌, true, length}
use Rattle.std.proofs.lemmas.List.{length-replicate}
use Rattle.std.proofs.lemmas.Option.{none-some}
use Rattle.quorum_cell.specs.Cells.{start, no_server}
use Rattle.quorum_cell.proofs.Lawful.{start_lawful}
use Rattle.cell_views.proofs.Moves.{step_moves}
use Rattle.cell_views.proofs.Calls.{step_runs, steps_run}
use Rattle.cell_views.proofs.laws.cells_are_loglets.Goals as goal

pub returns-clause-step : goal.returns-clause-step
returns-clause-step c = step_runs

pub returns-clause-run : goal.returns-clause-run
returns-clause-run c = λ m n room limit steps manner servers rooms tickets spelled.
    let count : length (start n room limit).servers ≡ n = length-replicate n (record no_server { up = true }) in
    steps_run m steps (start n room limit) (rw count manner) (start_lawful n room limit servers.0 servers.1 rooms.0 rooms.1 tickets) (λ i e z. absurd (none-some e z)) spelled

pub returns-clause-moves : goal.returns-clause-moves
returns-clause-moves c = step_moves
