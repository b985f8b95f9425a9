use Rattle.std.proofs.Common.{sym, ◌∙◌, refl, subst}
use Rattle.cell_views.specs.Views.{IsManner}
use Rattle.cell_views.proofs.Calls.{steps_run}
use Rattle.quorum_cell.specs.Steps.{run_cell}
use Rattle.world_steps.specs.declared.shape.Shape.TheVariants as shape
use Rattle.world_steps.specs.Cells.{start_quorum}
use Rattle.world_steps.specs.Parts.{fresh, cell_at}
use Rattle.world_steps.specs.Laws.{any_append, any_trim}
use Rattle.world_steps.specs.Moves.{steps_in}
use Rattle.world_steps.specs.Steps.{run_world}
use Rattle.world_steps.proofs.Kind.{cell_kind}
use Rattle.world_steps.proofs.Fresh.{fresh_law, reached, cell_of, shape_in, quorum_lawful, quorum_servers}
use Rattle.world_steps.proofs.InCells.{run_in, all_spelled, all_called}
use Rattle.world_steps.proofs.laws.cells_are_lawful.Goals as goal

pub returns-clause-law : goal.returns-clause-law
returns-clause-law c = λ shapes nodes steps number path cell shelf new e. cell_kind.quorums (cell_at (run_world steps (fresh shapes nodes)).cells number) path cell ((reached shapes nodes steps shelf new).cells number).lawful e

pub returns-clause-steps : goal.returns-clause-steps
returns-clause-steps c = run_in

pub returns-clause-run : goal.returns-clause-run
returns-clause-run c = λ shapes nodes steps number shelf new. all_called number steps (fresh shapes nodes) (fresh_law any_append any_trim shapes nodes shelf) new

pub returns-clause-quorum_run : goal.returns-clause-quorum_run
returns-clause-quorum_run c = λ manner shapes nodes steps number size shelf new at many.
    let world = fresh shapes nodes in
    let first = start_quorum size in
    let lawful = quorum_lawful size (shape_in shapes shelf.each number (shape.Quorum size) at) in (
      run_cell (steps_in number steps world) first,
      run_in steps world number first (cell_of shapes nodes number (shape.Quorum size) at),
      steps_run manner (steps_in number steps world) first (subst (λ n. IsManner n manner) (sym (quorum_servers size)) many) lawful.0 lawful.1 (all_spelled number steps world new),
    )
