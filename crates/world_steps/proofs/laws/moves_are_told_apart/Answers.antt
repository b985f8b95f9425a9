use Rattle.cell_steps.specs.Telling.{none_came}
use Rattle.cell_steps.proofs.Telling.{all_told}
use Rattle.quorum_cell.specs.Steps.{run_cell}
use Rattle.world_steps.specs.declared.shape.Shape.TheVariants as shape
use Rattle.world_steps.specs.Cells.{start_quorum}
use Rattle.world_steps.specs.Parts.{fresh}
use Rattle.world_steps.specs.Moves.{steps_in}
use Rattle.world_steps.proofs.Fresh.{cell_of, shape_in, quorum_lawful}
use Rattle.world_steps.proofs.InCells.{run_in, all_spelled}
use Rattle.world_steps.proofs.Apart.{told_there}
use Rattle.world_steps.proofs.laws.moves_are_told_apart.Goals as goal

pub returns-clause-tells : goal.returns-clause-tells
returns-clause-tells c = told_there

pub returns-clause-run : goal.returns-clause-run
returns-clause-run c = λ shapes nodes steps number size shelf new at few.
    let world = fresh shapes nodes in
    let first = start_quorum size in
    let lawful = quorum_lawful size (shape_in shapes shelf.each number (shape.Quorum size) at) in (
      run_cell (steps_in number steps world) first,
      run_in steps world number first (cell_of shapes nodes number (shape.Quorum size) at),
      all_told (steps_in number steps world) first none_came lawful.0 lawful.1 (all_spelled number steps world new) few,
    )
