use Rattle.cell_steps.proofs.Majorities.{outcomes_rest}
use Rattle.world_steps.specs.Parts.{fresh, cell_at}
use Rattle.world_steps.specs.Steps.{run_world}
use Rattle.world_steps.proofs.Kind.{cell_kind}
use Rattle.world_steps.proofs.Fresh.{reached}
use Rattle.world_steps.proofs.laws.outcomes_rest_on_majorities.Goals as goal

pub returns : goal.returns
returns c = λ shapes nodes steps number path cell shelf new e.
    outcomes_rest cell (cell_kind.quorums (cell_at (run_world steps (fresh shapes nodes)).cells number) path cell ((reached shapes nodes steps shelf new).cells number).lawful e)
