use Rattle.cell_steps.proofs.Majorities.{outcomes_rest}
use Rattle.striped_cells.proofs.Striping.{striped_kind}
use Rattle.striped_cells.proofs.laws.outcomes_rest_on_majorities.Goals as goal

pub returns : goal.returns
returns g c = λ x path cell h e. outcomes_rest cell ((striped_kind g.C.AnyCell.ways).quorums x path cell h e)
