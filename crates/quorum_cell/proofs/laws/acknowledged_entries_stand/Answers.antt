use Rattle.quorum_cell.specs.Cells.{start}
use Rattle.quorum_cell.specs.Steps.{run_cell}
use Rattle.quorum_cell.proofs.Runs.{quorum_law as law, run_later}
use Rattle.quorum_cell.proofs.Conclusions.{append_stands}
use Rattle.quorum_cell.proofs.laws.acknowledged_entries_stand.Goals as goal

pub returns-clause-kept : goal.returns-clause-kept
returns-clause-kept c = λ n room limit early late some t e is z. append_stands (run_cell early (start n room limit)) (run_cell late (run_cell early (start n room limit))) (law n room limit early some) (run_later late (run_cell early (start n room limit))) t e is z

pub returns-clause-copies : goal.returns-clause-copies
returns-clause-copies c = λ n room limit steps some i k below. ((law n room limit steps some).servers i).same k below
