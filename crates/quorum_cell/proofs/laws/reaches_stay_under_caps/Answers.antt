use Rattle.quorum_cell.specs.Cells.{Cell, start}
use Rattle.quorum_cell.specs.Steps.{run_cell}
use Rattle.quorum_cell.specs.Law.{QuorumLaw}
use Rattle.quorum_cell.proofs.Runs.{quorum_law as law, run_later, run_keeps}
use Rattle.quorum_cell.proofs.Conclusions.{reach_stays}
use Rattle.quorum_cell.proofs.laws.reaches_stay_under_caps.Goals as goal

pub returns : goal.returns
returns c = λ n room limit early late some.
    let cell : Cell = run_cell early (start n room limit) in
    let holds : QuorumLaw cell = law n room limit early some in
    reach_stays cell (run_cell late cell) holds (run_keeps late cell holds) (run_later late cell)
