use Rattle.std.proofs.Common.{ap}
use Rattle.world_steps.specs.Logs.{acts_in}
use Rattle.world_steps.specs.Laws.{any_append, any_trim}
use Rattle.world_steps.specs.Parts.{fresh}
use Rattle.world_steps.specs.Steps.{run_world}
use Rattle.world_steps.proofs.Fresh.{later, reached}
use Rattle.world_steps.proofs.LogLaws.{nodes_same}
use Rattle.world_steps.proofs.WholeLog.{node_begins}
use Rattle.world_steps.proofs.laws.nodes_follow_the_log.Goals as goal

pub returns-clause-state : goal.returns-clause-state
returns-clause-state c = λ shapes nodes steps number shelf a.
    let begins = node_begins shapes nodes steps number shelf a in
    (begins.0, begins.1, ap acts_in begins.1)

pub returns-clause-agree : goal.returns-clause-agree
returns-clause-agree c = λ shapes nodes early late shelf a b.
    let w = run_world early (fresh shapes nodes) in
    let law = reached shapes nodes early shelf a in
    nodes_same any_append any_trim w law (run_world late w) (later late w law b)
