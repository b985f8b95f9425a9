use Rattle.world_steps.specs.Laws.{any_append, any_trim}
use Rattle.world_steps.specs.Parts.{fresh}
use Rattle.world_steps.specs.Steps.{run_world}
use Rattle.world_steps.proofs.Fresh.{later, reached}
use Rattle.world_steps.proofs.LogLaws.{answered_stands, placed_stands}
use Rattle.world_steps.proofs.laws.acknowledged_entries_stand.Goals as goal

pub returns-clause-reached : goal.returns-clause-reached
returns-clause-reached c = λ shapes nodes early late shelf a b.
    let w = run_world early (fresh shapes nodes) in
    let law = reached shapes nodes early shelf a in
    answered_stands any_append any_trim w law (run_world late w) (later late w law b)

pub returns-clause-told : goal.returns-clause-told
returns-clause-told c = λ shapes nodes early late shelf a b.
    let w = run_world early (fresh shapes nodes) in
    let law = reached shapes nodes early shelf a in
    placed_stands any_append any_trim w law (run_world late w) (later late w law b)
