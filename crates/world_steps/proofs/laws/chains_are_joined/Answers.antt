use Rattle.world_steps.specs.Laws.{any_append, any_trim}
use Rattle.world_steps.specs.Parts.{fresh}
use Rattle.world_steps.specs.Steps.{run_world}
use Rattle.world_steps.proofs.Fresh.{later, reached}
use Rattle.world_steps.proofs.LogLaws.{given_stays, chain_is, end_above}
use Rattle.world_steps.proofs.laws.chains_are_joined.Goals as goal

pub returns-clause-one : goal.returns-clause-one
returns-clause-one c = λ shapes nodes early late shelf a b.
    let w = run_world early (fresh shapes nodes) in
    let law = reached shapes nodes early shelf a in
    given_stays any_append any_trim w law (run_world late w) (later late w law b)

pub returns-clause-joined : goal.returns-clause-joined
returns-clause-joined c = λ shapes nodes steps shelf a. chain_is any_append any_trim (run_world steps (fresh shapes nodes)) (reached shapes nodes steps shelf a)

pub returns-clause-closed : goal.returns-clause-closed
returns-clause-closed c = λ shapes nodes steps shelf a. end_above any_append any_trim (run_world steps (fresh shapes nodes)) (reached shapes nodes steps shelf a)
