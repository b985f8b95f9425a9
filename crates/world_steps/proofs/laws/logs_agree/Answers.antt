use Rattle.world_steps.specs.Laws.{any_append, any_trim}
use Rattle.world_steps.specs.Parts.{fresh}
use Rattle.world_steps.specs.Steps.{run_world}
use Rattle.world_steps.proofs.Fresh.{later, reached}
use Rattle.world_steps.proofs.LogLaws.{logs_same, log_whole, trim_grows, tail_grows}
use Rattle.world_steps.proofs.laws.logs_agree.Goals as goal

pub returns-clause-agree : goal.returns-clause-agree
returns-clause-agree c = λ shapes nodes early late shelf a b.
    let w = run_world early (fresh shapes nodes) in
    let law = reached shapes nodes early shelf a in
    logs_same any_append any_trim w law (run_world late w) (later late w law b)

pub returns-clause-whole : goal.returns-clause-whole
returns-clause-whole c = λ shapes nodes early late shelf a b.
    let w = run_world early (fresh shapes nodes) in
    let law = reached shapes nodes early shelf a in
    log_whole any_append any_trim w law (run_world late w) (later late w law b)

pub returns-clause-grow : goal.returns-clause-grow
returns-clause-grow c = λ shapes nodes early late shelf a b.
    let w = run_world early (fresh shapes nodes) in
    let law = reached shapes nodes early shelf a in
    let goes = later late w law b in
    (trim_grows any_append any_trim w law (run_world late w) goes, tail_grows any_append any_trim w law (run_world late w) goes)
