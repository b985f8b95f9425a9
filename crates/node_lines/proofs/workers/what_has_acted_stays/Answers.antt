use Rattle.node_lines.proofs.Bounding.{acted_stays, answers_stay}
use Rattle.node_lines.proofs.workers.what_has_acted_stays.Goals as goal

pub returns-clause-acted : goal.returns-clause-acted
returns-clause-acted g c = let p = g.P.Rules in λ early late s n front log legal was is longer h.
    acted_stays p.law early late s n front log legal was is longer h

pub returns-clause-answers : goal.returns-clause-answers
returns-clause-answers g c = let p = g.P.Rules in λ early late s front log answers legal was is longer h.
    answers_stay p.law early late s front log answers legal was is longer h
