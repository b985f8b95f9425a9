use Rattle.journal_laws.proofs.Named.{lack_there, full_there}
use Rattle.journal_laws.proofs.faults.a_fault_names_a_cell.Goals as goal

pub returns-clause-lack : goal.returns-clause-lack
returns-clause-lack g c = let p = g.P.Rules in λ i unreached events legal h. lack_there p.law i unreached events legal h

pub returns-clause-full : goal.returns-clause-full
returns-clause-full g c = let p = g.P.Rules in λ i events legal h. full_there p.law i events legal h
