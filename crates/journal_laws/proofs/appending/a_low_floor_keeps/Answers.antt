use Rattle.journal_laws.proofs.Changes.{upto_low, below_low}
use Rattle.journal_laws.proofs.appending.a_low_floor_keeps.Goals as goal

pub returns-clause-upto : goal.returns-clause-upto
returns-clause-upto g c = let p = g.P.Rules in λ m low seen legal. upto_low p.law m low seen legal

pub returns-clause-below : goal.returns-clause-below
returns-clause-below g c = let p = g.P.Rules in λ m low seen pos legal t. below_low p.law m low seen pos legal t
