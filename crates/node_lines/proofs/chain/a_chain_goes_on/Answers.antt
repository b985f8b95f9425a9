use Rattle.legal_journal.proofs.Legal.{goes_on}
use Rattle.node_lines.proofs.Chains.{first_rises, started_stays}
use Rattle.node_lines.proofs.chain.a_chain_goes_on.Goals as goal

pub returns-clause-version : goal.returns-clause-version
returns-clause-version g c = let p = g.P.Rules in λ early late legal. (goes_on p.law early late legal).version

pub returns-clause-last : goal.returns-clause-last
returns-clause-last g c = let p = g.P.Rules in λ early late legal. (goes_on p.law early late legal).last

pub returns-clause-first : goal.returns-clause-first
returns-clause-first g c = let p = g.P.Rules in λ early late legal. first_rises p.law early late legal

pub returns-clause-started : goal.returns-clause-started
returns-clause-started g c = let p = g.P.Rules in λ early late pos legal h. started_stays p.law early late pos legal h
