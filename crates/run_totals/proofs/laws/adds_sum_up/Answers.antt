use Rattle.run_totals.proofs.Amounts.{placed-sum, whole-sum}
use Rattle.run_totals.proofs.laws.adds_sum_up.Goals as goal

pub returns-clause-placed : goal.returns-clause-placed
returns-clause-placed c = placed-sum

pub returns-clause-whole : goal.returns-clause-whole
returns-clause-whole c = whole-sum
