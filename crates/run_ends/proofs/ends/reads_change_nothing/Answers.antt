use Rattle.run_ends.proofs.Reading.{closed_on}
use Rattle.run_ends.proofs.ends.reads_change_nothing.Goals as goal

pub returns : goal.returns
returns g c = λ lines fault_lines journal more looks log workers h reads legal.
    closed_on g.P.Rules.law g.S.Replica.meaning lines fault_lines journal more looks log workers h reads legal
