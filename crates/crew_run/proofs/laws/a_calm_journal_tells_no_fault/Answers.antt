use Rattle.run_ends.proofs.Counting.{AreCounted}
use Rattle.crew_run.proofs.Seeing.{none_told}
use Rattle.crew_run.proofs.laws.a_calm_journal_tells_no_fault.Goals as goal

pub returns : goal.returns
returns g c = let p = g.P.Rules in λ journal workers chain yard back calm.
    let told : AreCounted p.law = record {
      lacks = c.lacks_are_counted.ensures;
      lack = c.a_lack_has_a_fault.ensures;
      refusals = c.refusals_are_counted.ensures.counted;
      full = c.refusals_are_counted.ensures.full;
      register = c.register_faults_are_counted.ensures;
      lack_there = c.a_fault_names_a_cell.ensures.lack;
      full_there = c.a_fault_names_a_cell.ensures.full;
    } in
    none_told p.law told journal workers chain yard back calm
