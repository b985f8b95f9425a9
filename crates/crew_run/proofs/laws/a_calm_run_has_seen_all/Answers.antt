use Rattle.run_ends.proofs.Counting.{AreCounted}
use Rattle.crew_run.proofs.Seeing.{seen_all}
use Rattle.crew_run.proofs.laws.a_calm_run_has_seen_all.Goals as goal

pub returns : goal.returns
returns g c = let p = g.P.Rules in λ low journal more workers log chain yard sees front reads back calm.
    let told : AreCounted p.law = record {
      lacks = c.lacks_are_counted.ensures;
      lack = c.a_lack_has_a_fault.ensures;
      refusals = c.refusals_are_counted.ensures.counted;
      full = c.refusals_are_counted.ensures.full;
      register = c.register_faults_are_counted.ensures;
      lack_there = c.a_fault_names_a_cell.ensures.lack;
      full_there = c.a_fault_names_a_cell.ensures.full;
    } in
    seen_all p.law told (c.a_front_is_below_the_tail.ensures low) journal more workers log chain yard sees front reads back calm
