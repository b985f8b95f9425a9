use Rattle.run_ends.proofs.Counting.{AreCounted, faults_came}
use Rattle.run_ends.proofs.ends.the_faults_were_counted.Goals as goal

pub returns : goal.returns
returns g c = let p = g.P.Rules in let replica = g.S.Replica in λ run lines fault_lines rows journal looks log workers o yard h are back.
    let told : AreCounted p.law = record {
      lacks = c.lacks_are_counted.ensures;
      lack = c.a_lack_has_a_fault.ensures;
      refusals = c.refusals_are_counted.ensures.counted;
      full = c.refusals_are_counted.ensures.full;
      register = c.register_faults_are_counted.ensures;
      lack_there = c.a_fault_names_a_cell.ensures.lack;
      full_there = c.a_fault_names_a_cell.ensures.full;
    } in
    faults_came p.law told replica.meaning lines fault_lines rows journal looks log workers o.chain yard h back
