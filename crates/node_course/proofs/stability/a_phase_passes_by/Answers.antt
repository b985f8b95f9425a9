use Rattle.node_course.proofs.Passing.{phase_passed}
use Rattle.node_course.proofs.stability.a_phase_passes_by.Goals as goal

pub returns : goal.returns
returns g c = let p = g.P.Rules in let replica = g.S.Replica in λ lines home nodes course looks n from to seat desks le begins ends none r. record {
  node = phase_passed p.law replica.meaning lines home nodes course looks n from to seat desks le begins none r.node;
  none_given = r.none_given;
}
