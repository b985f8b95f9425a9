use Rattle.std.proofs.Common.{◌≡◌, ◌+◌, ◌-◌, ◌^◌, ◌≤◌, min, map, drop}
use Rattle.striped_loglet.specs.Views.{total}
use Rattle.striped_loglet.proofs.shape.faults_of.Given as goal

abbrev pub invariant-loop-stripe : goal.invariant-loop-stripe
invariant-loop-stripe g l = record {
  fits : l.faults ≤ 2 ^ 64 - 1;
  sum : min (l.faults + total (λ v. v.faults) (drop l.stripe-index (map g.L.Loglet.view l.stripes))) (2 ^ 64 - 1) ≡ min (total (λ v. v.faults) (map g.L.Loglet.view l.stripes)) (2 ^ 64 - 1);
}
