use Rattle.std.proofs.Common.{◌≡◌, ◌+◌, ◌-◌, ◌^◌, ◌≤◌, min, map, drop}
use Rattle.std.specs.Prelude.{◌||◌}
use Rattle.striped_loglet.specs.Views.{total, any_shut}
use Rattle.striped_cells.proofs.stripes.counts.Given as goal

abbrev pub invariant-loop-stripe : goal.invariant-loop-stripe
invariant-loop-stripe g l = record {
  shut : (l.shut || any_shut (drop l.stripe-index (map g.C.AnyCell.ways.view l.stripes))) ≡ any_shut (map g.C.AnyCell.ways.view l.stripes);
  fits : l.faults ≤ 2 ^ 64 - 1;
  faults : min (l.faults + total (λ v. v.faults) (drop l.stripe-index (map g.C.AnyCell.ways.view l.stripes))) (2 ^ 64 - 1) ≡ min (total (λ v. v.faults) (map g.C.AnyCell.ways.view l.stripes)) (2 ^ 64 - 1);
  down : l.down + total (λ v. v.down) (drop l.stripe-index (map g.C.AnyCell.ways.view l.stripes)) ≡ total (λ v. v.down) (map g.C.AnyCell.ways.view l.stripes);
}
