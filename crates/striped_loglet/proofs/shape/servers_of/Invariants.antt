use Rattle.std.proofs.Common.{◌≡◌, ◌+◌, length, map, drop}
use Rattle.striped_loglet.specs.Views.{total}
use Rattle.striped_loglet.specs.Servings.{states_of}
use Rattle.striped_loglet.proofs.shape.servers_of.Given as goal

abbrev pub invariant-loop-stripe : goal.invariant-loop-stripe
invariant-loop-stripe g l = record {
  all : l.servers + total (λ v. v.servers) (drop l.stripe-index (map g.L.Loglet.view l.stripes)) ≡ total (λ v. v.servers) (map g.L.Loglet.view l.stripes);
  each : l.servers + length (states_of (drop l.stripe-index (map g.L.Loglet.serving l.stripes))) ≡ length (states_of (map g.L.Loglet.serving l.stripes));
}
