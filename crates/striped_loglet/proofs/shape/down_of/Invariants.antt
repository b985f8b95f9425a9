use Rattle.std.proofs.Common.{◌≡◌, ◌+◌, map, drop}
use Rattle.loglet_api.specs.Servers.{downs_of}
use Rattle.striped_loglet.specs.Views.{total}
use Rattle.striped_loglet.specs.Servings.{states_of}
use Rattle.striped_loglet.proofs.shape.down_of.Given as goal

abbrev pub invariant-loop-stripe : goal.invariant-loop-stripe
invariant-loop-stripe g l = record {
  all : l.down + total (λ v. v.down) (drop l.stripe-index (map g.L.Loglet.view l.stripes)) ≡ total (λ v. v.down) (map g.L.Loglet.view l.stripes);
  each : l.down + downs_of (states_of (drop l.stripe-index (map g.L.Loglet.serving l.stripes))) ≡ downs_of (states_of (map g.L.Loglet.serving l.stripes));
}
