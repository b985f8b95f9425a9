use Rattle.std.proofs.Common.{◌≡◌, ◌+◌, ◌-◌, ◌<◌, map, take, drop, length}
use Rattle.striped_loglet.specs.Views.{total}
use Rattle.striped_loglet.specs.Servings.{states_of}
use Rattle.striped_loglet.proofs.shape.place_of.Given as goal

abbrev pub invariant-loop-i : goal.invariant-loop-i
invariant-loop-i g l = record {
  inside : l.i < length l.stripes;
  below : l.rest < total (λ v. v.servers) (drop l.i (map g.L.Loglet.view l.stripes));
  number : l.server ≡ total (λ v. v.servers) (take l.i (map g.L.Loglet.view l.stripes)) + l.rest;
  each : l.server ≡ length (states_of (take l.i (map g.L.Loglet.serving l.stripes))) + l.rest;
}

abbrev pub decreases-loop-i : goal.decreases-loop-i
decreases-loop-i g l = length l.stripes - l.i
