use Rattle.std.proofs.Common.{◌≡◌, ℕ, ◌^◌, ◌<◌, ◌≤◌, map, drop, max, Some}
use Rattle.std.specs.Prelude.{slice_get}
use Rattle.loglet_api.specs.View.{LogletView}
use Rattle.striped_loglet.specs.Shapes.{most_of}
use Rattle.striped_loglet.proofs.shape.most_rounds.Given as goal

abbrev pub invariant-loop-stripe : goal.invariant-loop-stripe
invariant-loop-stripe g l = record {
  most : l.rounds ≤ 2 ^ 24;
  all : (i : ℕ) (v : LogletView) → i < l.stripe-index → slice_get (map g.L.Loglet.view l.stripes) i ≡ Some v → v.rounds ≤ l.rounds;
  so_far : max l.rounds (most_of (λ v. v.rounds) (drop l.stripe-index (map g.L.Loglet.view l.stripes))) ≡ most_of (λ v. v.rounds) (map g.L.Loglet.view l.stripes);
}
