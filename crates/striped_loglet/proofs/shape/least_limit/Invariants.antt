use Rattle.std.proofs.Common.{◌≡◌, ◌∷◌, map, drop}
use Rattle.striped_loglet.specs.Views.{least_of}
use Rattle.striped_loglet.proofs.shape.least_limit.Given as goal

abbrev pub invariant-loop-stripe : goal.invariant-loop-stripe
invariant-loop-stripe g l = least_of (l.limit ∷ map (λ v. v.limit) (drop l.stripe-index (map g.L.Loglet.view l.stripes))) ≡ least_of (map (λ v. v.limit) (map g.L.Loglet.view l.stripes))
