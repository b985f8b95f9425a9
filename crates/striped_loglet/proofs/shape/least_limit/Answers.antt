use Rattle.std.proofs.Common.{◌≡◌, ℕ, ◌+◌, ◌∷◌, map, drop, min, ap, sym, ◌∙◌, arith}
use Rattle.striped_loglet.specs.Views.{least_of}
use Rattle.striped_loglet.proofs.Places.{drop_view, end_view, least_step}
use Rattle.striped_loglet.proofs.shape.least_limit.Goals as goal

pub loop-stripe-preserved : goal.loop-stripe-preserved
loop-stripe-preserved g c =
    let k = c.loop-stripe.stripe-index in
    let xs = c.args.stripes.now in
    let view = g.L.Loglet.view in
    let limit : ℕ = c.loop-stripe.limit in
    let rest = map (λ v. v.limit) (drop (k + 1) (map view xs)) in
    let new : c.min-limit.result ≡ min (view c.stripe-item.result).limit limit = (let a = c.limit.ensures in let b = c.min-limit.ensures in omega (arith, a, b)) in
    ap (λ (n : ℕ). least_of (n ∷ rest)) new ∙ least_step limit (view c.stripe-item.result).limit rest
    ∙ ap (λ vs. least_of (limit ∷ map (λ v. v.limit) vs)) (sym (drop_view view xs k c.stripe-item.result c.loop-stripe-test.true c.stripe-item.is)) ∙ c.loop-stripe.invariant

pub returns : goal.returns
returns g c =
    let end = end_view g.L.Loglet.view c.args.stripes.now c.loop-stripe.stripe-index (let e = c.loop-stripe-test.false in omega (arith, e)) in
    ap (λ vs. least_of (c.loop-stripe.limit ∷ map (λ v. v.limit) vs)) (sym end) ∙ c.loop-stripe.invariant
