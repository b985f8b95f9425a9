use Rattle.std.proofs.Common.{◌≡◌, ◌+◌, map, drop, arith}
use Rattle.striped_loglet.specs.Views.{total}
use Rattle.striped_loglet.proofs.Places.{total_drop, total_end}
use Rattle.striped_loglet.proofs.shape.faults_of.Goals as goal

pub loop-stripe-preserved : goal.loop-stripe-preserved
loop-stripe-preserved g c =
    let next : total (λ v. v.faults) (drop c.loop-stripe.stripe-index (map g.L.Loglet.view c.args.stripes.now)) ≡ (g.L.Loglet.view c.stripe-item.result).faults + total (λ v. v.faults) (drop (c.loop-stripe.stripe-index + 1) (map g.L.Loglet.view c.args.stripes.now)) =
    total_drop (λ v. v.faults) g.L.Loglet.view c.args.stripes.now c.loop-stripe.stripe-index c.stripe-item.result c.loop-stripe-test.true c.stripe-item.is in
    let so_far = c.loop-stripe.invariant.sum in
    let here = c.faults.ensures in
    let sum = c.saturating_add-faults.ensures in
    record { fits = omega (arith, sum); sum = omega (arith, next, so_far, here, sum) }

pub returns : goal.returns
returns g c =
    let so_far = c.loop-stripe.invariant.sum in
    let end = total_end (λ v. v.faults) g.L.Loglet.view c.args.stripes.now c.loop-stripe.stripe-index c.loop-stripe-test.false in
    let fits = c.loop-stripe.invariant.fits in
    omega (arith, so_far, end, fits)
