use Rattle.std.proofs.Common.{◌≡◌, ◌+◌, map, drop, ap, arith}
use Rattle.loglet_api.specs.Servers.{downs_of}
use Rattle.striped_loglet.specs.Views.{total}
use Rattle.striped_loglet.proofs.Places.{total_drop}
use Rattle.striped_loglet.proofs.Serving.{downs_drop, states_end}
use Rattle.striped_loglet.proofs.shape.down_of.Goals as goal

pub overflow_add-down : goal.overflow_add-down
overflow_add-down g c =
    let next : total (λ v. v.down) (drop c.loop-stripe.stripe-index (map g.L.Loglet.view c.args.stripes.now)) ≡ (g.L.Loglet.view c.stripe-item.result).down + total (λ v. v.down) (drop (c.loop-stripe.stripe-index + 1) (map g.L.Loglet.view c.args.stripes.now)) =
    total_drop (λ v. v.down) g.L.Loglet.view c.args.stripes.now c.loop-stripe.stripe-index c.stripe-item.result c.loop-stripe-test.true c.stripe-item.is in
    let so_far = c.loop-stripe.invariant.all in
    let most = c.requires in
    let here = c.down-down.ensures.value in
    omega (arith, next, so_far, most, here)

pub loop-stripe-preserved : goal.loop-stripe-preserved
loop-stripe-preserved g c =
    let next : total (λ v. v.down) (drop c.loop-stripe.stripe-index (map g.L.Loglet.view c.args.stripes.now)) ≡ (g.L.Loglet.view c.stripe-item.result).down + total (λ v. v.down) (drop (c.loop-stripe.stripe-index + 1) (map g.L.Loglet.view c.args.stripes.now)) =
    total_drop (λ v. v.down) g.L.Loglet.view c.args.stripes.now c.loop-stripe.stripe-index c.stripe-item.result c.loop-stripe-test.true c.stripe-item.is in
    let so_far = c.loop-stripe.invariant.all in
    let here = c.down-down.ensures.value in
    let more = downs_drop g.L.Loglet.serving c.args.stripes.now c.loop-stripe.stripe-index c.stripe-item.result c.loop-stripe-test.true c.stripe-item.is in
    let seen = c.loop-stripe.invariant.each in
    let each = c.down-down.ensures.each in
    record { all = omega (arith, next, so_far, here); each = omega (arith, more, seen, each) }

pub returns-clause-each : goal.returns-clause-each
returns-clause-each g c =
    let end = ap downs_of (states_end g.L.Loglet.serving c.args.stripes.now c.loop-stripe.stripe-index (let e = c.loop-stripe-test.false in omega (arith, e))) in
    let seen = c.loop-stripe.invariant.each in
    omega (arith, end, seen)
