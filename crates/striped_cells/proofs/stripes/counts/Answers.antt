use Rattle.std.proofs.Common.{◌≡◌, ◌+◌, Bool, true, false, List, map, drop, refl, sym, ap, ◌∙◌, arith}
use Rattle.std.specs.Prelude.{◌||◌}
use Rattle.loglet_api.specs.View.{LogletView}
use Rattle.striped_loglet.specs.Views.{total, any_shut}
use Rattle.striped_loglet.proofs.Places.{total_drop, drop_view}
use Rattle.striped_cells.specs.declared.cell.Numbers.{Numbers}
use Rattle.striped_cells.proofs.stripes.counts.Goals as goal

or_assoc : (a b d : Bool) → ((a || b) || d) ≡ (a || (b || d))
or_assoc true b d = refl
or_assoc false b d = refl

pub overflow_add-down : goal.overflow_add-down
overflow_add-down g c =
    let next : total (λ v. v.down) (drop c.loop-stripe.stripe-index (map g.C.AnyCell.ways.view c.args.stripes.now)) ≡ (g.C.AnyCell.ways.view c.stripe-item.result).down + total (λ v. v.down) (drop (c.loop-stripe.stripe-index + 1) (map g.C.AnyCell.ways.view c.args.stripes.now)) =
    total_drop (λ v. v.down) g.C.AnyCell.ways.view c.args.stripes.now c.loop-stripe.stripe-index c.stripe-item.result c.loop-stripe-test.true c.stripe-item.is in
    let so_far = c.loop-stripe.invariant.down in
    let most = c.requires.few in
    let here = ap (λ (n : Numbers). n.down) c.numbers-numbers.ensures in
    omega (arith, next, so_far, most, here)

pub loop-stripe-preserved : goal.loop-stripe-preserved
loop-stripe-preserved g c =
    let view = g.C.AnyCell.ways.view in
    let i = c.loop-stripe.stripe-index in
    let faults : total (λ v. v.faults) (drop i (map view c.args.stripes.now)) ≡ (view c.stripe-item.result).faults + total (λ v. v.faults) (drop (i + 1) (map view c.args.stripes.now)) = total_drop (λ v. v.faults) view c.args.stripes.now i c.stripe-item.result c.loop-stripe-test.true c.stripe-item.is in
    let down : total (λ v. v.down) (drop i (map view c.args.stripes.now)) ≡ (view c.stripe-item.result).down + total (λ v. v.down) (drop (i + 1) (map view c.args.stripes.now)) = total_drop (λ v. v.down) view c.args.stripes.now i c.stripe-item.result c.loop-stripe-test.true c.stripe-item.is in
    let rest = drop_view view c.args.stripes.now i c.stripe-item.result c.loop-stripe-test.true c.stripe-item.is in
    let sum = c.saturating_add-faults.ensures in
    let was = c.loop-stripe.invariant.faults in
    let low = c.loop-stripe.invariant.down in
    let f = ap (λ (n : Numbers). n.faults) c.numbers-numbers.ensures in
    let d = ap (λ (n : Numbers). n.down) c.numbers-numbers.ensures in
    let s = ap (λ (n : Numbers). n.shut) c.numbers-numbers.ensures in
    record {
      shut = ap (λ (b : Bool). (c.loop-stripe.shut || b) || any_shut (drop (i + 1) (map view c.args.stripes.now))) s
          ∙ (or_assoc c.loop-stripe.shut (view c.stripe-item.result).shut (any_shut (drop (i + 1) (map view c.args.stripes.now)))
          ∙ (sym (ap (λ (vs : List LogletView). c.loop-stripe.shut || any_shut vs) rest) ∙ c.loop-stripe.invariant.shut));
      fits = omega (arith, sum);
      faults = omega (arith, faults, was, sum, f);
      down = omega (arith, down, low, d);
    }
