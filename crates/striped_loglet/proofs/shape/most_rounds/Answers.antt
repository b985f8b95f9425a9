use Rattle.std.proofs.Common.{◌≡◌, ◌+◌, map, drop, max, Some, inl, inr, ap, sym, ◌∙◌, arith}
use Rattle.std.specs.Prelude.{slice_get}
use Rattle.loglet_api.specs.View.{LogletView}
use Rattle.striped_loglet.specs.Shapes.{most_of}
use Rattle.striped_loglet.proofs.Lists.{either, within, total_at}
use Rattle.striped_loglet.proofs.Places.{view_at, length_view, drop_view, end_view}
use Rattle.striped_loglet.proofs.shape.most_rounds.Goals as goal

some_same : (a c : LogletView) → Some a ≡ Some c → a ≡ c
some_same a c h = cc

pub loop-stripe-preserved : goal.loop-stripe-preserved
loop-stripe-preserved g c =
    let k = c.loop-stripe.stripe-index in
    let xs = c.args.stripes.now in
    let view = g.L.Loglet.view in
    let here = view_at view xs k c.stripe-item.result c.loop-stripe-test.true c.stripe-item.is in
    let part = total_at (λ v. v.rounds) (map view xs) k (view c.stripe-item.result) here in
    let is = c.rounds.ensures in
    let max' = c.max-rounds.ensures in
    record {
      most = (let a = c.requires in let b = c.loop-stripe.invariant.most in omega (arith, a, b, part, is, max'));
      all = λ i v l at. elim (either i k) [
        | inl same ↦ (let v' : view c.stripe-item.result ≡ v = some_same (view c.stripe-item.result) v (sym here ∙ ap (λ n. slice_get (map view xs) n) (sym same) ∙ at) in
            let r = ap (λ (z : LogletView). z.rounds) v' in omega (arith, r, is, max'))
        | inr other ↦ (let old = c.loop-stripe.invariant.all i v (omega (arith, l, other)) at in omega (arith, old, max'))
      ];
      so_far = (let next : most_of (λ v. v.rounds) (drop k (map view xs)) ≡ max (view c.stripe-item.result).rounds (most_of (λ v. v.rounds) (drop (k + 1) (map view xs))) =
          ap (λ vs. most_of (λ v. v.rounds) vs) (drop_view view xs k c.stripe-item.result c.loop-stripe-test.true c.stripe-item.is) in
          let old = c.loop-stripe.invariant.so_far in omega (arith, next, old, is, max'));
    }

pub returns-clause-all : goal.returns-clause-all
returns-clause-all g c i v at =
    let l = within (map g.L.Loglet.view c.args.stripes.now) i v at in
    let e = length_view g.L.Loglet.view c.args.stripes.now in
    let end = c.loop-stripe-test.false in
    c.loop-stripe.invariant.all i v (omega (arith, l, e, end)) at

pub returns-clause-value : goal.returns-clause-value
returns-clause-value g c =
    let end : most_of (λ v. v.rounds) (drop c.loop-stripe.stripe-index (map g.L.Loglet.view c.args.stripes.now)) ≡ 0 =
    ap (λ vs. most_of (λ v. v.rounds) vs) (end_view g.L.Loglet.view c.args.stripes.now c.loop-stripe.stripe-index (let e = c.loop-stripe-test.false in omega (arith, e))) in
    let all = c.loop-stripe.invariant.so_far in
    omega (arith, end, all)
