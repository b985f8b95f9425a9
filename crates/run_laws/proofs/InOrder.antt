-- What acts stands in the order of places and ranks, so placed rows that tell it, put in order, are it.
use Rattle.std.proofs.Common.{◌≡◌, refl, ap, ◌∙◌, inl, inr, ℕ, ◌<◌, List, [], ◌∷◌, map, Less, Equal, nat_cmp, arith}
use Rattle.std.specs.Cmp.{IsTotalOrder}
use Rattle.std.specs.Ordering.{ordering_then}
use Rattle.std.proofs.lemmas.Cmp.{then_total, on_total, nat_cmp_total}
use Rattle.std.proofs.lemmas.Bool.Decides.{nat_tests}
use Rattle.engine_api.specs.declared.act.Act.{Act}
use Rattle.fitting_run.specs.Acts.{act_order, in_order}
use Rattle.log_laws.specs.Order.{EachPair, ActsBefore}
use Rattle.run_laws.proofs.Members.{AllAmong}
use Rattle.run_laws.proofs.Pairs.{pairs-imply}
use Rattle.run_laws.proofs.Sorting.{twin, put-sorted}

act_order_total : IsTotalOrder act_order
act_order_total =
    then_total (on_total (λ (a : Act). a.place.pos) nat_cmp_total)
    (then_total (on_total (λ (a : Act). a.place.sub) nat_cmp_total)
    (then_total (on_total (λ (a : Act). a.rank) nat_cmp_total) (on_total (λ (a : Act). a.session) nat_cmp_total)))

less : (n m : ℕ) → n < m → nat_cmp n m ≡ Less
less n m h = grind (arith, nat_tests)

equal : (n m : ℕ) → n ≡ m → nat_cmp n m ≡ Equal
equal n m e = grind (arith, nat_tests)

-- an act that comes before another is the lower one
acts_rise : (a b : Act) → ActsBefore a b → act_order a b ≡ Less
acts_rise a b h =
    let behind = ordering_then (nat_cmp a.rank b.rank) (nat_cmp a.session b.session) in
    let at_sub = ordering_then (nat_cmp a.place.sub b.place.sub) behind in
    elim h [
      | inl earlier ↦ elim earlier [
        | inl low ↦ ap (λ o. ordering_then o at_sub) (less a.place.pos b.place.pos low)
        | inr here ↦
            ap (λ o. ordering_then o at_sub) (equal a.place.pos b.place.pos here.0)
            ∙ ap (λ o. ordering_then o behind) (less a.place.sub b.place.sub here.1)
      ]
      | inr same ↦
          ap (λ o. ordering_then o at_sub) (equal a.place.pos b.place.pos (ap (λ p. p.pos) same.0))
          ∙ ap (λ o. ordering_then o behind) (equal a.place.sub b.place.sub (ap (λ p. p.sub) same.0))
          ∙ ap (λ o. ordering_then o (nat_cmp a.session b.session)) (less a.rank b.rank same.2)
    ]

values : (acts : List Act) → map (λ e. e.1) (map twin acts) ≡ acts
values [] = refl
values (a ∷ acts) = ap (λ l. a ∷ l) (values acts)

-- these acts, in whichever order and how often each, are those in order
pub in_order-is : (acts xs : List Act) → EachPair ActsBefore acts → AllAmong acts xs → AllAmong xs acts → in_order xs ≡ acts
in_order-is acts xs h m n =
    ap (λ es. map (λ (e : Act × Act). e.1) es)
    (put-sorted act_order act_order_total acts xs (pairs-imply ActsBefore (λ a b. act_order a b ≡ Less) acts acts_rise h) m n)
    ∙ values acts
