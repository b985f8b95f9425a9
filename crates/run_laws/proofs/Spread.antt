-- Counts that are spread over a list, each place of it counting its own: what is counted in all is at most the list's sum.
use Rattle.std.proofs.Common.{◌≡◌, refl, ap, subst, ℕ, zero, suc, ◌+◌, ◌≤◌, min, Bool, true, false, not, ◌&&◌, cond, List, [], ◌∷◌, count_by, sum_by, slice_get, Some, IsSome, arith}
use Rattle.std.specs.List.{AllByRecursion}
use Rattle.std.proofs.lemmas.Bool.{and_parts, both_ways, not-true, false_from_ne_true}
use Rattle.std.proofs.lemmas.List.Sums.{sum_by-cons}
use Rattle.log_laws.proofs.Pairs.{all-imply}

abbrev pub one_if : Bool → ℕ
one_if b = cond b 1 0

pub count-none : {A : Type 0} (p : A → Bool) (xs : List A) → AllByRecursion (λ x. p x ≡ true → ⊥) xs → count_by p xs ≡ 0
count-none p [] h = refl
count-none p (x ∷ xs) h =
    let here : one_if (p x) ≡ 0 = ap one_if (false_from_ne_true (p x) h.0) in
    omega (arith, sum_by-cons (λ y. one_if (p y)) x xs, count-none p xs h.1, here)

-- where each that passes one test passes one of two others
pub count-split : {A : Type 0} (p q r : A → Bool) (xs : List A) → AllByRecursion (λ x. one_if (p x) ≤ one_if (q x) + one_if (r x)) xs → count_by p xs ≤ count_by q xs + count_by r xs
count-split p q r [] h = omega arith
count-split p q r (x ∷ xs) h =
    let here = h.0 in
    omega (arith, sum_by-cons (λ y. one_if (p y)) x xs, sum_by-cons (λ y. one_if (q y)) x xs, sum_by-cons (λ y. one_if (r y)) x xs, count-split p q r xs h.1, here)

-- what passes p passes the test of a place of the list
pub record IsPlacedIn {A V : Type 0} (vs : List V) (k : ℕ) (p : ℕ → A → Bool) (x : A) : Type 0 where
  pub at : ℕ
  pub within : IsSome (slice_get vs at)
  pub passes : p (k + at) x ≡ true

none-placed : {A V : Type 0} (k : ℕ) (p : ℕ → A → Bool) (x : A) → IsPlacedIn {V = V} [] k p x → ⊥
none-placed k p x h = no h.within
  where
    no : false ≡ true → ⊥
    no e = cc

-- what doesn't pass the first place's test passes that of a later one
placed-later : {A V : Type 0} (v : V) (vs : List V) (k : ℕ) (p : ℕ → A → Bool) (x : A) → p k x ≡ false → IsPlacedIn (v ∷ vs) k p x → IsPlacedIn vs (k + 1) p x
placed-later v vs k p x fails h = from h.at h.within h.passes
  where
    from : (i : ℕ) → IsSome (slice_get (v ∷ vs) i) → p (k + i) x ≡ true → IsPlacedIn vs (k + 1) p x
    from zero here e = absurd (both_ways (p k x) fails (subst (λ n. p n x ≡ true) (let z : k + 0 ≡ k = omega arith in z) e))
    from (suc i) here e = record { at = i; within = here; passes = subst (λ n. p n x ≡ true) (let z : k + suc i ≡ (k + 1) + i = omega arith in z) e }

module _ {A V : Type 0} (w : V → ℕ) (p : ℕ → A → Bool) (most : ℕ) (xs : List A) where
  pub spread : (vs : List V) (k : ℕ) (q : A → Bool) → ((i : ℕ) (v : V) → slice_get vs i ≡ Some v → min (count_by (p (k + i)) xs) most ≤ w v)
      → AllByRecursion (λ x. q x ≡ true → IsPlacedIn vs k p x) xs → min (count_by q xs) most ≤ sum_by w vs
  spread [] k q low h =
      let none = count-none q xs (all-imply (λ (x : A). q x ≡ true → IsPlacedIn {V = V} [] k p x) (λ (x : A). q x ≡ true → ⊥) xs (λ x f e. none-placed k p x (f e)) h) in
      omega (arith, none)
  spread (v ∷ vs) k q low h =
      let later : A → Bool = λ x. q x && not (p k x) in
      let rest = spread vs (k + 1) later
      (λ i u e. subst (λ n. min (count_by (p n) xs) most ≤ w u) (let z : k + suc i ≡ (k + 1) + i = omega arith in z) (low (suc i) u e))
      (all-imply (λ (x : A). q x ≡ true → IsPlacedIn (v ∷ vs) k p x) (λ (x : A). later x ≡ true → IsPlacedIn vs (k + 1) p x) xs
      (λ x f e. let both = and_parts (q x) (not (p k x)) e in placed-later v vs k p x (not-true (p k x) both.1) (f both.0)) h) in
      let here : min (count_by (p k) xs) most ≤ w v = subst (λ n. min (count_by (p n) xs) most ≤ w v) (let z : k + 0 ≡ k = omega arith in z) (low 0 v refl) in
      let split = count-split q (p k) later xs (one_or_later q (p k) xs) in
      omega (arith, sum_by-cons w v vs)
    where
      one_or_later : (q r : A → Bool) (ys : List A) → AllByRecursion (λ x. one_if (q x) ≤ one_if (r x) + one_if (q x && not (r x))) ys
      one_or_later q r [] = tt
      one_or_later q r (y ∷ ys) = (step (q y) (r y), one_or_later q r ys)
        where
          step : (t u : Bool) → one_if t ≤ one_if u + one_if (t && not u)
          step true true = omega arith
          step true false = omega arith
          step false u = omega arith
