-- How many elements a list has that has all numbers below one.
use Rattle.std.proofs.Common.{◌≡◌, refl, ap, ◌∙◌, ℕ, zero, suc, ◌+◌, ◌<◌, ◌≤◌, Bool, true, false, cond, List, [], ◌∷◌, length, arith}
use Rattle.std.specs.Prelude.{count_by, Contains, slice_index_or, ◌==◌}
use Rattle.std.proofs.lemmas.Bool.Decides.{nat_tests}
use Rattle.std.proofs.lemmas.List.Sums.{sum_by-cons}

-- how an element counts
abbrev one_if : Bool → ℕ
one_if b = cond b 1 0

-- the sum of f over the numbers below n
abbrev below : ℕ → (ℕ → ℕ) → ℕ
below zero f = 0
below (suc n) f = below n f + f n

below-same : (n : ℕ) (f g : ℕ → ℕ) → ((i : ℕ) → f i ≡ g i) → below n f ≡ below n g
below-same zero f g h = refl
below-same (suc n) f g h = omega (arith, below-same n f g h, h n)

below-add : (n : ℕ) (f g : ℕ → ℕ) → below n (λ i. f i + g i) ≡ below n f + below n g
below-add zero f g = omega arith
below-add (suc n) f g = omega (arith, below-add n f g)

below-none : (n : ℕ) → below n (λ i. 0) ≡ 0
below-none zero = refl
below-none (suc n) = omega (arith, below-none n)

-- an element is one number at most
at_most_one : (n x : ℕ) → (below n (λ i. one_if (x == i)) ≤ 1) × (n ≤ x → below n (λ i. one_if (x == i)) ≡ 0)
at_most_one zero x = (omega arith, λ l. refl)
at_most_one (suc n) x = by (x == n) refl (at_most_one n x)
  where
    by : (b : Bool) → (x == n) ≡ b → (below n (λ i. one_if (x == i)) ≤ 1) × (n ≤ x → below n (λ i. one_if (x == i)) ≡ 0) → (below n (λ i. one_if (x == i)) + one_if (x == n) ≤ 1) × (suc n ≤ x → below n (λ i. one_if (x == i)) + one_if (x == n) ≡ 0)
    by true is rest =
        let same : x ≡ n = grind (arith, nat_tests) in
        let one : one_if (x == n) ≡ 1 = ap one_if is in
        let none = rest.1 (omega (arith, same)) in
        (omega (arith, one, none), λ l. absurd (omega (arith, l, same)))
    by false is rest =
        let none : one_if (x == n) ≡ 0 = ap one_if is in
        let few = rest.0 in
        (omega (arith, none, few), λ l. let low = rest.1 (omega (arith, l)) in omega (arith, none, low))

-- how often i is in the list
abbrev hits : List ℕ → ℕ → ℕ
hits xs i = count_by (λ x. x == i) xs

few : (n : ℕ) (xs : List ℕ) → below n (hits xs) ≤ length xs
few n [] = omega (arith, below-none n)
few n (x ∷ xs) = omega (
  arith,
  below-same n (hits (x ∷ xs)) (λ i. one_if (x == i) + hits xs i) (λ i. sum_by-cons (λ y. one_if (y == i)) x xs),
  below-add n (λ i. one_if (x == i)) (hits xs),
  (at_most_one n x).0,
  few n xs,
)

itself : (i : ℕ) → (i == i) ≡ true
itself i = grind (arith, nat_tests)

-- what is in the list is there once at least
found : (xs : List ℕ) (i : ℕ) → Contains xs i → 1 ≤ hits xs i
found [] i h = absurd (omega (arith, h.1))
found (x ∷ xs) i h = at h.0 h.1 h.2 (λ k. found xs i k)
  where
    counted : hits (x ∷ xs) i ≡ one_if (x == i) + hits xs i
    counted = sum_by-cons (λ y. one_if (y == i)) x xs

    at : (k : ℕ) → k < length (x ∷ xs) → slice_index_or (x ∷ xs) k i ≡ i → (Contains xs i → 1 ≤ hits xs i) → 1 ≤ hits (x ∷ xs) i
    at zero l is later = let one : one_if (x == i) ≡ 1 = ap (λ (j : ℕ). one_if (j == i)) is ∙ ap one_if (itself i) in omega (arith, counted, one)
    at (suc k) l is later = omega (arith, counted, later (k, omega (arith, l), is))

many : (n : ℕ) (f : ℕ → ℕ) → ((i : ℕ) → i < n → 1 ≤ f i) → n ≤ below n f
many zero f h = omega arith
many (suc n) f h = omega (arith, many n f (λ i l. h i (omega (arith, l))), h n (omega arith))

pub as_long : (n : ℕ) (xs : List ℕ) → ((i : ℕ) → i < n → Contains xs i) → n ≤ length xs
as_long n xs h = omega (arith, many n (hits xs) (λ i l. found xs i (h i l)), few n xs)
