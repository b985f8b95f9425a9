-- Sums over the nodes of a run, which are numbered from 1.
use Rattle.std.proofs.Common.{◌≡◌, ◌≢◌, refl, ap, ⊎_elim, ℕ, zero, suc, ◌+◌, ◌<◌, ◌≤◌, ◌==◌, ◌&&◌, Bool, true, false, cond, List, [], ◌∷◌, arith, eq-eqb}
use Rattle.std.specs.Prelude.{AllPairs, sum_by, get_or, length}
use Rattle.std.proofs.lemmas.Bool.{cases_lt}
use Rattle.std.proofs.lemmas.Bool.Decides.{nat_tests}
use Rattle.std.proofs.lemmas.List.Sums.{sum_by-cons}

abbrev pub total : (ℕ → ℕ) → ℕ → ℕ
total f zero = 0
total f (suc n) = total f n + f (suc n)

pub total_add : (f g h : ℕ → ℕ) (nodes : ℕ) → ((n : ℕ) → h n ≡ f n + g n) → total h nodes ≡ total f nodes + total g nodes
total_add f g h zero is = refl
total_add f g h (suc n) is = omega (arith, total_add f g h n is, is (suc n))

pub total_less : (f g : ℕ → ℕ) (nodes : ℕ) → ((n : ℕ) → 1 ≤ n → n ≤ nodes → f n ≤ g n) → total f nodes ≤ total g nodes
total_less f g zero each = omega arith
total_less f g (suc n) each =
    let rest = total_less f g n (λ k least most. each k least (omega (arith, most))) in
    let here = each (suc n) (omega arith) (omega arith) in
    omega (arith, rest, here)

pub total_has : (f : ℕ → ℕ) (nodes k : ℕ) → 1 ≤ k → k ≤ nodes → f k ≤ total f nodes
total_has f zero k least most = absurd (omega (arith, least, most))
total_has f (suc n) k least most = ⊎_elim
    (λ (low : k < suc n). let rest = total_has f n k least (omega (arith, low)) in omega (arith, rest))
    (λ (high : suc n ≤ k). let same : k ≡ suc n = omega (arith, high, most) in let e = ap f same in omega (arith, e))
    (cases_lt k (suc n))

pub total_none : (f : ℕ → ℕ) (nodes : ℕ) → ((n : ℕ) → 1 ≤ n → n ≤ nodes → f n ≡ 0) → total f nodes ≡ 0
total_none f zero each = refl
total_none f (suc n) each =
    let rest = total_none f n (λ k least most. each k least (omega (arith, most))) in
    let here = each (suc n) (omega arith) (omega arith) in
    omega (arith, rest, here)

-- of one node alone
pub total_only : (f : ℕ → ℕ) (nodes k : ℕ) → 1 ≤ k → k ≤ nodes → ((n : ℕ) → 1 ≤ n → n ≤ nodes → (k == n) ≡ false → f n ≡ 0) → total f nodes ≡ f k
total_only f zero k least most others = absurd (omega (arith, least, most))
total_only f (suc n) k least most others = by (k == suc n) refl (λ low. total_only f n k least low (λ m from upto apart. others m from (omega (arith, upto)) apart))
  where
    by : (b : Bool) → (k == suc n) ≡ b → (k ≤ n → total f n ≡ f k) → total f n + f (suc n) ≡ f k
    by true is rest =
        let same : k ≡ suc n = grind (arith, nat_tests, is) in
        let none = total_none f n (λ m low high. others m low (omega (arith, high)) (grind (arith, nat_tests, same, low, high))) in
        let e = ap f same in
        omega (arith, none, e)
    by false is rest =
        let apart : k ≢ suc n = grind (arith, nat_tests, is) in
        let before = rest (omega (arith, apart, most)) in
        let here = others (suc n) (omega arith) (omega arith) is in
        omega (arith, before, here)

-- one node at most is this one
pub total_one : (w nodes : ℕ) (b : Bool) → total (λ n. cond ((w == n) && b) 1 0) nodes ≤ cond b 1 0
total_one w nodes b = ⊎_elim
    (λ (none : w < 1). let z = total_none (λ n. cond ((w == n) && b) 1 0) nodes (λ n least most. other n (grind (arith, nat_tests, none, least))) in omega (arith, z))
    (λ (some : 1 ≤ w). ⊎_elim
    (λ (high : nodes < w). let z = total_none (λ n. cond ((w == n) && b) 1 0) nodes (λ n least most. other n (grind (arith, nat_tests, high, most))) in omega (arith, z))
    (λ (low : w ≤ nodes).
    let one = total_only (λ n. cond ((w == n) && b) 1 0) nodes w some low (λ n from upto apart. other n apart) in
    let here : cond ((w == w) && b) 1 0 ≡ cond b 1 0 = ap {B = ℕ} (λ t. cond (t && b) 1 0) (eq-eqb w w refl) in
    omega (arith, one, here))
    (cases_lt nodes w))
    (cases_lt w 1)
  where
    other : (n : ℕ) → (w == n) ≡ false → ◌≡◌ {A = ℕ} (cond ((w == n) && b) 1 0) 0
    other n apart = ap {B = ℕ} (λ t. cond (t && b) 1 0) apart

-- The nodes as a list

abbrev pub numbered_to : ℕ → List ℕ
numbered_to zero = []
numbered_to (suc n) = suc n ∷ numbered_to n

pub total_listed : (f : ℕ → ℕ) (nodes : ℕ) → sum_by f (numbered_to nodes) ≡ total f nodes
total_listed f zero = refl
total_listed f (suc n) = let a = sum_by-cons f (suc n) (numbered_to n) in let rest = total_listed f n in omega (arith, a, rest)

number_at : (nodes i d : ℕ) → i < length (numbered_to nodes) → get_or (numbered_to nodes) i d + i ≡ nodes
number_at zero i d low = absurd (omega (arith, low))
number_at (suc n) zero d low = omega arith
number_at (suc n) (suc i) d low = let rest = number_at n i d (omega (arith, low)) in omega (arith, rest)

pub numbers_apart : (nodes : ℕ) → AllPairs (λ a b. a ≢ b) (numbered_to nodes)
numbers_apart nodes = λ i j d low within same.
    let a = number_at nodes i d (omega (arith, low, within)) in
    let b = number_at nodes j d within in
    absurd (omega (arith, a, b, low, same))
