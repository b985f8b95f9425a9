-- The tail of stripes is the greatest length that they cover.
use Rattle.std.proofs.Common.{◌≡◌, ℕ, zero, suc, ◌+◌, ◌*◌, ◌/◌, ◌%◌, ◌<◌, ◌≤◌, List, [], ◌∷◌, length, get_or, ap, arith, inl, inr}
use Rattle.std.specs.Prelude.{◌⊎◌}
use Rattle.std.proofs.lemmas.Bool.{cases_lt}
use Rattle.std.proofs.Math.Nat.{mul-le-mul_left, div-add-mod}
use Rattle.std.proofs.lemmas.Nat.{div-mul-add}
use Rattle.stripe_rule.specs.Stripes.{covered, covered_from, striped, Covers, AllAtMost}

-- a length below the covered one of all stripes is below each
covered_each : (m j : ℕ) (ns : List ℕ) (t i : ℕ) → t ≤ covered_from m j ns → i < length ns → t ≤ covered m (j + i) (get_or ns i 0)
covered_each m j [] t i h l = absurd (omega arith)
covered_each m j (n ∷ []) t zero h l = omega arith
covered_each m j (n ∷ []) t (suc i) h l = absurd (omega arith)
covered_each m j (n ∷ k ∷ ns) t zero h l = omega arith
covered_each m j (n ∷ k ∷ ns) t (suc i) h l = let more : t ≤ covered m (suc j + i) (get_or (k ∷ ns) i 0) = covered_each m (suc j) (k ∷ ns) t i (omega arith) (omega arith) in omega (arith, more)

covered_all : (m j : ℕ) (ns : List ℕ) (t : ℕ) → 0 < length ns → ((i : ℕ) → i < length ns → t ≤ covered m (j + i) (get_or ns i 0)) → t ≤ covered_from m j ns
covered_all m j [] t some h = absurd (omega arith)
covered_all m j (n ∷ []) t some h = omega (arith, h 0 (omega arith))
covered_all m j (n ∷ k ∷ ns) t some h =
    let more : t ≤ covered_from m (suc j) (k ∷ ns) = covered_all m (suc j) (k ∷ ns) t (omega arith) (λ i l. omega (arith, h (suc i) (omega arith))) in
    omega (arith, more, h 0 (omega arith))

-- the stripes' tails cover what is below their tail, and nothing more
pub striped_covers : (tails : List ℕ) → 0 < length tails → Covers tails (striped tails)
striped_covers tails some p below =
    let m : ℕ = length tails in
    let j : ℕ = p % m in
    let each : p + 1 ≤ covered m (0 + j) (get_or tails j 0) = covered_each m 0 tails (p + 1) j (omega arith) (omega arith) in
    below_by m (p / m) (get_or tails j 0) (omega (arith, each))
  where
    below_by : (m q n : ℕ) → m * q < m * n → q < n
    below_by m q n h = by (cases_lt q n)
      where
        by : ((q < n) ⊎ (n ≤ q)) → q < n
        by (inl l) = l
        by (inr l) = absurd (omega (arith, mul-le-mul_left m l))

-- the first position of stripe j that its n entries do not cover
quotient_at : (m n j : ℕ) → j < m → (m * n + j) / m ≡ n
quotient_at m n j l = let e : m * n + j ≡ n * m + j = omega arith in rw e (div-mul-add n m j l)

rest_at : (m n j : ℕ) → j < m → (m * n + j) % m ≡ j
rest_at m n j l =
    let parts : m * ((m * n + j) / m) + (m * n + j) % m ≡ m * n + j = div-add-mod (m * n + j) m in
    let same : m * ((m * n + j) / m) ≡ m * n = ap (λ q. m * q) (quotient_at m n j l) in
    omega (arith, parts, same)

pub striped_greatest : (tails : List ℕ) (t : ℕ) → 0 < length tails → Covers tails t → t ≤ striped tails
striped_greatest tails t some h = covered_all (length tails) 0 tails t some each
  where
    each : (i : ℕ) → i < length tails → t ≤ covered (length tails) (0 + i) (get_or tails i 0)
    each i l = by (cases_lt (covered (length tails) i (get_or tails i 0)) t)
      where
        n : ℕ
        n = get_or tails i 0

        by : ((covered (length tails) i (get_or tails i 0) < t) ⊎ (t ≤ covered (length tails) i (get_or tails i 0))) → t ≤ covered (length tails) (0 + i) (get_or tails i 0)
        by (inr k) = omega (arith, k)
        by (inl k) =
            let m : ℕ = length tails in
            let p : ℕ = m * get_or tails i 0 + i in
            let low : p / m < get_or tails (p % m) 0 = h p k in
            let q : p / m ≡ get_or tails i 0 = quotient_at m (get_or tails i 0) i l in
            let r : get_or tails (p % m) 0 ≡ get_or tails i 0 = ap (λ x. get_or tails x 0) (rest_at m (get_or tails i 0) i l) in
            absurd (omega (arith, low, q, r))

-- longer stripes have a longer tail
pub striped_rises : (ns ks : List ℕ) → 0 < length ns → AllAtMost ns ks → striped ns ≤ striped ks
striped_rises ns ks some h = rw h.0 (covered_all (length ks) 0 ks (covered_from (length ks) 0 ns) (omega (arith, some, h.0)) each)
  where
    each : (i : ℕ) → i < length ks → covered_from (length ks) 0 ns ≤ covered (length ks) (0 + i) (get_or ks i 0)
    each i l = omega (arith, covered_each (length ks) 0 ns (covered_from (length ks) 0 ns) i (omega arith) (omega (arith, l, h.0)), mul-le-mul_left (length ks) (h.1 i))
