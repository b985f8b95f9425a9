-- A stripe's share of a length is the least number of its entries that covers the length.
use Rattle.std.proofs.Common.{◌≡◌, ℕ, zero, suc, ◌+◌, ◌-◌, ◌*◌, ◌/◌, ◌%◌, ◌<◌, ◌≤◌, ap, sym, subst, nat_eq, arith, inl, inr}
use Rattle.std.specs.Prelude.{◌⊎◌}
use Rattle.std.proofs.lemmas.Bool.{cases_lt, cases_Bool}
use Rattle.std.proofs.lemmas.Bool.Decides.{nat_tests}
use Rattle.std.proofs.Math.Nat.{mul-le-mul_left, div-add-mod, mod-lt}
use Rattle.stripe_rule.specs.Stripes.{covered, share, standing}

-- a product that is below the next one has a factor that is no greater
pub below_next : (m q n r : ℕ) → r < m → m * q ≤ m * n + r → q ≤ n
below_next m q n r small h = by (cases_lt n q)
  where
    by : ((n < q) ⊎ (q ≤ n)) → q ≤ n
    by (inr l) = l
    by (inl l) = let more : m * suc n ≤ m * q = mul-le-mul_left m l in let next : m * suc n ≡ m * n + m = omega arith in absurd (omega (arith, more, next, h, small))

pub share_covers : (m j length : ℕ) → j < m → length ≤ covered m j (share m j length)
unfolding share
share_covers m j length l =
    let x : ℕ = length + (m - suc j) in
    let parts : m * (x / m) + x % m ≡ x = div-add-mod x m in
    let some : 0 < m = omega arith in
    let small : x % m < m = mod-lt x some in
    let e : length + m ≡ x + suc j = omega arith in
    omega (arith, parts, small, e)

pub share_least : (m j length n : ℕ) → j < m → length ≤ covered m j n → share m j length ≤ n
unfolding share
share_least m j length n l h =
    let x : ℕ = length + (m - suc j) in
    let parts : m * (x / m) + x % m ≡ x = div-add-mod x m in
    let r : ℕ = m - 1 in
    let e : length + m ≡ x + suc j = omega arith in
    let small : r < m = omega arith in
    let within : m * (x / m) ≤ m * n + r = omega (arith, parts, e, h, l) in
    below_next m (x / m) n r small within

antisym : (a b : ℕ) → a ≤ b → b ≤ a → a ≡ b
antisym a b h k = omega arith

pub share_own : (m length : ℕ) → 0 < m → share m (length % m) length ≡ length / m
share_own m length some =
    let parts : m * (length / m) + length % m ≡ length = div-add-mod length m in
    let small : length % m < m = mod-lt length some in
    let cover : length ≤ covered m (length % m) (share m (length % m) length) = share_covers m (length % m) length small in
    antisym (share m (length % m) length) (length / m) (share_least m (length % m) length (length / m) small (omega (arith, parts)))
    (below_next m (length / m) (share m (length % m) length) 0 some (omega (arith, parts, cover)))

pub share_own_next : (m length : ℕ) → 0 < m → share m (length % m) (suc length) ≡ suc (length / m)
share_own_next m length some =
    let j : ℕ = length % m in
    let q : ℕ = length / m in
    let parts : m * q + j ≡ length = div-add-mod length m in
    let small : j < m = mod-lt length some in
    let next : m * suc q ≡ m * q + m = omega arith in
    let cover : suc length ≤ covered m j (share m j (suc length)) = share_covers m j (suc length) small in
    let less : m * q < m * share m j (suc length) = omega (arith, parts, cover) in
    antisym (share m j (suc length)) (suc q) (share_least m j (suc length) (suc q) small (omega (arith, parts, next, small))) (above m q (share m j (suc length)) less)
  where
    above : (m q n : ℕ) → m * q < m * n → q < n
    above m q n h = by (cases_lt q n)
      where
        by : ((q < n) ⊎ (n ≤ q)) → q < n
        by (inl l) = l
        by (inr l) = absurd (omega (arith, mul-le-mul_left m l))

-- what covers the length of another stripe's position covers that position too
pub covers_other : (m j n length : ℕ) → j < m → (j ≡ length % m → ⊥) → length ≤ covered m j n → suc length ≤ covered m j n
covers_other m j n length l other h = by (cases_lt length (covered m j n))
  where
    by : ((length < covered m j n) ⊎ (covered m j n ≤ length)) → suc length ≤ covered m j n
    by (inl lt) = lt
    by (inr le) =
        let same : length ≡ n * m + j = omega (arith, h, le) in
        absurd (other (sym_mod m j n length l same))
      where
        sym_mod : (m j n length : ℕ) → j < m → length ≡ n * m + j → j ≡ length % m
        sym_mod m j n length l e =
            let parts : m * (length / m) + length % m ≡ length = div-add-mod length m in
            let some : 0 < m = omega arith in
            let small : length % m < m = mod-lt length some in
            let a : length / m ≤ n = below_next m (length / m) n j l (omega (arith, parts, e)) in
            let b : n ≤ length / m = below_next m n (length / m) (length % m) small (omega (arith, parts, e)) in
            let q : length / m ≡ n = antisym (length / m) n a b in
            let p : m * (length / m) ≡ m * n = ap (λ x. m * x) q in
            omega (arith, parts, e, p)

pub share_other : (m j length : ℕ) → j < m → (j ≡ length % m → ⊥) → share m j (suc length) ≡ share m j length
share_other m j length l other =
    antisym (share m j (suc length)) (share m j length)
    (share_least m j (suc length) (share m j length) l (covers_other m j (share m j length) length l other (share_covers m j length l)))
    (share_least m j length (share m j (suc length)) l (let c : suc length ≤ covered m j (share m j (suc length)) = share_covers m j (suc length) l in omega (arith, c)))

share_none : (m j : ℕ) → j < m → share m j 0 ≡ 0
share_none m j l = let a : share m j 0 ≤ 0 = share_least m j 0 0 l (omega arith) in omega (arith, a)

-- a share counts the positions that stand in the stripe
pub share_standing : (m j length : ℕ) → j < m → share m j length ≡ standing m j length
share_standing m j zero l = share_none m j l
share_standing m j (suc n) l =
    let before : share m j n ≡ standing m j n = share_standing m j n l in
    elim (cases_Bool (nat_eq (n % m) j)) [
      | inl same ↦ (let e : n % m ≡ j = grind (arith, nat_tests) in
          let some : 0 < m = omega arith in
          let own : share m j n ≡ n / m = subst (λ (i : ℕ). share m i n ≡ n / m) e (share_own m n some) in
          let next : share m j (suc n) ≡ suc (n / m) = subst (λ (i : ℕ). share m i (suc n) ≡ suc (n / m)) e (share_own_next m n some) in
          rw same (omega (arith, before, own, next)))
      | inr other ↦ (let apart : j ≡ n % m → ⊥ = (λ e. let back : n % m ≡ j = sym e in absurd (grind (arith, nat_tests))) in
          let stays : share m j (suc n) ≡ share m j n = share_other m j n l apart in
          rw other (omega (arith, before, stays)))
    ]
