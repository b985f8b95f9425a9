-- Texts whose first eight bytes spell different numbers are in the order of these.
use Rattle.std.proofs.Common.{◌≡◌, ℕ, zero, suc, ◌+◌, ◌*◌, ◌^◌, ◌<◌, ◌≤◌, List, [], ◌∷◌, length, refl, sym, ap, ◌∙◌, arith, lit<, mul-le-mul_right, pow-suc}
use Rattle.std.proofs.lemmas.Cmp.{by_ranked, ranked}
use Rattle.std.specs.Cmp.{nat_cmp_is}
use Rattle.std.specs.Cmp.Lexicographic.{slice_cmp}
use Rattle.std.specs.Ordering.{nat_cmp, ordering_then, ordering_reverse}
use Rattle.std.specs.declared.cmp.Ordering.{Ordering}
use Rattle.std.specs.declared.cmp.Ordering.TheVariants.{Less, Equal, Greater}
use Rattle.delos_types.specs.Numbers.{IsBytes, u64_of}
use Rattle.local_store.specs.Keys.{KeyView, key_cmp, key_total, HasFront}

-- the first so many bytes as one number, the highest first, with zeros behind a shorter text
abbrev head : ℕ → List ℕ → ℕ
head zero xs = 0
head (suc n) [] = 0
head (suc n) (x ∷ xs) = x * 256 ^ n + head n xs

u64_head : (xs : List ℕ) → u64_of xs ≡ head 8 xs
unfolding u64_of
u64_head [] = refl
u64_head (a ∷ []) = omega arith
u64_head (a ∷ b ∷ []) = omega arith
u64_head (a ∷ b ∷ c ∷ []) = omega arith
u64_head (a ∷ b ∷ c ∷ d ∷ []) = omega arith
u64_head (a ∷ b ∷ c ∷ d ∷ e ∷ []) = omega arith
u64_head (a ∷ b ∷ c ∷ d ∷ e ∷ f ∷ []) = omega arith
u64_head (a ∷ b ∷ c ∷ d ∷ e ∷ f ∷ g ∷ []) = omega arith
u64_head (a ∷ b ∷ c ∷ d ∷ e ∷ f ∷ g ∷ h ∷ xs) = omega arith

power_positive : (n : ℕ) → 0 < 256 ^ n
power_positive zero = lit< tt
power_positive (suc n) = rw (pow-suc 256 n) (omega (arith, power_positive n))

head_small : (n : ℕ) (xs : List ℕ) → IsBytes xs → head n xs < 256 ^ n
head_small zero xs s = lit< tt
head_small (suc n) [] s = power_positive (suc n)
head_small (suc n) (x ∷ xs) s =
    let rest = head_small n xs (λ i. s (suc i)) in
    let byte : x < 256 = s 0 in
    let low : x ≤ 255 = omega (arith, byte) in
    let first : x * 256 ^ n ≤ 255 * 256 ^ n = mul-le-mul_right (256 ^ n) low in
    rw (pow-suc 256 n) (omega (arith, rest, first))

-- the first number decides, or else the rest
above : (x y p h k : ℕ) → y < x → k < p → x * p + h < y * p + k → ⊥
above x y p h k lt small less =
    let next : y + 1 ≤ x = omega (arith, lt) in
    let far : (y + 1) * p ≤ x * p = mul-le-mul_right p next in
    omega (arith, far, small, less)

less_heads : (n : ℕ) (a b : List ℕ) → IsBytes a → IsBytes b → head n a < head n b → slice_cmp nat_cmp a b ≡ Less
less_heads zero a b s t h = absurd (omega (arith, h))
less_heads (suc n) [] [] s t h = absurd (omega (arith, h))
less_heads (suc n) [] (y ∷ b) s t h = refl
less_heads (suc n) (x ∷ a) [] s t h = absurd (omega (arith, h))
less_heads (suc n) (x ∷ a) (y ∷ b) s t h =
    by_ranked (x < y) (x ≡ y) (y < x) (nat_cmp x y) (ranked x y (nat_cmp x y) refl)
    (λ is lt. ap (λ (o : Ordering). ordering_then o (slice_cmp nat_cmp a b)) is)
    (λ is eq.
    let same : x * 256 ^ n ≡ y * 256 ^ n = ap (λ (k : ℕ). k * 256 ^ n) eq in
    let rest : head n a < head n b = omega (arith, h, same) in
    ap (λ (o : Ordering). ordering_then o (slice_cmp nat_cmp a b)) is ∙ less_heads n a b (λ i. s (suc i)) (λ i. t (suc i)) rest)
    (λ is gt. absurd (above x y (256 ^ n) (head n a) (head n b) gt (head_small n b (λ i. t (suc i))) h))

-- ---- texts with the same number

less_or_not : (x y p h k : ℕ) → y < x → k < p → x * p + h ≡ y * p + k → ⊥
less_or_not x y p h k lt small same =
    let next : y + 1 ≤ x = omega (arith, lt) in
    let far : (y + 1) * p ≤ x * p = mul-le-mul_right p next in
    omega (arith, far, small, same)

nat_cmp-suc : (m k : ℕ) → nat_cmp m k ≡ nat_cmp (suc m) (suc k)
nat_cmp-suc m k =
    by_ranked (m < k) (m ≡ k) (k < m) (nat_cmp m k) (ranked m k (nat_cmp m k) refl)
    (λ is lt. is ∙ nat_cmp_is (suc m) (suc k) Less (omega (arith, lt)))
    (λ is eq. is ∙ nat_cmp_is (suc m) (suc k) Equal (ap suc eq))
    (λ is gt. is ∙ nat_cmp_is (suc m) (suc k) Greater (omega (arith, gt)))

-- of at most n bytes: the shorter one is the lesser, since what it lacks are zeros
same_heads : (n : ℕ) (a b : List ℕ) → IsBytes a → IsBytes b → head n a ≡ head n b → length a ≤ n → length b ≤ n → slice_cmp nat_cmp a b ≡ nat_cmp (length a) (length b)
same_heads n [] [] s t h la lb = refl
same_heads n [] (y ∷ b) s t h la lb = nat_cmp_is zero (suc (length b)) Less (omega arith)
same_heads n (x ∷ a) [] s t h la lb = nat_cmp_is (suc (length a)) zero Greater (omega arith)
same_heads zero (x ∷ a) (y ∷ b) s t h la lb = absurd (omega (arith, la))
same_heads (suc n) (x ∷ a) (y ∷ b) s t h la lb =
    by_ranked (x < y) (x ≡ y) (y < x) (nat_cmp x y) (ranked x y (nat_cmp x y) refl)
    (λ is lt. absurd (less_or_not y x (256 ^ n) (head n b) (head n a) lt (head_small n a (λ i. s (suc i))) (sym h)))
    (λ is eq.
    let same : x * 256 ^ n ≡ y * 256 ^ n = ap (λ (k : ℕ). k * 256 ^ n) eq in
    let rest : head n a ≡ head n b = omega (arith, h, same) in
    let short : length a ≤ n = omega (arith, la) in
    let other : length b ≤ n = omega (arith, lb) in
    ap (λ (o : Ordering). ordering_then o (slice_cmp nat_cmp a b)) is ∙ same_heads n a b (λ i. s (suc i)) (λ i. t (suc i)) rest short other ∙ nat_cmp-suc (length a) (length b))
    (λ is gt. absurd (less_or_not x y (256 ^ n) (head n a) (head n b) gt (head_small n b (λ i. t (suc i))) h))

by_length : (a b : List ℕ) → IsBytes a → IsBytes b → u64_of a ≡ u64_of b → length a ≤ 8 → length b ≤ 8 → slice_cmp nat_cmp a b ≡ nat_cmp (length a) (length b)
by_length a b s t same la lb = same_heads 8 a b s t (sym (u64_head a) ∙ same ∙ u64_head b) la lb

-- ---- keys by the numbers in front of them

pub bytes_behind : (kind : ℕ) (key : List ℕ) → kind < 256 → IsBytes key → IsBytes (kind ∷ key)
bytes_behind kind key small bytes zero = small
bytes_behind kind key small bytes (suc i) = bytes i

pub less_by_front : (x y : KeyView) (m k : ℕ) → HasFront m x.kind x.key → HasFront k y.kind y.key → m < k → key_cmp x y ≡ Less
less_by_front x y m k first second lt =
    let one : m ≡ head 8 (x.kind ∷ x.key) = first.value ∙ u64_head (x.kind ∷ x.key) in
    let other : k ≡ head 8 (y.kind ∷ y.key) = second.value ∙ u64_head (y.kind ∷ y.key) in
    less_heads 8 (x.kind ∷ x.key) (y.kind ∷ y.key) first.bytes second.bytes (omega (arith, one, other, lt))

pub greater_by_front : (x y : KeyView) (m k : ℕ) → HasFront m x.kind x.key → HasFront k y.kind y.key → k < m → key_cmp x y ≡ Greater
greater_by_front x y m k first second lt = key_total.antisymm x y ∙ ap ordering_reverse (less_by_front y x k m second first lt)

pub same_front : (x y : KeyView) (m k : ℕ) → HasFront m x.kind x.key → HasFront k y.kind y.key → k ≤ m → m ≤ k → u64_of (x.kind ∷ x.key) ≡ u64_of (y.kind ∷ y.key)
same_front x y m k first second le ge = omega (arith, first.value, second.value, le, ge)

-- two short keys of one front
pub short_by_front : (x y : KeyView) (m k : ℕ) → HasFront m x.kind x.key → HasFront k y.kind y.key → u64_of (x.kind ∷ x.key) ≡ u64_of (y.kind ∷ y.key) → length x.key < 8 → length y.key < 8 → key_cmp x y ≡ nat_cmp (length x.key) (length y.key)
short_by_front x y m k first second same lx ly =
    by_length (x.kind ∷ x.key) (y.kind ∷ y.key) first.bytes second.bytes same (omega (arith, lx)) (omega (arith, ly))
    ∙ sym (nat_cmp-suc (length x.key) (length y.key))
