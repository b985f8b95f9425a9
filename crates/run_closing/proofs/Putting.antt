-- Elements that are taken out of a list, and put back.
use Rattle.std.proofs.Common.{◌≡◌, ◌≢◌, refl, sym, ap, ◌∙◌, subst, ◌⊎◌, inl, inr, ℕ, zero, suc, ◌+◌, ◌<◌, ◌≤◌, List, [], ◌∷◌, Some, length, arith}
use Rattle.std.specs.Prelude.{slice_get, slice_set, slice_index_or, remove, insert}
use Rattle.std.proofs.lemmas.Bool.{cases_lt}
use Rattle.std.proofs.lemmas.Option.{slice_get_read}
use Rattle.node_crew.proofs.Crews.{put_back}

pub some_at : {A : Type 0} (xs : List A) (i : ℕ) → i < length xs → (x : A) × (slice_get xs i ≡ Some x)
some_at [] i low = absurd (omega arith)
some_at (x ∷ xs) zero low = (x, refl)
some_at (x ∷ xs) (suc i) low = some_at xs i (omega arith)

pub same_some : {A : Type 0} (x y : A) → Some x ≡ Some y → x ≡ y
same_some x y e = cc

removed : {A : Type 0} (xs : List A) (b : ℕ) → b < length xs → length (remove xs b) + 1 ≡ length xs
removed [] b there = absurd (omega arith)
removed (x ∷ xs) zero there = omega arith
removed (x ∷ xs) (suc b) there = let rest = removed xs b (omega arith) in omega (arith, rest)

-- where index k is once the element at b was taken out
abbrev pub Beside : ℕ → ℕ → ℕ → Type 0
Beside b k i = (k < b → i ≡ k) × (b < k → i + 1 ≡ k)

down : (b k i : ℕ) → Beside (suc b) (suc k) (suc i) → Beside b k i
down b k i h = (λ low. let e = h.0 (omega (arith, low)) in omega (arith, e), λ high. let e = h.1 (omega (arith, high)) in omega (arith, e))

not_zero : (b k : ℕ) → b ≢ k → Beside (suc b) (suc k) zero → ⊥
not_zero b k other h = by (cases_lt k b) (cases_lt b k)
  where
    by : (k < b) ⊎ (b ≤ k) → (b < k) ⊎ (k ≤ b) → ⊥
    by (inl low) q = absurd (let e = h.0 (omega (arith, low)) in omega (arith, e))
    by (inr high) (inl above) = absurd (let e = h.1 (omega (arith, above)) in omega (arith, e, above))
    by (inr high) (inr low) = other (omega (arith, high, low))

-- it is within the rest
pub within_beside : {A : Type 0} (xs mid : List A) (b k i : ℕ) → mid ≡ remove xs b → b ≢ k → b < length xs → k < length xs → Beside b k i → i < length mid
within_beside xs mid b k i is other there inside h = subst (λ l. i < length l) (sym is) (by (cases_lt k b) (cases_lt b k))
  where
    by : (k < b) ⊎ (b ≤ k) → (b < k) ⊎ (k ≤ b) → i < length (remove xs b)
    by (inl low) q = let one = removed xs b there in let e = h.0 low in omega (arith, e, low, there, one)
    by (inr high) (inl above) = let one = removed xs b there in let e = h.1 above in omega (arith, e, inside, one)
    by (inr high) (inr low) = absurd (other (omega (arith, high, low)))

at_beside : {A : Type 0} (xs : List A) (b k i : ℕ) → b ≢ k → b < length xs → Beside b k i → slice_get (remove xs b) i ≡ slice_get xs k
at_beside [] b k i other there h = absurd (omega arith)
at_beside (x ∷ xs) zero zero i other there h = absurd (other refl)
at_beside (x ∷ xs) zero (suc k) i other there h = ap (slice_get xs) (let e = h.1 (omega arith) in let is : i ≡ k = omega (arith, e) in is)
at_beside (x ∷ xs) (suc b) zero i other there h = ap (slice_get (x ∷ remove xs b)) (h.0 (omega arith))
at_beside (x ∷ xs) (suc b) (suc k) zero other there h = absurd (not_zero b k (λ e. other (ap suc e)) h)
at_beside (x ∷ xs) (suc b) (suc k) (suc i) other there h = at_beside xs b k i (λ e. other (ap suc e)) (omega arith) (down b k i h)

-- what is taken out there
pub other_at : {A : Type 0} (xs mid : List A) (b k i : ℕ) (x : A) → mid ≡ remove xs b → b ≢ k → b < length xs → k < length xs → Beside b k i → x ≡ slice_index_or mid i x → slice_get xs k ≡ Some x
other_at xs mid b k i x is other there inside h value =
    sym (at_beside xs b k i other there h) ∙ ap (λ l. slice_get l i) (sym is) ∙ slice_get_read mid (length mid) i x refl (within_beside xs mid b k i is other there inside h) value

put_beside : {A : Type 0} (xs : List A) (b k i : ℕ) (y z : A) → b ≢ k → b < length xs → Beside b k i → insert (slice_set (remove xs b) i y) b z ≡ slice_set (slice_set xs k y) b z
put_beside [] b k i y z other there h = absurd (omega arith)
put_beside (x ∷ xs) zero zero i y z other there h = absurd (other refl)
put_beside (x ∷ xs) zero (suc k) i y z other there h = ap (λ j. z ∷ slice_set xs j y) (let e = h.1 (omega arith) in let is : i ≡ k = omega (arith, e) in is)
put_beside (x ∷ xs) (suc b) zero i y z other there h =
    ap (λ j. insert (slice_set (x ∷ remove xs b) j y) (suc b) z) (h.0 (omega arith)) ∙ ap (λ l. y ∷ l) (put_back xs b z (omega arith))
put_beside (x ∷ xs) (suc b) (suc k) zero y z other there h = absurd (not_zero b k (λ e. other (ap suc e)) h)
put_beside (x ∷ xs) (suc b) (suc k) (suc i) y z other there h = ap (λ l. x ∷ l) (put_beside xs b k i y z (λ e. other (ap suc e)) (omega arith) (down b k i h))

-- two elements are taken out, and put back the other way round
pub put_both : {A : Type 0} (xs mid rest one two : List A) (b k i : ℕ) (y z : A) → mid ≡ remove xs b → rest ≡ remove mid i → one ≡ insert rest i y → two ≡ insert one b z
    → b ≢ k → b < length xs → i < length mid → Beside b k i → two ≡ slice_set (slice_set xs k y) b z
put_both xs mid rest one two b k i y z first second third fourth other there inside h =
    fourth ∙ ap (λ l. insert l b z) (third ∙ ap (λ l. insert l i y) second ∙ put_back mid i y inside ∙ ap (λ l. slice_set l i y) first) ∙ put_beside xs b k i y z other there h
