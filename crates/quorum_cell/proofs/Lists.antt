-- What holds at each place of a list, after a write and after a push.
use Rattle.std.proofs.Common.{◌≡◌, ℕ, zero, suc, ◌+◌, ◌<◌, ◌≤◌, Bool, true, false, refl, ap, sym, ◌∙◌, arith, List, [], ◌∷◌, ◌++◌, length, get_or, set, drop, Some}
use Rattle.std.specs.Prelude.{slice_get, All, Contains, ◌⊎◌}
use Rattle.std.proofs.Common.{inl, inr}
use Rattle.std.specs.List.{list_any}
use Rattle.std.specs.Prelude.{◌==◌, ◌||◌}
use Rattle.std.proofs.lemmas.Bool.{false≢true, or_cases, or_left, or_right, eq-eqb}
use Rattle.quorum_cell.specs.Law.{faulted}
use Rattle.std.proofs.lemmas.Option.{none-some, same_Some}
use Rattle.std.proofs.lemmas.List.Elements.{All-head, All-tail}

pub at_set : {X : Type 0} (P : ℕ → X → Type 0) (xs : List X) (i : ℕ) (a d : X) → ((j : ℕ) → P j (get_or xs j d)) → (i < length xs → P i a) → (j : ℕ) → P j (get_or (set xs i a) j d)
at_set P [] i a d old new j = old j
at_set P (x ∷ xs) zero a d old new zero = new (omega arith)
at_set P (x ∷ xs) zero a d old new (suc j) = old (suc j)
at_set P (x ∷ xs) (suc i) a d old new zero = old zero
at_set P (x ∷ xs) (suc i) a d old new (suc j) = at_set (λ k. P (suc k)) xs i a d (λ k. old (suc k)) (λ l. new (omega arith)) j

pub at_push : {X : Type 0} (P : ℕ → X → Type 0) (xs : List X) (a d : X) → ((j : ℕ) → P j (get_or xs j d)) → P (length xs) a → (j : ℕ) → P j (get_or (xs ++ a ∷ []) j d)
at_push P [] a d old new zero = new
at_push P [] a d old new (suc j) = old (suc j)
at_push P (x ∷ xs) a d old new zero = old zero
at_push P (x ∷ xs) a d old new (suc j) = at_push (λ k. P (suc k)) xs a d (λ k. old (suc k)) new j

pub slice_get_push_old : {X : Type 0} (xs : List X) (a : X) (k : ℕ) → k < length xs → slice_get (xs ++ a ∷ []) k ≡ slice_get xs k
slice_get_push_old [] a k h = absurd (omega arith)
slice_get_push_old (x ∷ xs) a zero h = refl
slice_get_push_old (x ∷ xs) a (suc k) h = slice_get_push_old xs a k (omega arith)

pub slice_get_push_new : {X : Type 0} (xs : List X) (a : X) (k : ℕ) → k ≡ length xs → slice_get (xs ++ a ∷ []) k ≡ Some a
slice_get_push_new [] a zero h = refl
slice_get_push_new [] a (suc k) h = absurd (omega arith)
slice_get_push_new (x ∷ xs) a zero h = absurd (omega arith)
slice_get_push_new (x ∷ xs) a (suc k) h = slice_get_push_new xs a k (omega arith)

pub slice_get_more : {X : Type 0} (xs : List X) (a : X) (k : ℕ) (e : X) → slice_get xs k ≡ Some e → slice_get (xs ++ a ∷ []) k ≡ Some e
slice_get_more [] a k e h = absurd (none-some e h)
slice_get_more (x ∷ xs) a zero e h = h
slice_get_more (x ∷ xs) a (suc k) e h = slice_get_more xs a k e h

pub slice_get_drop : {X : Type 0} (d : ℕ) (xs : List X) (k : ℕ) → slice_get (drop d xs) k ≡ slice_get xs (d + k)
slice_get_drop zero xs k = ap (slice_get xs) (omega arith)
slice_get_drop (suc d) [] k = refl
slice_get_drop (suc d) (x ∷ xs) k =
    let e : suc d + k ≡ suc (d + k) = omega arith in
    rw e (slice_get_drop d xs k)

pub contained : {X : Type 0} (xs : List X) (k : ℕ) (x : X) → slice_get xs k ≡ Some x → Contains xs x
contained [] k x h = absurd (none-some x h)
contained (y ∷ xs) zero x h = (0, omega arith, same_Some y x h)
contained (y ∷ xs) (suc k) x h = let more : Contains xs x = contained xs k x h in (suc more.0, omega (arith, more.1), more.2)

-- an element that passes
pub one_of : {X : Type 0} (P : X → Type 0) (test : X → Bool) (xs : List X) → All P xs → list_any test xs ≡ true → (x : X) × P x × (test x ≡ true)
one_of P test [] all h = absurd (false≢true h)
one_of P test (x ∷ xs) all h = by (or_cases (test x) (list_any test xs) h) (one_of P test xs (All-tail P x xs all))
  where
    use_it : (test x ≡ true) → (y : _) × P y × (test y ≡ true)
    use_it e = (x, All-head P x xs all, e)

    by : ((test x ≡ true) ⊎ (list_any test xs ≡ true)) → (list_any test xs ≡ true → (y : _) × P y × (test y ≡ true)) → (y : _) × P y × (test y ≡ true)
    by (inl e) more = use_it e
    by (inr e) more = more e

found_at : {X : Type 0} (xs : List X) (k : ℕ) → k < length xs → (x : X) × (slice_get xs k ≡ Some x)
found_at [] k h = absurd (omega arith)
found_at (x ∷ xs) zero h = (x, refl)
found_at (x ∷ xs) (suc k) h = found_at xs k (omega arith)

-- where all of xs is at its place in ys, they agree
pub agrees_at : {X : Type 0} (xs ys : List X) (k : ℕ) → k < length xs → ((j : ℕ) (x : X) → slice_get xs j ≡ Some x → slice_get ys j ≡ Some x) → slice_get xs k ≡ slice_get ys k
agrees_at xs ys k h kept = let found : (x : _) × (slice_get xs k ≡ Some x) = found_at xs k h in found.1 ∙ sym (kept k found.0 found.1)

-- faults

either_true : (a b c : Bool) → (a || b) ≡ true → (b ≡ true → c ≡ true) → (a || c) ≡ true
either_true true b c h more = refl
either_true false b c h more = more h

list_any_more : {X : Type 0} (test : X → Bool) (xs : List X) (x : X) → list_any test xs ≡ true → list_any test (xs ++ x ∷ []) ≡ true
list_any_more test [] x h = absurd (false≢true h)
list_any_more test (y ∷ ys) x h = either_true (test y) (list_any test ys) (list_any test (ys ++ x ∷ [])) h (list_any_more test ys x)

list_any_last : {X : Type 0} (test : X → Bool) (xs : List X) (x : X) → test x ≡ true → list_any test (xs ++ x ∷ []) ≡ true
list_any_last test [] x h = or_left (test x) _ h
list_any_last test (y ∷ ys) x h = or_right (test y) _ (list_any_last test ys x h)

pub faulted_more : (faults : List ℕ) (before i x : ℕ) → faulted faults before i ≡ true → faulted (faults ++ x ∷ []) before i ≡ true
faulted_more faults zero i x h = list_any_more (λ s. s == i) faults x h
faulted_more [] (suc before) i x h = absurd (false≢true h)
faulted_more (y ∷ faults) (suc before) i x h = faulted_more faults before i x h

pub faulted_now : (faults : List ℕ) (before i : ℕ) → before ≤ length faults → faulted (faults ++ i ∷ []) before i ≡ true
faulted_now faults zero i l = list_any_last (λ s. s == i) faults i (eq-eqb i i refl)
faulted_now [] (suc before) i l = absurd (omega (arith, l))
faulted_now (y ∷ faults) (suc before) i l = faulted_now faults before i (omega (arith, l))
