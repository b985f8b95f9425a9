-- The entries of stripes, in turn.
use Rattle.std.proofs.Common.{◌≡◌, ◌≢◌, inl, inr, ℕ, zero, suc, ◌+◌, ◌/◌, ◌%◌, ◌<◌, ◌≤◌, ◌++◌, List, [], ◌∷◌, length, set, Option, Some, None, refl, sym, ap, ◌∙◌, subst, arith, length-append}
use Rattle.std.specs.Prelude.{◌⊎◌, slice_get}
use Rattle.std.proofs.lemmas.Bool.{cases_lt}
use Rattle.delos_types.specs.declared.entry.Entry.{Entry}
use Rattle.striped_loglet.specs.Views.{listed}
use Rattle.striped_loglet.proofs.Lists.{either, length_set, set_here, set_there, within}
use Rattle.striped_cells.specs.Striped.{index_of, position_of, woven}

pub get_front : {A : Type 0} (xs ys : List A) (p : ℕ) → p < length xs → slice_get (xs ++ ys) p ≡ slice_get xs p
get_front [] ys p l = absurd (omega arith)
get_front (x ∷ xs) ys zero l = refl
get_front (x ∷ xs) ys (suc p) l = get_front xs ys p (omega arith)

pub get_last : {A : Type 0} (xs : List A) (e : A) (p : ℕ) → p ≡ length xs → slice_get (xs ++ e ∷ []) p ≡ Some e
get_last [] e zero h = refl
get_last [] e (suc p) h = absurd (omega arith)
get_last (x ∷ xs) e zero h = absurd (omega arith)
get_last (x ∷ xs) e (suc p) h = get_last xs e p (omega arith)

pub get_past : {A : Type 0} (xs : List A) (p : ℕ) → length xs ≤ p → slice_get xs p ≡ None
get_past [] p l = refl
get_past (x ∷ xs) zero l = absurd (omega arith)
get_past (x ∷ xs) (suc p) l = get_past xs p (omega arith)

pub at_position : (stripes : List (List Entry)) (m q : ℕ) (es : List Entry) (e : Entry) → length stripes ≡ m → slice_get stripes (q % m) ≡ Some es → slice_get es (q / m) ≡ Some e → position_of stripes q ≡ Some e
at_position stripes m q es e h at is = rw h (ap (λ (o : Option (List Entry)). index_of o (q / m)) at ∙ is)

-- each position below n is there
abbrev pub HasBelow : List (List Entry) → ℕ → Type 0
HasBelow stripes n = (q : ℕ) → q < n → (e : Entry) × (position_of stripes q ≡ Some e)

pub woven_length : (stripes : List (List Entry)) (n : ℕ) → HasBelow stripes n → length (woven stripes n) ≡ n
woven_length stripes zero h = refl
woven_length stripes (suc n) h =
    let here = h n (omega arith) in
    let less : length (woven stripes n) ≡ n = woven_length stripes n (λ q l. h q (omega (arith, l))) in
    let one : length (listed (position_of stripes n)) ≡ 1 = ap (λ (o : Option Entry). length (listed o)) here.1 in
    let both : length (woven stripes n ++ listed (position_of stripes n)) ≡ length (woven stripes n) + length (listed (position_of stripes n)) = length-append (woven stripes n) (listed (position_of stripes n)) in
    omega (arith, both, less, one)

pub woven_at : (stripes : List (List Entry)) (n p : ℕ) → HasBelow stripes n → p < n → slice_get (woven stripes n) p ≡ position_of stripes p
woven_at stripes zero p h l = absurd (omega arith)
woven_at stripes (suc n) p h l = by (cases_lt p n) (woven_at stripes n p (λ q j. h q (omega (arith, j))))
  where
    less : length (woven stripes n) ≡ n
    less = woven_length stripes n (λ q k. h q (omega (arith, k)))

    by : ((p < n) ⊎ (n ≤ p)) → (p < n → slice_get (woven stripes n) p ≡ position_of stripes p) → slice_get (woven stripes n ++ listed (position_of stripes n)) p ≡ position_of stripes p
    by (inl k) rest = get_front (woven stripes n) (listed (position_of stripes n)) p (omega (arith, k, less)) ∙ rest k
    by (inr k) rest =
        let here = h n (omega arith) in
        let at : p ≡ n = omega (arith, l, k) in
        let last : slice_get (woven stripes n ++ here.0 ∷ []) p ≡ Some here.0 = get_last (woven stripes n) here.0 p (omega (arith, at, less)) in
        ap (λ (o : Option Entry). slice_get (woven stripes n ++ listed o) p) here.1 ∙ (last ∙ sym (ap (position_of stripes) at ∙ here.1))

pub woven_same : (stripes new : List (List Entry)) (n : ℕ) → ((q : ℕ) → q < n → position_of new q ≡ position_of stripes q) → woven new n ≡ woven stripes n
woven_same stripes new zero h = refl
woven_same stripes new (suc n) h =
    ap (λ (es : List Entry). es ++ listed (position_of new n)) (woven_same stripes new n (λ q l. h q (omega (arith, l))))
    ∙ ap (λ (o : Option Entry). woven stripes n ++ listed o) (h n (omega arith))

-- one stripe has more
position_more : (stripes : List (List Entry)) (i : ℕ) (es : List Entry) (e : Entry) (q : ℕ) → slice_get stripes i ≡ Some es → (q % length stripes ≡ i → q / length stripes < length es) → position_of (set stripes i (es ++ e ∷ [])) q ≡ position_of stripes q
position_more stripes i es e q at low =
    let m : length (set stripes i (es ++ e ∷ [])) ≡ length stripes = length_set stripes i (es ++ e ∷ []) in
    rw m (by (either i (q % length stripes)))
  where
    by : ((i ≡ q % length stripes) ⊎ (i ≢ q % length stripes)) → index_of (slice_get (set stripes i (es ++ e ∷ [])) (q % length stripes)) (q / length stripes) ≡ index_of (slice_get stripes (q % length stripes)) (q / length stripes)
    by (inl same) =
        let new : slice_get (set stripes i (es ++ e ∷ [])) (q % length stripes) ≡ Some (es ++ e ∷ []) = subst (λ j. slice_get (set stripes i (es ++ e ∷ [])) j ≡ Some (es ++ e ∷ [])) same (set_here stripes i es (es ++ e ∷ []) at) in
        let old : slice_get stripes (q % length stripes) ≡ Some es = subst (λ j. slice_get stripes j ≡ Some es) same at in
        ap (λ o. index_of o (q / length stripes)) new ∙ (get_front es (e ∷ []) (q / length stripes) (low (sym same)) ∙ sym (ap (λ o. index_of o (q / length stripes)) old))
    by (inr other) = ap (λ o. index_of o (q / length stripes)) (set_there stripes i (q % length stripes) (es ++ e ∷ []) other)

-- the stripe that has the next position has its entry
pub woven_more : (stripes : List (List Entry)) (n : ℕ) (es : List Entry) (e : Entry) → HasBelow stripes n → slice_get stripes (n % length stripes) ≡ Some es → length es ≡ n / length stripes
    → woven (set stripes (n % length stripes) (es ++ e ∷ [])) (suc n) ≡ woven stripes n ++ e ∷ []
woven_more stripes n es e h at next =
    let m : length (set stripes (n % length stripes) (es ++ e ∷ [])) ≡ length stripes = length_set stripes (n % length stripes) (es ++ e ∷ []) in
    let below : woven (set stripes (n % length stripes) (es ++ e ∷ [])) n ≡ woven stripes n = woven_same stripes (set stripes (n % length stripes) (es ++ e ∷ [])) n (λ q l. position_more stripes (n % length stripes) es e q at (λ same. low q l same)) in
    let here : position_of (set stripes (n % length stripes) (es ++ e ∷ [])) n ≡ Some e = rw m (ap (λ o. index_of o (n / length stripes)) (set_here stripes (n % length stripes) es (es ++ e ∷ []) at) ∙ get_last es e (n / length stripes) (sym next)) in
    ap (λ (xs : List Entry). xs ++ listed (position_of (set stripes (n % length stripes) (es ++ e ∷ [])) n)) below ∙ ap (λ (o : Option Entry). woven stripes n ++ listed o) here
  where
    low : (q : ℕ) → q < n → q % length stripes ≡ n % length stripes → q / length stripes < length es
    low q l same =
        let there = h q l in
        let mine : slice_get stripes (q % length stripes) ≡ Some es = subst (λ j. slice_get stripes j ≡ Some es) (sym same) at in
        within es (q / length stripes) there.0 (sym (ap (λ o. index_of o (q / length stripes)) mine) ∙ there.1)
