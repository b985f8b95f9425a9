-- What is made of numbers in a row.
use Rattle.std.proofs.Common.{◌≡◌, ◌+◌, ℕ, zero, suc, List, [], ◌∷◌, ◌++◌, refl, sym, ap, ◌∙◌, arith}
use Rattle.std.specs.List.{flat_map, range_with_len, sum_by}
use Rattle.std.proofs.lemmas.List.{append-nil}
use Rattle.std.proofs.lemmas.List.Concat.{flat_map-append}
use Rattle.std.proofs.lemmas.List.Sums.{sum_by-append, sum_by-cons, sum_by_push}

pub range-suc : (a n : ℕ) → range_with_len a (suc n) ≡ range_with_len a n ++ (a + n) ∷ []
range-suc a zero = ap (λ (k : ℕ). k ∷ []) (omega arith)
range-suc a (suc n) =
    ap (λ (ks : List ℕ). a ∷ ks) (range-suc (a + 1) n)
    ∙ ap (λ (k : ℕ). a ∷ (range_with_len (a + 1) n ++ k ∷ [])) (omega arith)

-- one more piece
pub flat_map-range-suc : {X : Type 0} (f : ℕ → List X) (n : ℕ) → flat_map f (range_with_len 1 (suc n)) ≡ flat_map f (range_with_len 1 n) ++ f (suc n)
flat_map-range-suc {X} f n =
    let one : 1 + n ≡ suc n = omega arith in
    ap (flat_map f) (range-suc 1 n)
    ∙ flat_map-append f (range_with_len 1 n) ((1 + n) ∷ [])
    ∙ ap (λ (xs : List X). flat_map f (range_with_len 1 n) ++ xs) (append-nil (f (1 + n)) ∙ ap f one)

-- one more number
pub sum_by-range-suc : (g : ℕ → ℕ) (n : ℕ) → sum_by g (range_with_len 1 (suc n)) ≡ sum_by g (range_with_len 1 n) + g (suc n)
sum_by-range-suc g n =
    let one : 1 + n ≡ suc n = omega arith in
    ap (sum_by g) (range-suc 1 n)
    ∙ sum_by_push g (range_with_len 1 n) (1 + n)
    ∙ ap (λ (k : ℕ). sum_by g (range_with_len 1 n) + g k) one

-- sums of equal numbers
pub sum_by-same : {X : Type 0} (f g : X → ℕ) (xs : List X) → ((x : X) → f x ≡ g x) → sum_by f xs ≡ sum_by g xs
sum_by-same f g [] h = refl
sum_by-same f g (x ∷ xs) h = sum_by-cons f x xs ∙ rw (h x, sum_by-same f g xs h) (sym (sum_by-cons g x xs))

pub sum_by-flat_map : {X Y : Type 0} (w : Y → ℕ) (f : X → List Y) (xs : List X) → sum_by w (flat_map f xs) ≡ sum_by (λ x. sum_by w (f x)) xs
sum_by-flat_map w f [] = refl
sum_by-flat_map w f (x ∷ xs) =
    sum_by-append w (f x) (flat_map f xs)
    ∙ ap (λ (k : ℕ). sum_by w (f x) + k) (sum_by-flat_map w f xs)
    ∙ sym (sum_by-cons (λ y. sum_by w (f y)) x xs)
