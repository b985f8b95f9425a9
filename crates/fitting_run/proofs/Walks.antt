-- The steps of the loops that try each node, and what is found among some rows and those others that pass a test.
use Rattle.std.proofs.Common.{◌≡◌, refl, sym, ap, ◌∙◌, ℕ, suc, List, [], ◌++◌, cond, ◌+◌, ◌-◌, ◌<◌, Bool, true, false, ◌&&◌, ◌||◌, ◌∷◌, arith}
use Rattle.std.specs.Prelude.{filter}
use Rattle.std.specs.List.{list_all, list_any}
use Rattle.engine_api.specs.Order.{numbers}

numbers-from : (n total : ℕ) → n < total → numbers n (total - n) ≡ n ∷ numbers (n + 1) (total - (n + 1))
numbers-from n total below = ap (numbers n) (let e : total - n ≡ suc (total - (n + 1)) = omega arith in e)

pub any-fails : (p : ℕ → Bool) (n total : ℕ) (r : Bool) → n < total → p n ≡ false → list_any p (numbers n (total - n)) ≡ r → list_any p (numbers (n + 1) (total - (n + 1))) ≡ r
any-fails p n total r below e h =
    let rest = list_any p (numbers (n + 1) (total - (n + 1))) in
    sym (ap (list_any p) (numbers-from n total below) ∙ ap (λ b. b || rest) e) ∙ h

pub all-passes : (p : ℕ → Bool) (n total : ℕ) (r : Bool) → n < total → p n ≡ true → list_all p (numbers n (total - n)) ≡ r → list_all p (numbers (n + 1) (total - (n + 1))) ≡ r
all-passes p n total r below e h =
    let rest = list_all p (numbers (n + 1) (total - (n + 1))) in
    sym (ap (list_all p) (numbers-from n total below) ∙ ap (λ b. b && rest) e) ∙ h

any-filtered : {A : Type 0} (p q : A → Bool) (ys : List A) → list_any p (filter q ys) ≡ list_any (λ y. q y && p y) ys
any-filtered p q [] = refl
any-filtered {A} p q (y ∷ ys) = step (q y) (any-filtered p q ys)
  where
    step : (b : Bool) → list_any p (filter q ys) ≡ list_any (λ z. q z && p z) ys → list_any p (cond b (y ∷ filter q ys) (filter q ys)) ≡ ((b && p y) || list_any (λ z. q z && p z) ys)
    step true e = ap (λ t. p y || t) e
    step false e = e

pub any-among : {A : Type 0} (p q : A → Bool) (xs ys : List A) → list_any p (xs ++ filter q ys) ≡ (list_any p xs || list_any (λ y. q y && p y) ys)
any-among p q [] ys = any-filtered p q ys
any-among {A} p q (x ∷ xs) ys = ap (λ t. p x || t) (any-among p q xs ys) ∙ apart (p x) (list_any p xs) (list_any (λ y. q y && p y) ys)
  where
    apart : (a b c : Bool) → (a || (b || c)) ≡ ((a || b) || c)
    apart true b c = refl
    apart false b c = refl

-- .. where none of the first is found, and the rest is as those others say
pub any-beside : {A : Type 0} (p q : A → Bool) (xs ys : List A) (r : Bool) → list_any p xs ≡ false → r ≡ list_any (λ y. q y && p y) ys → r ≡ list_any p (xs ++ filter q ys)
any-beside p q xs ys r none e = e ∙ (ap (λ t. t || list_any (λ y. q y && p y) ys) (sym none) ∙ sym (any-among p q xs ys))

pub all-fails : (p : ℕ → Bool) (n total : ℕ) (r : Bool) → n < total → p n ≡ false → list_all p (numbers n (total - n)) ≡ r → false ≡ r
all-fails p n total r below e h =
    let rest = list_all p (numbers (n + 1) (total - (n + 1))) in
    sym (ap (list_all p) (numbers-from n total below) ∙ ap (λ b. b && rest) e) ∙ h
