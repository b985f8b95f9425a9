-- Facts about each element of a list, and each pair.
use Rattle.std.proofs.Common.{◌≡◌, refl, ap, ◌∙◌, subst, Bool, true, false, List, [], ◌∷◌, ◌++◌, Some, cond}
use Rattle.std.specs.Prelude.{find, filter}
use Rattle.std.specs.List.{AllByRecursion}
use Rattle.log_laws.specs.Order.{EachPair}

pub all-imply : {A : Type 0} (P Q : A → Type 0) (xs : List A) → ((x : A) → P x → Q x) → AllByRecursion P xs → AllByRecursion Q xs
all-imply P Q [] f h = tt
all-imply P Q (x ∷ xs) f h = (f x h.0, all-imply P Q xs f h.1)

pub all-append : {A : Type 0} (P : A → Type 0) (xs ys : List A) → AllByRecursion P xs → AllByRecursion P ys → AllByRecursion P (xs ++ ys)
all-append P [] ys h k = k
all-append P (x ∷ xs) ys h k = (h.0, all-append P xs ys h.1 k)

pub all-left : {A : Type 0} (P : A → Type 0) (xs ys : List A) → AllByRecursion P (xs ++ ys) → AllByRecursion P xs
all-left P [] ys h = tt
all-left P (x ∷ xs) ys h = (h.0, all-left P xs ys h.1)

pub all-right : {A : Type 0} (P : A → Type 0) (xs ys : List A) → AllByRecursion P (xs ++ ys) → AllByRecursion P ys
all-right P [] ys h = h
all-right P (x ∷ xs) ys h = all-right P xs ys h.1

pub pairs-append : {A : Type 0} (R : A → A → Type 0) (xs ys : List A) → EachPair R xs → EachPair R ys → AllByRecursion (λ x. AllByRecursion (R x) ys) xs → EachPair R (xs ++ ys)
pairs-append R [] ys h k a = k
pairs-append R (x ∷ xs) ys h k a = (all-append (R x) xs ys h.0 a.0, pairs-append R xs ys h.1 k a.1)

pub pairs-right : {A : Type 0} (R : A → A → Type 0) (xs ys : List A) → EachPair R (xs ++ ys) → EachPair R ys
pairs-right R [] ys h = h
pairs-right R (x ∷ xs) ys h = pairs-right R xs ys h.1

-- those before an element stand so to it
pub pairs-to : {A : Type 0} (R : A → A → Type 0) (xs : List A) (y : A) (ys : List A) → EachPair R (xs ++ y ∷ ys) → AllByRecursion (λ x. R x y) xs
pairs-to R [] y ys h = tt
pairs-to R (x ∷ xs) y ys h = ((all-right (R x) xs (y ∷ ys) h.0).0, pairs-to R xs y ys h.1)

-- what is found has what each has
pub found-has : {A : Type 0} (P : A → Type 0) (test : A → Bool) (xs : List A) (x : A) → AllByRecursion P xs → find test xs ≡ Some x → P x
found-has P test [] x h e = absurd (cc)
found-has {A} P test (y ∷ ys) x h e = by_test (test y) (found-has P test ys x h.1) e
  where
    by_test : (b : Bool) → (find test ys ≡ Some x → P x) → cond b (Some y) (find test ys) ≡ Some x → P x
    by_test true rest k = let same : y ≡ x = cc in subst P same h.0
    by_test false rest k = rest k

pub filter-all : {A : Type 0} (test : A → Bool) (xs : List A) → AllByRecursion (λ x. test x ≡ true) xs → filter test xs ≡ xs
filter-all test [] h = refl
filter-all test (x ∷ xs) h = ap (λ b. cond b (x ∷ filter test xs) (filter test xs)) h.0 ∙ ap (λ l. x ∷ l) (filter-all test xs h.1)

pub filter-none : {A : Type 0} (test : A → Bool) (xs : List A) → AllByRecursion (λ x. test x ≡ false) xs → filter test xs ≡ []
filter-none test [] h = refl
filter-none test (x ∷ xs) h = ap (λ b. cond b (x ∷ filter test xs) (filter test xs)) h.0 ∙ filter-none test xs h.1
