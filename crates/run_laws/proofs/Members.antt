-- The members of a list: what is found in it is one of them, and one of them is found.
use Rattle.std.proofs.Common.{◌≡◌, refl, sym, ap, ◌∙◌, subst, inl, inr, ◌⊎◌, ℕ, zero, suc, Bool, true, false, cond, List, [], ◌∷◌, ◌++◌, Some, map, find, flat_map, filter, length, slice_get, slice_index_or, ◌<◌, Contains, arith}
use Rattle.std.specs.List.{AllByRecursion, list_all}
use Rattle.std.proofs.lemmas.Bool.{and_from}
use Rattle.log_laws.proofs.Pairs.{all-imply, all-append}

-- x is one of these
abbrev pub Among : {A : Type 0} → List A → A → Type 0
Among [] x = ⊥
Among (y ∷ ys) x = (y ≡ x) ⊎ Among ys x

abbrev pub AllAmong : {A : Type 0} → List A → List A → Type 0
AllAmong ys xs = AllByRecursion (Among ys) xs

-- what holds of each holds of one of them
pub all-at : {A : Type 0} (P : A → Type 0) (xs : List A) (x : A) → AllByRecursion P xs → Among xs x → P x
all-at P [] x h m = absurd m
all-at P (y ∷ ys) x h m = elim m [ inl e ↦ subst P e h.0 | inr later ↦ all-at P ys x h.1 later ]

pub found-among : {A : Type 0} (test : A → Bool) (xs : List A) (x : A) → find test xs ≡ Some x → Among xs x × (test x ≡ true)
found-among test [] x e = absurd (cc)
found-among {A} test (y ∷ ys) x e =
    elim (test y) as (λ t. test y ≡ t → cond t (Some y) (find test ys) ≡ Some x → Among (y ∷ ys) x × (test x ≡ true)) [
      | true ↦ λ is f. let same : y ≡ x = cc in (inl same, subst (λ z. test z ≡ true) same is)
      | false ↦ λ is f. let later = found-among test ys x f in (inr later.0, later.1)
    ] refl e

pub among-found : {A : Type 0} (test : A → Bool) (xs : List A) (x : A) → Among xs x → test x ≡ true → (y : A) × (find test xs ≡ Some y)
among-found test [] x m e = absurd m
among-found {A} test (y ∷ ys) x m e =
    elim (test y) as (λ t. test y ≡ t → (z : A) × (cond t (Some y) (find test ys) ≡ Some z)) [
      | true ↦ λ is. (y, refl)
      | false ↦ λ is. elim m [
        | inl same ↦ absurd (no (sym is ∙ ap test same ∙ e))
        | inr later ↦ among-found test ys x later e
      ]
    ] refl
  where
    no : false ≡ true → ⊥
    no e = cc

pub contains-among : {A : Type 0} (xs : List A) (x : A) → Among xs x → Contains xs x
contains-among [] x m = absurd m
contains-among (y ∷ ys) x m = elim m [
  | inl same ↦ (0, omega arith, same)
  | inr later ↦ let c = contains-among ys x later in (suc c.0, omega (arith, c.1), c.2)
]

pub contained-among : {A : Type 0} (xs : List A) (x : A) → Contains xs x → Among xs x
contained-among {A} xs x c = at xs c.0 c.1 c.2
  where
    at : (ys : List A) (k : ℕ) → k < length ys → slice_index_or ys k x ≡ x → Among ys x
    at [] k low e = absurd (omega arith)
    at (y ∷ ys) zero low e = inl e
    at (y ∷ ys) (suc k) low e = inr (at ys k (omega (arith, low)) e)

pub among-get : {A : Type 0} (xs : List A) (at : ℕ) (x : A) → slice_get xs at ≡ Some x → Among xs x
among-get [] at x e = absurd (cc)
among-get (y ∷ ys) zero x e = let same : y ≡ x = cc in inl same
among-get (y ∷ ys) (suc at) x e = inr (among-get ys at x e)

pub all-among_itself : {A : Type 0} (xs : List A) → AllAmong xs xs
all-among_itself [] = tt
all-among_itself (x ∷ xs) = (inl refl, all-imply (Among xs) (Among (x ∷ xs)) xs (λ y m. inr m) (all-among_itself xs))

pub among-map : {A B : Type 0} (f : A → B) (xs : List A) (x : A) → Among xs x → Among (map f xs) (f x)
among-map f [] x m = absurd m
among-map f (y ∷ ys) x m = elim m [ inl same ↦ inl (ap f same) | inr later ↦ inr (among-map f ys x later) ]

pub among-left : {A : Type 0} (xs ys : List A) (x : A) → Among xs x → Among (xs ++ ys) x
among-left [] ys x m = absurd m
among-left (z ∷ zs) ys x m = elim m [ inl same ↦ inl same | inr later ↦ inr (among-left zs ys x later) ]

pub among-right : {A : Type 0} (xs ys : List A) (x : A) → Among ys x → Among (xs ++ ys) x
among-right [] ys x m = m
among-right (z ∷ zs) ys x m = inr (among-right zs ys x m)

pub among-flat_map : {A B : Type 0} (f : A → List B) (xs : List A) (x : A) (b : B) → Among xs x → Among (f x) b → Among (flat_map f xs) b
among-flat_map f [] x b m n = absurd m
among-flat_map f (y ∷ ys) x b m n = elim m [
  | inl same ↦ among-left (f y) (flat_map f ys) b (subst (λ z. Among (f z) b) (sym same) n)
  | inr later ↦ among-right (f y) (flat_map f ys) b (among-flat_map f ys x b later n)
]

pub all-flat_map : {A B : Type 0} (P : B → Type 0) (f : A → List B) (xs : List A) → AllByRecursion (λ x. AllByRecursion P (f x)) xs → AllByRecursion P (flat_map f xs)
all-flat_map P f [] h = tt
all-flat_map P f (x ∷ xs) h = all-append P (f x) (flat_map f xs) h.0 (all-flat_map P f xs h.1)

pub among-filter : {A : Type 0} (p : A → Bool) (xs : List A) (x : A) → Among xs x → p x ≡ true → Among (filter p xs) x
among-filter p [] x m e = absurd m
among-filter {A} p (y ∷ ys) x m e =
    elim m [
      | inl same ↦ subst (λ t. Among (cond t (y ∷ filter p ys) (filter p ys)) x) (sym e ∙ ap p (sym same)) (inl same)
      | inr later ↦ either (p y) (among-filter p ys x later e)
    ]
  where
    either : (t : Bool) → Among (filter p ys) x → Among (cond t (y ∷ filter p ys) (filter p ys)) x
    either true n = inr n
    either false n = n

pub all-of : {A : Type 0} (P : A → Type 0) (xs : List A) → ((x : A) → Among xs x → P x) → AllByRecursion P xs
all-of P [] f = tt
all-of P (x ∷ xs) f = (f x (inl refl), all-of P xs (λ y m. f y (inr m)))

-- a test that each passes
pub all-test : {A B : Type 0} (f : A → B) (p : B → Bool) (xs : List A) → AllByRecursion (λ x. p (f x) ≡ true) xs → list_all p (map f xs) ≡ true
all-test f p [] h = refl
all-test f p (x ∷ xs) h = and_from (p (f x)) (list_all p (map f xs)) h.0 (all-test f p xs h.1)

pub all-filter : {A B : Type 0} (f : A → B) (p : B → Bool) (R : B → Type 0) (xs : List A) → AllByRecursion (λ x. p (f x) ≡ true → R (f x)) xs → AllByRecursion R (filter p (map f xs))
all-filter f p R [] h = tt
all-filter {A} {B} f p R (x ∷ xs) h = step (p (f x)) h.0 (all-filter f p R xs h.1)
  where
    step : (t : Bool) → (t ≡ true → R (f x)) → AllByRecursion R (filter p (map f xs)) → AllByRecursion R (cond t (f x ∷ filter p (map f xs)) (filter p (map f xs)))
    step true i k = (i refl, k)
    step false i k = k

pub all-both : {A : Type 0} (P Q : A → Type 0) (xs : List A) → AllByRecursion P xs → AllByRecursion Q xs → AllByRecursion (λ x. P x × Q x) xs
all-both P Q [] h k = tt
all-both P Q (x ∷ xs) h k = ((h.0, k.0), all-both P Q xs h.1 k.1)

pub all-map : {A B : Type 0} (f : A → B) (P : B → Type 0) (xs : List A) → AllByRecursion (λ x. P (f x)) xs → AllByRecursion P (map f xs)
all-map f P [] h = tt
all-map f P (x ∷ xs) h = (h.0, all-map f P xs h.1)

-- what passed a test is one of those it was tried on
pub filter-among : {A : Type 0} (p : A → Bool) (xs : List A) (x : A) → Among (filter p xs) x → Among xs x × (p x ≡ true)
filter-among p [] x m = absurd m
filter-among {A} p (y ∷ ys) x m =
    elim (p y) as (λ t. p y ≡ t → Among (cond t (y ∷ filter p ys) (filter p ys)) x → Among (y ∷ ys) x × (p x ≡ true)) [
      | true ↦ λ is n. elim n [
        | inl same ↦ (inl same, subst (λ z. p z ≡ true) same is)
        | inr later ↦ let found = filter-among p ys x later in (inr found.0, found.1)
      ]
      | false ↦ λ is n. let found = filter-among p ys x n in (inr found.0, found.1)
    ] refl m
