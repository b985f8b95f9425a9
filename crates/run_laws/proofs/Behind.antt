-- Each element of a list behind those before it, and the elements that a test picks which sees those.
use Rattle.std.proofs.Common.{◌≡◌, refl, sym, ap, ◌∙◌, subst, inl, inr, ℕ, suc, ◌+◌, ◌≤◌, Bool, true, false, not, ◌&&◌, ◌||◌, cond, if◌then◌else◌, List, [], ◌∷◌, ◌++◌, length, map, count_by, append_assoc, arith}
use Rattle.std.specs.List.{AllByRecursion, list_any}
use Rattle.std.proofs.lemmas.Bool.{or_left, or_right, both_ways}
use Rattle.std.proofs.lemmas.List.{map-append}
use Rattle.std.proofs.lemmas.List.Sums.{sum_by-cons}
use Rattle.fitting_run.specs.Faults.{picked}
use Rattle.log_laws.specs.Order.{EachPair}
use Rattle.run_laws.specs.Ended.{AllAfter}
use Rattle.run_laws.proofs.Members.{Among, among-right}

-- What holds of each

pub after-imply : {A : Type 0} (P Q : List A → A → Type 0) (before xs : List A) → ((b : List A) (x : A) → P b x → Q b x) → AllAfter P before xs → AllAfter Q before xs
after-imply P Q before [] f h = tt
after-imply P Q before (x ∷ xs) f h = (f before x h.0, after-imply P Q (before ++ x ∷ []) xs f h.1)

pub after-both : {A : Type 0} (P Q S : List A → A → Type 0) (before xs : List A) → ((b : List A) (x : A) → P b x → Q b x → S b x) → AllAfter P before xs → AllAfter Q before xs → AllAfter S before xs
after-both P Q S before [] f h k = tt
after-both P Q S before (x ∷ xs) f h k = (f before x h.0 k.0, after-both P Q S (before ++ x ∷ []) xs f h.1 k.1)

pub after-each : {A : Type 0} (P : List A → A → Type 0) (Q : A → Type 0) (before xs : List A) → ((b : List A) (x : A) → P b x → Q x) → AllAfter P before xs → AllByRecursion Q xs
after-each P Q before [] f h = tt
after-each P Q before (x ∷ xs) f h = (f before x h.0, after-each P Q (before ++ x ∷ []) xs f h.1)

-- the list is what stands before this element, and the element, and what is behind it
pub record Cut {A : Type 0} (all before : List A) (x : A) : Type 0 where
  pub behind : List A
  pub whole : before ++ x ∷ behind ≡ all

pub cuts : {A : Type 0} (before xs : List A) → AllAfter (Cut (before ++ xs)) before xs
cuts before [] = tt
cuts before (x ∷ xs) = (
  record { behind = xs; whole = refl },
  subst (λ all. AllAfter (Cut all) (before ++ x ∷ []) xs) (append_assoc before (x ∷ []) xs) (cuts (before ++ x ∷ []) xs),
)

-- what an element is to each one behind it
pub pairs-behind : {A : Type 0} (P : List A → A → Type 0) (R : A → A → Type 0) (before xs : List A) → ((b : List A) (x : A) (mid : List A) (y : A) → P b x → P (b ++ x ∷ mid) y → R x y)
    → AllAfter P before xs → EachPair R xs
pairs-behind P R before [] f h = tt
pairs-behind {A} P R before (x ∷ xs) f h = (from_one [] xs h.1, pairs-behind P R (before ++ x ∷ []) xs f h.1)
  where
    from_one : (mid ys : List A) → AllAfter P (before ++ x ∷ mid) ys → AllByRecursion (R x) ys
    from_one mid [] k = tt
    from_one mid (y ∷ ys) k = (f before x mid y h.0 k.0, from_one (mid ++ y ∷ []) ys (subst (λ b. AllAfter P b ys) (append_assoc before (x ∷ mid) (y ∷ [])) k.1))

-- Picked elements

-- those that pass q are at least those that p picks, which pass it, with those that pass it and p doesn't pick
pub picked-split : {A B : Type 0} (f : A → B) (p : List B → B → Bool) (q : A → Bool) (before xs : List A) → AllAfter (λ b x. p (map f b) (f x) ≡ true → q x ≡ true) before xs
    → length (picked p (map f before) (map f xs)) + length (picked (λ b x. q x && not (p (map f b) (f x))) before xs) ≤ count_by q xs
picked-split f p q before [] h = omega arith
picked-split {A} {B} f p q before (x ∷ xs) h =
    let more = picked-split f p q (before ++ x ∷ []) xs h.1 in
    let same : picked p (map f (before ++ x ∷ [])) (map f xs) ≡ picked p (map f before ++ f x ∷ []) (map f xs) = ap (λ bs. picked p bs (map f xs)) (map-append f before (x ∷ [])) in
    step (p (map f before) (f x)) (q x) h.0 (picked p (map f before ++ f x ∷ []) (map f xs)) (picked (λ b x. q x && not (p (map f b) (f x))) (before ++ x ∷ []) xs)
    (omega (arith, more, ap length same)) (sum_by-cons (λ y. cond (q y) 1 0) x xs)
  where
    step : (t u : Bool) → (t ≡ true → u ≡ true) → (ys : List B) (zs : List A) {n m : ℕ} → length ys + length zs ≤ m → n ≡ cond u 1 0 + m
        → length ((if t then f x ∷ [] else []) ++ ys) + length ((if u && not t then x ∷ [] else []) ++ zs) ≤ n
    step true true i ys zs low is = omega (arith, low, is)
    step true false i ys zs low is = absurd (both_ways false refl (i refl))
    step false true i ys zs low is = omega (arith, low, is)
    step false false i ys zs low is = omega (arith, low, is)

pub picked-among : {A : Type 0} (test : List A → A → Bool) (before xs : List A) → AllAfter (λ b x. test b x ≡ true → Among (picked test before xs) x) before xs
picked-among test before [] = tt
picked-among {A} test before (x ∷ xs) = (
  (λ e. subst (λ t. Among ((if t then x ∷ [] else []) ++ picked test (before ++ x ∷ []) xs) x) (sym e) (inl refl)),
  after-imply (λ b y. test b y ≡ true → Among (picked test (before ++ x ∷ []) xs) y) (λ b y. test b y ≡ true → Among (picked test before (x ∷ xs)) y) (before ++ x ∷ []) xs
      (λ b y f e. among-right (if test before x then x ∷ [] else []) (picked test (before ++ x ∷ []) xs) y (f e)) (picked-among test (before ++ x ∷ []) xs),
)

pub picked-all : {A B : Type 0} (f : A → B) (test : List B → B → Bool) (R : B → Type 0) (before xs : List A) → AllAfter (λ b x. test (map f b) (f x) ≡ true → R (f x)) before xs
    → AllByRecursion R (picked test (map f before) (map f xs))
picked-all f test R before [] h = tt
picked-all {A} {B} f test R before (x ∷ xs) h =
    let more = picked-all f test R (before ++ x ∷ []) xs h.1 in
    step (test (map f before) (f x)) h.0 (picked test (map f before ++ f x ∷ []) (map f xs)) (subst (λ bs. AllByRecursion R (picked test bs (map f xs))) (map-append f before (x ∷ [])) more)
  where
    step : (t : Bool) → (t ≡ true → R (f x)) → (ys : List B) → AllByRecursion R ys → AllByRecursion R ((if t then f x ∷ [] else []) ++ ys)
    step true i ys k = (i refl, k)
    step false i ys k = k

-- what two tests pick that don't pick the same
pub picked-apart : {A : Type 0} (p q : List A → A → Bool) (before xs : List A) → ((b : List A) (x : A) → p b x ≡ true → q b x ≡ true → ⊥) → length (picked p before xs) + length (picked q before xs) ≤ length xs
picked-apart p q before [] apart = omega arith
picked-apart {A} p q before (x ∷ xs) apart =
    step (p before x) (q before x) (apart before x) (picked p (before ++ x ∷ []) xs) (picked q (before ++ x ∷ []) xs) (picked-apart p q (before ++ x ∷ []) xs apart)
  where
    step : (t u : Bool) → (t ≡ true → u ≡ true → ⊥) → (ys zs : List A) {n : ℕ} → length ys + length zs ≤ n
        → length ((if t then x ∷ [] else []) ++ ys) + length ((if u then x ∷ [] else []) ++ zs) ≤ suc n
    step true true never ys zs low = absurd (never refl refl)
    step true false never ys zs low = omega (arith, low)
    step false true never ys zs low = omega (arith, low)
    step false false never ys zs low = omega (arith, low)

-- Some element

pub any-at : {A B : Type 0} (f : A → B) (p : B → Bool) (xs : List A) (x : A) → Among xs x → p (f x) ≡ true → list_any p (map f xs) ≡ true
any-at f p [] x m e = absurd m
any-at f p (y ∷ ys) x m e = elim m [
  | inl same ↦ or_left (p (f y)) (list_any p (map f ys)) (ap (λ z. p (f z)) same ∙ e)
  | inr later ↦ or_right (p (f y)) (list_any p (map f ys)) (any-at f p ys x later e)
]

-- an element that passes, where some does
pub any-mapped : {A B : Type 0} (f : A → B) (p : B → Bool) (xs : List A) → list_any p (map f xs) ≡ true → (x : A) × Among xs x × (p (f x) ≡ true)
any-mapped f p [] e = absurd (both_ways false refl e)
any-mapped {A} f p (x ∷ xs) e =
    elim (p (f x)) as (λ t. p (f x) ≡ t → (t || list_any p (map f xs)) ≡ true → (y : A) × Among (x ∷ xs) y × (p (f y) ≡ true)) [
      | true ↦ λ is k. (x, inl refl, is)
      | false ↦ λ is k. let later = any-mapped f p xs k in (later.0, inr later.1, later.2)
    ] refl e

-- where some element passes a test
pub record Passes {A : Type 0} (p : A → Bool) (xs : List A) : Type 0 where
  pub one : A
  pub among : Among xs one
  pub passes : p one ≡ true

pub any-one : {A : Type 0} (p : A → Bool) (xs : List A) → list_any p xs ≡ true → Passes p xs
any-one p [] e = absurd (both_ways false refl e)
any-one {A} p (x ∷ xs) e =
    elim (p x) as (λ t. p x ≡ t → (t || list_any p xs) ≡ true → Passes p (x ∷ xs)) [
      | true ↦ λ is f. record { one = x; among = inl refl; passes = is }
      | false ↦ λ is f. let later = any-one p xs f in record { one = later.one; among = inr later.among; passes = later.passes }
    ] refl e
