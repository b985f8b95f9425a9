-- What each engine of a stack knows and was told, as the engines are called one after another.
use Rattle.std.proofs.Common.{◌≡◌, ◌≢◌, refl, sym, ap, subst, ◌∙◌, ℕ, zero, suc, ◌+◌, ◌<◌, ◌≤◌, Bool, true, false, List, [], ◌∷◌, ◌++◌, length, map, get_or, set, take, drop, arith, add-one, Result, Ok, Err}
use Rattle.std.specs.Prelude.{◌&&◌, OnErr}
use Rattle.std.specs.List.{list_all}
use Rattle.std.proofs.lemmas.List.{take_all, take-set}
use Rattle.delos_types.specs.Spaces.{SpaceMap}
use Rattle.engine_steps.specs.Hearing.{own, Each}

and_first : (a b : Bool) → (a && b) ≡ true → a ≡ true
and_first true b e = refl
and_first false b e = absurd (cc)

and_second : (a b : Bool) → (a && b) ≡ true → b ≡ true
and_second true b e = e
and_second false b e = absurd (cc)

and_both : (a b : Bool) → a ≡ true → b ≡ true → (a && b) ≡ true
and_both true b e f = f
and_both false b e f = absurd (cc)

-- the kinds rise, from this one on
abbrev pub RisesFrom : ℕ → List ℕ → Type 0
RisesFrom low [] = Unit {0}
RisesFrom low (k ∷ ks) = (low ≤ k) × RisesFrom (k + 1) ks

five_rise : RisesFrom 1 (1 ∷ 2 ∷ 3 ∷ 4 ∷ 5 ∷ [])
five_rise = (omega arith, (omega arith, (omega arith, (omega arith, (omega arith, tt)))))

pub rise_by : (kinds : List ℕ) → kinds ≡ 1 ∷ 2 ∷ 3 ∷ 4 ∷ 5 ∷ [] → RisesFrom 1 kinds
rise_by kinds e = subst (RisesFrom 1) (sym e) five_rise

-- What they know

-- an element of a list that passes a test passes it
pub all_at : {A : Type 0} (f : A → Bool) (xs : List A) (k : ℕ) (old : A) → list_all f xs ≡ true → k < length xs → old ≡ get_or xs k old → f old ≡ true
all_at f [] k old h low is = absurd (omega arith)
all_at f (x ∷ xs) zero old h low is = ap f is ∙ and_first (f x) (list_all f xs) h
all_at f (x ∷ xs) (suc k) old h low is = all_at f xs k old (and_second (f x) (list_all f xs) h) (omega arith) is

-- one element goes on passing it
pub all_set : {A : Type 0} (f : A → Bool) (xs : List A) (k : ℕ) (new : A) → list_all f xs ≡ true → f new ≡ true → list_all f (set xs k new) ≡ true
all_set f [] k new h one = refl
all_set f (x ∷ xs) zero new h one = and_both (f new) (list_all f xs) one (and_second (f x) (list_all f xs) h)
all_set f (x ∷ xs) (suc k) new h one = and_both (f x) (list_all f (set xs k new)) (and_first (f x) (list_all f xs) h) (all_set f xs k new (and_second (f x) (list_all f xs) h) one)

-- one more of the first elements passes it
pub first_set : {A : Type 0} (f : A → Bool) (xs : List A) (k : ℕ) (new : A) → list_all f (take k xs) ≡ true → f new ≡ true → list_all f (take (k + 1) (set xs k new)) ≡ true
first_set {A = A} f xs k new h one = subst (λ (n : ℕ). list_all f (take n (set xs k new)) ≡ true) (sym (add-one k)) (upto xs k h)
  where
    upto : (ys : List A) (n : ℕ) → list_all f (take n ys) ≡ true → list_all f (take (suc n) (set ys n new)) ≡ true
    upto [] n h = refl
    upto (y ∷ ys) zero h = and_both (f new) true one refl
    upto (y ∷ ys) (suc n) h = and_both (f y) (list_all f (take (suc n) (set ys n new))) (and_first (f y) (list_all f (take n ys)) h) (upto ys n (and_second (f y) (list_all f (take n ys)) h))

pub first_all : {A : Type 0} (f : A → Bool) (xs : List A) (k : ℕ) → length xs ≤ k → list_all f (take k xs) ≡ true → list_all f xs ≡ true
first_all {A = A} f xs k most h = subst (λ (l : List A). list_all f l ≡ true) (take_all k xs most) h

-- .. and those before one go on passing it, as it changes
pub before_set : {A : Type 0} (f : A → Bool) (xs : List A) (k : ℕ) (new : A) → list_all f (take k xs) ≡ true → list_all f (take k (set xs k new)) ≡ true
before_set {A = A} f xs k new h = subst (λ (l : List A). list_all f l ≡ true) (sym (take-set xs k new)) h

-- those behind it are as they were
behind_by : {A : Type 0} (xs : List A) (k : ℕ) → drop (suc k) xs ≡ drop 1 (drop k xs)
behind_by [] zero = refl
behind_by [] (suc k) = refl
behind_by (x ∷ xs) zero = refl
behind_by (x ∷ xs) (suc k) = behind_by xs k

set_behind : {A : Type 0} (xs : List A) (k : ℕ) (new : A) → drop (suc k) (set xs k new) ≡ drop (suc k) xs
set_behind [] k new = refl
set_behind (x ∷ xs) zero new = refl
set_behind (x ∷ xs) (suc k) new = set_behind xs k new

pub behind_set : {A : Type 0} (xs ys : List A) (k : ℕ) (new : A) → drop k xs ≡ drop k ys → drop (k + 1) (set xs k new) ≡ drop (k + 1) ys
behind_set xs ys k new e =
    ap (λ n. drop n (set xs k new)) (add-one k) ∙ set_behind xs k new ∙ behind_by xs k ∙ ap (drop 1) e ∙ sym (behind_by ys k) ∙ ap (λ n. drop n ys) (sym (add-one k))

-- as they are told where the next one wants memory
pub loaded_below : {A X E : Type 0} (r : Result X E) (f : A → Bool) (now before : List A) (n : ℕ) → list_all f (take n now) ≡ true → drop (n + 1) now ≡ drop (n + 1) before → OnErr r ((k : ℕ) × (list_all f (take k now) ≡ true) × (drop (k + 1) now ≡ drop (k + 1) before))
loaded_below (Ok x) f now before n h e = tt
loaded_below (Err x) f now before n h e = (n, h, e)

-- each knows what a space has of its kind
abbrev pub knows_own : {A : Type 0} → (A → ℕ) → (A → SpaceMap → Bool) → SpaceMap → A → Bool
knows_own kind knows m x = knows x (own (kind x) m)

-- where what a space has of other kinds than n stays, those of higher kinds go on knowing theirs
others_know : {A : Type 0} (kind : A → ℕ) (knows : A → SpaceMap → Bool) (m m' : SpaceMap) (n : ℕ) → ((j : ℕ) → j ≢ n → own j m' ≡ own j m) → (xs : List A) (low : ℕ) → n < low → RisesFrom low (map kind xs) → list_all (knows_own kind knows m) xs ≡ true → list_all (knows_own kind knows m') xs ≡ true
others_know kind knows m m' n stays [] low above rises h = refl
others_know kind knows m m' n stays (x ∷ xs) low above rises h =
    let ne : kind x ≢ n = λ e. absurd (omega (arith, rises.0)) in
    and_both _ _ (ap (knows x) (stays (kind x) ne) ∙ and_first _ _ h) (others_know kind knows m m' n stays xs (kind x + 1) (omega (arith, rises.0)) rises.1 (and_second _ _ h))

-- the kind of one of these
at_least : {A : Type 0} (kind : A → ℕ) (xs : List A) (low k : ℕ) (old : A) → RisesFrom low (map kind xs) → k < length xs → old ≡ get_or xs k old → low ≤ kind old
at_least kind [] low k old rises h is = absurd (omega arith)
at_least kind (x ∷ xs) low zero old rises h is = subst (λ (n : ℕ). low ≤ n) (sym (ap kind is)) rises.0
at_least kind (x ∷ xs) low (suc k) old rises h is = let more : kind x + 1 ≤ kind old = at_least kind xs (kind x + 1) k old rises.1 (omega arith) is in omega (arith, rises.0)

-- one engine changes what is of its kind, and goes on knowing it
pub known_set : {A : Type 0} (kind : A → ℕ) (knows : A → SpaceMap → Bool) (m m' : SpaceMap) (xs : List A) (low k : ℕ) (old new : A) → RisesFrom low (map kind xs) → list_all (knows_own kind knows m) xs ≡ true → k < length xs → old ≡ get_or xs k old → ((j : ℕ) → j ≢ kind old → own j m' ≡ own j m) → knows_own kind knows m' new ≡ true → list_all (knows_own kind knows m') (set xs k new) ≡ true
known_set kind knows m m' [] low k old new rises h lt is stays one = refl
known_set kind knows m m' (x ∷ xs) low zero old new rises h lt is stays one =
    and_both _ _ one (others_know kind knows m m' (kind old) stays xs (kind x + 1) (let same : kind old ≡ kind x = ap kind is in omega arith) rises.1 (and_second _ _ h))
known_set kind knows m m' (x ∷ xs) low (suc k) old new rises h lt is stays one =
    let more : kind x + 1 ≤ kind old = at_least kind xs (kind x + 1) k old rises.1 (omega arith) is in
    let ne : kind x ≢ kind old = λ e. absurd (omega arith) in
    and_both _ _ (ap (knows x) (stays (kind x) ne) ∙ and_first _ _ h) (known_set kind knows m m' xs (kind x + 1) k old new rises.1 (and_second _ _ h) (omega arith) is stays one)

-- one engine goes on knowing what it knew
pub kept_set : {A : Type 0} (kind : A → ℕ) (knows : A → SpaceMap → Bool) (m : SpaceMap) (xs : List A) (k : ℕ) (old new : A) → list_all (knows_own kind knows m) xs ≡ true → k < length xs → old ≡ get_or xs k old → kind new ≡ kind old → ((space : SpaceMap) → knows old space ≡ true → knows new space ≡ true) → list_all (knows_own kind knows m) (set xs k new) ≡ true
kept_set kind knows m xs k old new h lt is same goes_on =
    all_set (knows_own kind knows m) xs k new h (ap (λ (n : ℕ). knows new (own n m)) same ∙ goes_on (own (kind old) m) (all_at (knows_own kind knows m) xs k old h lt is))

-- a kind is one of the five
pub of_five : (kinds : List ℕ) → kinds ≡ 1 ∷ 2 ∷ 3 ∷ 4 ∷ 5 ∷ [] → (k : ℕ) → k < length kinds → (n : ℕ) → n ≡ get_or kinds k 0 → (1 ≤ n) × (n ≤ 5)
of_five kinds five k low n at = subst (λ (v : ℕ). (1 ≤ v) × (v ≤ 5)) (sym (at ∙ ap (λ (l : List ℕ). get_or l k 0) five)) (each k (subst (λ (l : List ℕ). k < length l) five low))
  where
    each : (j : ℕ) → j < 5 → (1 ≤ get_or (1 ∷ 2 ∷ 3 ∷ 4 ∷ 5 ∷ []) j 0) × (get_or (1 ∷ 2 ∷ 3 ∷ 4 ∷ 5 ∷ []) j 0 ≤ 5)
    each zero h = (omega arith, omega arith)
    each (suc zero) h = (omega arith, omega arith)
    each (suc (suc zero)) h = (omega arith, omega arith)
    each (suc (suc (suc zero))) h = (omega arith, omega arith)
    each (suc (suc (suc (suc zero)))) h = (omega arith, omega arith)
    each (suc (suc (suc (suc (suc j))))) h = absurd (omega arith)

-- What they were told

-- one of them goes on as it was told
pub each_set : {A B : Type 0} (P : A → B → Type 0) (xs : List A) (hs : List B) (k : ℕ) (old new : A) → k < length xs → old ≡ get_or xs k old → ((h : B) → P old h → P new h) → Each P xs hs → Each P (set xs k new) hs
each_set P [] hs k old new lt is goes_on each = absurd (omega arith)
each_set P (x ∷ xs) [] k old new lt is goes_on each = absurd each
each_set {A = A} P (x ∷ xs) (h ∷ hs) zero old new lt is goes_on each = (goes_on h (subst (λ (y : A). P y h) (sym is) each.0), each.1)
each_set P (x ∷ xs) (h ∷ hs) (suc k) old new lt is goes_on each = (each.0, each_set P xs hs k old new (omega arith) is goes_on each.1)

-- the first k of them were told one thing more
abbrev pub told_first : {B : Type 0} → (B → B) → ℕ → List B → List B
told_first f zero hs = hs
told_first f (suc k) [] = []
told_first f (suc k) (h ∷ hs) = f h ∷ told_first f k hs

-- one more of them is told
pub each_told : {A B : Type 0} (P : A → B → Type 0) (f : B → B) (xs : List A) (hs : List B) (k : ℕ) (old new : A) → k < length xs → old ≡ get_or xs k old → ((h : B) → P old h → P new (f h)) → Each P xs (told_first f k hs) → Each P (set xs k new) (told_first f (k + 1) hs)
each_told {A = A} {B = B} P f xs hs k old new lt is goes_on each = subst (λ (n : ℕ). Each P (set xs k new) (told_first f n hs)) (sym (add-one k)) (one xs hs k lt is each)
  where
    one : (ys : List A) (gs : List B) (n : ℕ) → n < length ys → old ≡ get_or ys n old → Each P ys (told_first f n gs) → Each P (set ys n new) (told_first f (suc n) gs)
    one [] gs n lt is each = absurd (omega arith)
    one (y ∷ ys) [] zero lt is each = absurd each
    one (y ∷ ys) [] (suc n) lt is each = absurd each
    one (y ∷ ys) (g ∷ gs) zero lt is each = (goes_on g (subst (λ (z : A). P z g) (sym is) each.0), each.1)
    one (y ∷ ys) (g ∷ gs) (suc n) lt is each = (each.0, one ys gs n (omega arith) is each.1)

-- all of them were told
pub each_all : {A B : Type 0} (P : A → B → Type 0) (f : B → B) (xs : List A) (hs : List B) (k : ℕ) → length xs ≤ k → Each P xs (told_first f k hs) → Each P xs (map f hs)
each_all P f [] [] k most each = tt
each_all P f [] (h ∷ hs) zero most each = absurd each
each_all P f [] (h ∷ hs) (suc k) most each = absurd each
each_all P f (x ∷ xs) hs zero most each = absurd (omega arith)
each_all P f (x ∷ xs) [] (suc k) most each = absurd each
each_all P f (x ∷ xs) (h ∷ hs) (suc k) most each = (each.0, each_all P f xs hs k (omega arith) each.1)
