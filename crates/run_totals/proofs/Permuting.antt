-- Acts that stand apart, put in order, are the same acts.
use Rattle.std.proofs.Common.{◌≡◌, refl, ◌∙◌, ℕ, ◌+◌, List, [], ◌∷◌, map, fold, sum_by, Less, Equal, Greater, arith}
use Rattle.std.specs.FinMap as finmap
use Rattle.std.specs.FinMap.Entries.{by_order}
use Rattle.std.specs.List.{AllByRecursion}
use Rattle.std.proofs.lemmas.List.Sums.{sum_by-cons}
use Rattle.engine_api.specs.declared.act.Act.{Act}
use Rattle.fitting_run.specs.Acts.{act_order, in_order}

abbrev pub IsApart : Act → Act → Type 0
IsApart a b = act_order a b ≡ Equal → ⊥

-- each is apart from those before it
abbrev pub AllApart : List Act → Type 0
AllApart [] = Unit {0}
AllApart (x ∷ xs) = AllByRecursion (λ y. IsApart y x) xs × AllApart xs

-- an act with the one whose place it keeps
abbrev Kept : Type 0
Kept = Act × Act

abbrev acts_of : List Kept → List Act
acts_of es = map (λ e. e.1) es

abbrev put_all : List Kept → List Act → List Kept
put_all es xs = fold (λ es a. finmap.put act_order a a es) es xs

-- What holds of each

module _ (P : Act → Type 0) where
  all-put : (a : Act) (es : List Kept) → P a → AllByRecursion (λ e. P e.1) es → AllByRecursion (λ e. P e.1) (finmap.put act_order a a es)
  all-put a [] h all = (h, tt)
  all-put a (e ∷ es) h all =
      elim (act_order a e.0) as (λ o. AllByRecursion (λ e. P e.1) (by_order o ((a, a) ∷ e ∷ es) ((e.0, a) ∷ es) (e ∷ finmap.put act_order a a es))) [
        | Less ↦ (h, all)
        | Equal ↦ (h, all.1)
        | Greater ↦ (all.0, all-put a es h all.1)
      ]

  all-put_all : (es : List Kept) (xs : List Act) → AllByRecursion (λ e. P e.1) es → AllByRecursion P xs → AllByRecursion (λ e. P e.1) (put_all es xs)
  all-put_all es [] all h = all
  all-put_all es (x ∷ xs) all h = all-put_all (finmap.put act_order x x es) xs (all-put x es h.0 all) h.1

  all-acts_of : (es : List Kept) → AllByRecursion (λ e. P e.1) es → AllByRecursion P (acts_of es)
  all-acts_of [] all = tt
  all-acts_of (e ∷ es) all = (all.0, all-acts_of es all.1)

  pub all-in_order : (xs : List Act) → AllByRecursion P xs → AllByRecursion P (in_order xs)
  all-in_order xs h = all-acts_of (put_all [] xs) (all-put_all [] xs tt h)

-- Acts apart from those that are kept

abbrev ApartFrom : List Kept → Act → Type 0
ApartFrom es y = AllByRecursion (λ e. IsApart y e.0) es

apart-put : (y a : Act) (es : List Kept) → IsApart y a → ApartFrom es y → ApartFrom (finmap.put act_order a a es) y
apart-put y a [] h all = (h, tt)
apart-put y a (e ∷ es) h all =
    elim (act_order a e.0) as (λ o. ApartFrom (by_order o ((a, a) ∷ e ∷ es) ((e.0, a) ∷ es) (e ∷ finmap.put act_order a a es)) y) [
      | Less ↦ (h, all)
      | Equal ↦ all
      | Greater ↦ (all.0, apart-put y a es h all.1)
    ]

all-apart-put : (a : Act) (es : List Kept) (ys : List Act) → AllByRecursion (λ y. IsApart y a) ys → AllByRecursion (ApartFrom es) ys → AllByRecursion (ApartFrom (finmap.put act_order a a es)) ys
all-apart-put a es [] h all = tt
all-apart-put a es (y ∷ ys) h all = (apart-put y a es h.0 all.0, all-apart-put a es ys h.1 all.1)

-- Sums

module _ (f : Act → ℕ) where
  sum-put : (a : Act) (es : List Kept) → ApartFrom es a → sum_by f (acts_of (finmap.put act_order a a es)) ≡ f a + sum_by f (acts_of es)
  sum-put a [] h = sum_by-cons f a []
  sum-put a (e ∷ es) h =
      elim (act_order a e.0) as (λ o. act_order a e.0 ≡ o → sum_by f (acts_of (by_order o ((a, a) ∷ e ∷ es) ((e.0, a) ∷ es) (e ∷ finmap.put act_order a a es))) ≡ f a + sum_by f (acts_of (e ∷ es))) [
        | Less ↦ λ low. sum_by-cons f a (acts_of (e ∷ es))
        | Equal ↦ λ tie. absurd (h.0 tie)
        | Greater ↦ λ high.
            let rest = sum-put a es h.1 in
            omega (arith, sum_by-cons f e.1 (acts_of (finmap.put act_order a a es)), sum_by-cons f e.1 (acts_of es))
      ] refl

  sum-put_all : (es : List Kept) (xs : List Act) → AllByRecursion (ApartFrom es) xs → AllApart xs → sum_by f (acts_of (put_all es xs)) ≡ sum_by f (acts_of es) + sum_by f xs
  sum-put_all es [] h apart = omega arith
  sum-put_all es (x ∷ xs) h apart =
      let rest = sum-put_all (finmap.put act_order x x es) xs (all-apart-put x es xs apart.0 h.1) apart.1 in
      omega (arith, sum-put x es h.0, sum_by-cons f x xs)

  from_nothing : (xs : List Act) → AllByRecursion (ApartFrom []) xs
  from_nothing [] = tt
  from_nothing (x ∷ xs) = (tt, from_nothing xs)

  -- each of them counts once
  pub sum-in_order : (xs : List Act) → AllApart xs → sum_by f (in_order xs) ≡ sum_by f xs
  sum-in_order xs apart = sum-put_all [] xs (from_nothing xs) apart ∙ (let same : 0 + sum_by f xs ≡ sum_by f xs = omega arith in same)
