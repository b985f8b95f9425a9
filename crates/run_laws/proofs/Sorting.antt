-- Lists in a strict order: one more put in its place, and two with the same members.
use Rattle.std.proofs.Common.{◌≡◌, refl, sym, ap, ◌∙◌, subst, inl, inr, ◌⊎◌, List, [], ◌∷◌, map, fold, Ordering, Less, Equal, Greater}
use Rattle.std.specs.List.{AllByRecursion}
use Rattle.std.specs.Cmp.{IsTotalOrder}
use Rattle.std.specs.Ordering.{ordering_reverse}
use Rattle.std.specs.FinMap as finmap
use Rattle.std.specs.FinMap.Entries.{by_order}
use Rattle.std.proofs.lemmas.Cmp.{tied_itself}
use Rattle.log_laws.specs.Order.{EachPair}
use Rattle.log_laws.proofs.Pairs.{all-imply}
use Rattle.run_laws.proofs.Members.{Among, AllAmong, all-at}
use Rattle.run_laws.proofs.Pairs.{pair-at}

-- each is lower than those behind it
abbrev pub IsSorted : {A : Type 0} → (A → A → Ordering) → List A → Type 0
IsSorted R xs = EachPair (λ x y. R x y ≡ Less) xs

-- as key and value
abbrev pub twin : {A : Type 0} → A → A × A
twin a = (a, a)

not_less_equal : Less ≡ Equal → ⊥
not_less_equal e = cc

module _ {A : Type 0} (R : A → A → Ordering) (o : IsTotalOrder R) where
  never_below_itself : (x : A) → R x x ≡ Less → ⊥
  never_below_itself x e = not_less_equal (sym e ∙ tied_itself o x)

  below_not_back : (x y : A) → R x y ≡ Less → R y x ≡ Less → ⊥
  below_not_back x y e f = never_below_itself x (o.trans x y x e f)

  tied-same : (xs : List A) (x y : A) → IsSorted R xs → Among xs x → Among xs y → R x y ≡ Equal → x ≡ y
  tied-same xs x y h m n e = elim (pair-at (λ x y. R x y ≡ Less) xs x y h m n) [
    | inl same ↦ same
    | inr apart ↦ elim apart [
      | inl below ↦ absurd (not_less_equal (sym below ∙ e))
      | inr above ↦ absurd (never_below_itself x (o.congr x y x e ∙ above))
    ]
  ]

  -- one more in its place
  abbrev into : A → List A → List A
  into a [] = a ∷ []
  into a (x ∷ xs) = by_order (R a x) (a ∷ x ∷ xs) (a ∷ xs) (x ∷ into a xs)

  -- of these none but a itself is tied with a
  abbrev Exact : A → List A → Type 0
  Exact a xs = AllByRecursion (λ x. R a x ≡ Equal → a ≡ x) xs

  put-into : (a : A) (xs : List A) → Exact a xs → finmap.put R a a (map twin xs) ≡ map twin (into a xs)
  put-into a [] h = refl
  put-into a (x ∷ xs) h =
      elim (R a x) as (λ r. R a x ≡ r → by_order r (twin a ∷ twin x ∷ map twin xs) ((x, a) ∷ map twin xs) (twin x ∷ finmap.put R a a (map twin xs)) ≡ map twin (by_order r (a ∷ x ∷ xs) (a ∷ xs) (x ∷ into a xs))) [
        | Less ↦ λ e. refl
        | Equal ↦ λ e. ap (λ y. (y, a) ∷ map twin xs) (sym (h.0 e))
        | Greater ↦ λ e. ap (λ l. twin x ∷ l) (put-into a xs h.1)
      ] refl

  into-all : (P : A → Type 0) (a : A) (xs : List A) → P a → AllByRecursion P xs → AllByRecursion P (into a xs)
  into-all P a [] e h = (e, tt)
  into-all P a (x ∷ xs) e h =
      elim (R a x) as (λ r. AllByRecursion P (by_order r (a ∷ x ∷ xs) (a ∷ xs) (x ∷ into a xs))) [
        | Less ↦ (e, h)
        | Equal ↦ (e, h.1)
        | Greater ↦ (h.0, into-all P a xs e h.1)
      ]

  into-sorted : (a : A) (xs : List A) → IsSorted R xs → IsSorted R (into a xs)
  into-sorted a [] h = (tt, tt)
  into-sorted a (x ∷ xs) h =
      elim (R a x) as (λ r. R a x ≡ r → IsSorted R (by_order r (a ∷ x ∷ xs) (a ∷ xs) (x ∷ into a xs))) [
        | Less ↦ λ e. ((e, all-imply (λ y. R x y ≡ Less) (λ y. R a y ≡ Less) xs (λ y l. o.trans a x y e l) h.0), h)
        | Equal ↦ λ e. (all-imply (λ y. R x y ≡ Less) (λ y. R a y ≡ Less) xs (λ y l. o.congr a x y e ∙ l) h.0, h.1)
        | Greater ↦ λ e. (into-all (λ y. R x y ≡ Less) a xs (o.antisymm x a ∙ ap ordering_reverse e) h.0, into-sorted a xs h.1)
      ] refl

  into-new : (a : A) (xs : List A) → Among (into a xs) a
  into-new a [] = inl refl
  into-new a (x ∷ xs) =
      elim (R a x) as (λ r. Among (by_order r (a ∷ x ∷ xs) (a ∷ xs) (x ∷ into a xs)) a) [
        | Less ↦ inl refl
        | Equal ↦ inl refl
        | Greater ↦ inr (into-new a xs)
      ]

  into-old : (a y : A) (xs : List A) → Exact a xs → Among xs y → Among (into a xs) y
  into-old a y [] h m = absurd m
  into-old a y (x ∷ xs) h m =
      elim (R a x) as (λ r. R a x ≡ r → Among (by_order r (a ∷ x ∷ xs) (a ∷ xs) (x ∷ into a xs)) y) [
        | Less ↦ λ e. inr m
        | Equal ↦ λ e. elim m [ inl f ↦ inl (h.0 e ∙ f) | inr later ↦ inr later ]
        | Greater ↦ λ e. elim m [ inl f ↦ inl f | inr later ↦ inr (into-old a y xs h.1 later) ]
      ] refl

  -- Each put in its place: members of a list in strict order

  exact : (all : List A) (a : A) (xs : List A) → IsSorted R all → Among all a → AllAmong all xs → Exact a xs
  exact all a xs h m k = all-imply (Among all) (λ x. R a x ≡ Equal → a ≡ x) xs (λ x n e. tied-same all a x h m n e) k

  abbrev into_all : List A → List A → List A
  into_all done xs = fold (λ d a. into a d) done xs

  put-all : (all done xs : List A) → IsSorted R all → AllAmong all done → AllAmong all xs → fold (λ es a. finmap.put R a a es) (map twin done) xs ≡ map twin (into_all done xs)
  put-all all done [] h d m = refl
  put-all all done (x ∷ xs) h d m =
      ap (λ es. fold (λ es a. finmap.put R a a es) es xs) (put-into x done (exact all x done h m.0 d))
      ∙ put-all all (into x done) xs h (into-all (Among all) x done m.0 d) m.1

  into_all-all : (P : A → Type 0) (done xs : List A) → AllByRecursion P done → AllByRecursion P xs → AllByRecursion P (into_all done xs)
  into_all-all P done [] d h = d
  into_all-all P done (x ∷ xs) d h = into_all-all P (into x done) xs (into-all P x done h.0 d) h.1

  into_all-sorted : (done xs : List A) → IsSorted R done → IsSorted R (into_all done xs)
  into_all-sorted done [] h = h
  into_all-sorted done (x ∷ xs) h = into_all-sorted (into x done) xs (into-sorted x done h)

  into_all-has : (all done xs : List A) (y : A) → IsSorted R all → AllAmong all done → AllAmong all xs → Among done y ⊎ Among xs y → Among (into_all done xs) y
  into_all-has all done [] y h d m e = elim e [ inl n ↦ n | inr n ↦ absurd n ]
  into_all-has all done (x ∷ xs) y h d m e =
      into_all-has all (into x done) xs y h (into-all (Among all) x done m.0 d) m.1 (elim e [
        | inl n ↦ inl (into-old x y done (exact all x done h m.0 d) n)
        | inr n ↦ elim n [ inl f ↦ inl (subst (Among (into x done)) f (into-new x done)) | inr later ↦ inr later ]
      ])

  -- Two lists in strict order with the same members

  rest-among : (x : A) (xs ys : List A) → IsSorted R (x ∷ xs) → AllAmong (x ∷ ys) xs → AllAmong ys xs
  rest-among x [] ys h m = tt
  rest-among x (z ∷ zs) ys h m = (
    elim m.0 [
      | inl e ↦ absurd (never_below_itself x (subst (λ w. R x w ≡ Less) (sym e) h.0.0))
      | inr later ↦ later
    ],
    rest-among x zs ys (h.0.1, h.1.1) m.1,
  )

  pub same-members : (xs ys : List A) → IsSorted R xs → IsSorted R ys → AllAmong ys xs → AllAmong xs ys → xs ≡ ys
  same-members [] [] h k m n = refl
  same-members [] (y ∷ ys) h k m n = absurd n.0
  same-members (x ∷ xs) [] h k m n = absurd m.0
  same-members (x ∷ xs) (y ∷ ys) h k m n =
      let heads : y ≡ x = elim m.0 [
        | inl e ↦ e
        | inr x_later ↦ elim n.0 [
          | inl e ↦ sym e
          | inr y_later ↦ absurd (below_not_back x y (all-at (λ z. R x z ≡ Less) xs y h.0 y_later) (all-at (λ z. R y z ≡ Less) ys x k.0 x_later))
        ]
      ] in
      let rests : xs ≡ ys = same-members xs ys h.1 k.1
      (rest-among x xs ys h (subst (λ z. AllAmong (z ∷ ys) xs) heads m.1))
      (rest-among y ys xs k (subst (λ z. AllAmong (z ∷ xs) ys) (sym heads) n.1)) in
      ap (λ z. z ∷ xs) (sym heads) ∙ ap (λ l. y ∷ l) rests

  -- members of a list in strict order, put in their places, all of them
  pub put-sorted : (all xs : List A) → IsSorted R all → AllAmong all xs → AllAmong xs all → fold (λ es a. finmap.put R a a es) [] xs ≡ map twin all
  put-sorted all xs h m n =
      put-all all [] xs h tt m
      ∙ ap (map twin) (same-members (into_all [] xs) all (into_all-sorted [] xs tt) h (into_all-all (Among all) [] xs tt m)
      (all-imply (Among xs) (Among (into_all [] xs)) all (λ y k. into_all-has all [] xs y h tt m (inr k)) n))
