-- What comes in turn acts where it stands.
use Rattle.std.proofs.Common.{◌≡◌, refl, sym, ap, subst, ◌∙◌, ℕ, ◌+◌, ◌-◌, ◌<◌, ◌≤◌, Bool, true, false, cond, List, [], ◌∷◌, ◌++◌, Option, Some, None, arith, is_some, zero-add}
use Rattle.std.specs.Prelude.{◌==◌, ◌&&◌, ◌||◌, nat_lt, filter_map}
use Rattle.std.specs.List.{cons_option}
use Rattle.std.specs.Option.{option_map, option_or}
use Rattle.std.proofs.lemmas.Bool.Decides.{nat_tests}
use Rattle.std.proofs.lemmas.List.Folds.{find-append}
use Rattle.std.proofs.lemmas.List.Sums.{sum_by-append}
use Rattle.engine_api.specs.declared.appearance.Appearance.{Appearance}
use Rattle.engine_api.specs.Order.{first_of, gap_from, act_at, numbers, acts_of, acted_after, acted_from, count_of, in_turn_after, in_turn}
use Rattle.engine_api.proofs.Gaps.{gap_from-is}

-- the ranks that appear from the start on are as many as the session has
pub record Covers {C : Type 0} (start : ℕ → ℕ) (before : List (Appearance C)) : Type 0 where
  pub at : (s q : ℕ) → start s ≤ q → is_some (first_of before s q) ≡ nat_lt q (start s + count_of before s)

covers-none : {C : Type 0} (start : ℕ → ℕ) → Covers {C = C} start []
covers-none start = record { at = λ s q low. let t : nat_lt q (start s + 0) ≡ false = grind (arith, nat_tests) in sym t }

left_true : (a b : Bool) → (a && b) ≡ true → a ≡ true
left_true true b e = refl
left_true false b e = e

right_true : (a b : Bool) → (a && b) ≡ true → b ≡ true
right_true true b e = e
right_true false b e = absurd (cc)

same_number : (a b : ℕ) → (a == b) ≡ true → a ≡ b
same_number a b e = grind (arith, nat_tests)

is_some-or : {A : Type 0} (o p : Option A) → is_some (option_or o p) ≡ (is_some o || is_some p)
is_some-or None p = refl
is_some-or (Some x) p = refl

is_some-one : {A : Type 0} (b : Bool) (x : A) → is_some (cond b (Some x) None) ≡ b
is_some-one true x = refl
is_some-one false x = refl

first_of-push : {C : Type 0} (before : List (Appearance C)) (x : Appearance C) (s q : ℕ) → is_some (first_of (before ++ x ∷ []) s q) ≡ (is_some (first_of before s q) || ((x.session == s) && (x.rank == q)))
first_of-push before x s q =
    ap is_some (find-append (λ y. (y.session == s) && (y.rank == q)) before (x ∷ [])) ∙ is_some-or (first_of before s q) _
    ∙ ap (λ b. is_some (first_of before s q) || b) (is_some-one ((x.session == s) && (x.rank == q)) x)

count_of-push : {C : Type 0} (before : List (Appearance C)) (x : Appearance C) (s : ℕ) → count_of (before ++ x ∷ []) s ≡ count_of before s + cond (x.session == s) 1 0
count_of-push before x s =
    sum_by-append (λ (y : Appearance _). cond (y.session == s) 1 0) before (x ∷ []) ∙ ap (λ n. count_of before s + n) (zero-add (cond (x.session == s) 1 0))

-- one more rank is covered
one_more : (own : Bool) (low rank q : ℕ) → (own ≡ true → rank ≡ low) → (nat_lt q low || (own && (rank == q))) ≡ nat_lt q (low + cond own 1 0)
one_more true low rank q is = let same : rank ≡ low = is refl in grind (arith, nat_tests)
one_more false low rank q is = grind (arith, nat_tests)

covers-push : {C : Type 0} (start : ℕ → ℕ) (before : List (Appearance C)) (x : Appearance C) → x.rank ≡ start x.session + count_of before x.session → Covers start before → Covers start (before ++ x ∷ [])
covers-push start before x next h = record {
  at = λ s q low.
      first_of-push before x s q ∙ ap (λ b. b || ((x.session == s) && (x.rank == q))) (h.at s q low)
      ∙ one_more (x.session == s) (start s + count_of before s) x.rank q (λ e. subst (λ z. x.rank ≡ start z + count_of before z) (same_number x.session s e) next)
      ∙ ap (nat_lt q) (add_assoc' (start s) (count_of before s) (cond (x.session == s) 1 0) ∙ ap (λ n. start s + n) (sym (count_of-push before x s)));
}
  where
    add_assoc' : (a b c : ℕ) → a + b + c ≡ a + (b + c)
    add_assoc' a b c = omega arith

true_at : {C : Type 0} (start : ℕ → ℕ) (xs : List (Appearance C)) (s q : ℕ) → Covers start xs → start s ≤ q → q < start s + count_of xs s → is_some (first_of xs s q) ≡ true
true_at start xs s q h low below = h.at s q low ∙ (let t : nat_lt q (start s + count_of xs s) ≡ true = grind (arith, nat_tests) in t)

false_at : {C : Type 0} (start : ℕ → ℕ) (xs : List (Appearance C)) (s q : ℕ) → Covers start xs → start s + count_of xs s ≤ q → is_some (first_of xs s q) ≡ false
false_at start xs s q h above = h.at s q (omega arith) ∙ (let t : nat_lt q (start s + count_of xs s) ≡ false = grind (arith, nat_tests) in t)

pub gap-covers : {C : Type 0} (start : ℕ → ℕ) (xs : List (Appearance C)) (s : ℕ) → Covers start xs → gap_from xs s (start s) ≡ start s + count_of xs s
gap-covers start xs s h =
    gap_from-is xs s (start s) (start s + count_of xs s) (omega arith) (λ q low below. true_at start xs s q h low below) (false_at start xs s _ h (omega arith))

none_is : {A : Type 0} (o : Option A) → is_some o ≡ false → o ≡ None
none_is None e = refl
none_is (Some x) e = absurd (cc)

same_is_true : (a : ℕ) → (a == a) ≡ true
same_is_true a = grind (arith, nat_tests)

-- the rank that is next is found where it stands
found : {C : Type 0} (before : List (Appearance C)) (x : Appearance C) (q : ℕ) → x.rank ≡ q → is_some (first_of before x.session q) ≡ false → first_of (before ++ x ∷ []) x.session q ≡ Some x
found before x q own gone =
    find-append (λ y. (y.session == x.session) && (y.rank == q)) before (x ∷ [])
    ∙ ap (λ o. option_or o (cond ((x.session == x.session) && (x.rank == q)) (Some x) None)) (none_is _ gone)
    ∙ ap (λ b. cond (b && (x.rank == q)) (Some x) None) (same_is_true x.session)
    ∙ ap (λ b. cond b (Some x) None) (subst (λ r. (r == q) ≡ true) (sym own) (same_is_true q))

whole : {C : Type 0} (x : Appearance C) (q : ℕ) → x.rank ≡ q → record { place = x.place; session = x.session; rank = q; command = x.command } ≡ x
whole x q own = ap (λ r. record { place = x.place; session = x.session; rank = r; command = x.command }) (sym own)

acts_of-next : {C : Type 0} (start : ℕ → ℕ) (before : List (Appearance C)) (x : Appearance C) → x.rank ≡ start x.session + count_of before x.session → Covers start before → acts_of start before x ≡ x ∷ []
acts_of-next {C} start before x next h =
    let xs = before ++ x ∷ [] in
    let g = start x.session + count_of before x.session in
    let from : gap_from before x.session (start x.session) ≡ g = gap-covers start before x.session h in
    let to : gap_from xs x.session (start x.session) ≡ g + 1 =
    gap-covers start xs x.session (covers-push start before x next h) ∙ ap (λ n. start x.session + n) (count_of-push before x x.session ∙ ap (λ b. count_of before x.session + cond b 1 0) (same_is_true x.session))
    ∙ (let e : start x.session + (count_of before x.session + 1) ≡ g + 1 = omega arith in e) in
    let gone : is_some (first_of before x.session g) ≡ false = false_at start before x.session g h (omega arith) in
    let here : act_at xs x g ≡ Some x = ap (option_map (λ (f : Appearance C). record { place = x.place; session = x.session; rank = g; command = f.command })) (found before x g next gone) ∙ ap Some (whole x g next) in
    ap (λ n. filter_map (act_at xs x) (numbers n (gap_from xs x.session (start x.session) - n))) from
    ∙ ap (λ n. filter_map (act_at xs x) (numbers g n)) (let e : gap_from xs x.session (start x.session) - g ≡ 1 = omega (arith, to) in e)
    ∙ ap (λ o. cons_option o []) here

acted-in_turn_after : {C : Type 0} (start : ℕ → ℕ) (before xs : List (Appearance C)) → Covers start before → in_turn_after start before xs ≡ true → acted_after start before xs ≡ xs
acted-in_turn_after start before [] h e = refl
acted-in_turn_after start before (x ∷ xs) h e =
    let next : x.rank ≡ start x.session + count_of before x.session = same_number _ _ (left_true _ _ e) in
    ap (λ l. l ++ acted_after start (before ++ x ∷ []) xs) (acts_of-next start before x next h)
    ∙ ap (λ l. x ∷ l) (acted-in_turn_after start (before ++ x ∷ []) xs (covers-push start before x next h) (right_true _ _ e))

-- what comes in turn acts where it stands
pub acted_from-in_turn : {C : Type 0} (start : ℕ → ℕ) (xs : List (Appearance C)) → in_turn start xs ≡ true → acted_from start xs ≡ xs
acted_from-in_turn start xs e = acted-in_turn_after start [] xs (covers-none start) e
