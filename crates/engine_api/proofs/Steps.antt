-- The steps of the loops that make what acts.
use Rattle.std.proofs.Common.{◌≡◌, refl, sym, ap, ◌∙◌, ℕ, suc, ◌+◌, ◌-◌, ◌<◌, Bool, true, false, cond, List, [], ◌∷◌, ◌++◌, Option, Some, None, arith, take, drop, get_or, length, append_assoc, add-one}
use Rattle.std.specs.Prelude.{◌==◌, ◌&&◌, filter_map}
use Rattle.std.specs.List.{cons_option}
use Rattle.std.specs.Option.{option_map}
use Rattle.std.proofs.lemmas.Bool.Decides.{nat_tests}
use Rattle.std.proofs.lemmas.List.{take_more}
use Rattle.std.proofs.Math.Seq.{drop-cons}
use Rattle.engine_api.specs.declared.appearance.Appearance.{Appearance}
use Rattle.engine_api.specs.Order.{first_of, gap_from, act_at, numbers, acts_of, acted_after}

numbers-step : (a n m : ℕ) → n ≡ suc m → numbers a n ≡ a ∷ numbers (a + 1) m
numbers-step a n m e = ap (numbers a) e

-- a rank that acts is put at the end
pub acts-some : {B : Type 0} (f : ℕ → Option B) (out all : List B) (rank after : ℕ) (y : B) → rank < after → f (rank + 1) ≡ Some y → out ++ filter_map f (numbers (rank + 1) (after - rank)) ≡ all → (out ++ y ∷ []) ++ filter_map f (numbers (rank + 1 + 1) (after - (rank + 1))) ≡ all
acts-some f out all rank after y below is e =
    let rest = filter_map f (numbers (rank + 1 + 1) (after - (rank + 1))) in
    let front : filter_map f (numbers (rank + 1) (after - rank)) ≡ y ∷ rest =
    ap (filter_map f) (numbers-step (rank + 1) (after - rank) (after - (rank + 1)) (omega arith)) ∙ ap (λ o. cons_option o rest) is in
    append_assoc out (y ∷ []) rest ∙ ap (λ l. out ++ l) (sym front) ∙ e

pub acts-none : {B : Type 0} (f : ℕ → Option B) (out all : List B) (rank after : ℕ) → rank < after → f (rank + 1) ≡ None → out ++ filter_map f (numbers (rank + 1) (after - rank)) ≡ all → out ++ filter_map f (numbers (rank + 1 + 1) (after - (rank + 1))) ≡ all
acts-none f out all rank after below is e =
    let rest = filter_map f (numbers (rank + 1 + 1) (after - (rank + 1))) in
    let front : filter_map f (numbers (rank + 1) (after - rank)) ≡ rest =
    ap (filter_map f) (numbers-step (rank + 1) (after - rank) (after - (rank + 1)) (omega arith)) ∙ ap (λ o. cons_option o rest) is in
    ap (λ l. out ++ l) (sym front) ∙ e

same_number : (a b : ℕ) → (a == b) ≡ true → a ≡ b
same_number a b e = grind (arith, nat_tests)

right_true : (a b : Bool) → (a && b) ≡ true → b ≡ true
right_true true b e = e
right_true false b e = absurd (cc)

-- what is found has the rank that was sought
pub rank-first_of : {C : Type 0} (xs : List (Appearance C)) (s r : ℕ) (f : Appearance C) → first_of xs s r ≡ Some f → f.rank ≡ r
rank-first_of [] s r f e = absurd (cc)
rank-first_of {C} (x ∷ xs) s r f e =
    elim ((x.session == s) && (x.rank == r)) as (λ t. ((x.session == s) && (x.rank == r)) ≡ t → cond t (Some x) (first_of xs s r) ≡ Some f → f.rank ≡ r) [
      | true ↦ λ is found. let own : x ≡ f = cc in ap (λ (y : Appearance C). y.rank) (sym own) ∙ same_number x.rank r (right_true _ _ is)
      | false ↦ λ is found. rank-first_of xs s r f found
    ] refl e

pub act_at-is : {C : Type 0} (xs : List (Appearance C)) (x : Appearance C) (r : ℕ) (f : Appearance C) (c : C) → first_of xs x.session r ≡ Some f → c ≡ f.command → act_at xs x r ≡ Some (record { place = x.place; session = x.session; rank = f.rank; command = c })
act_at-is xs x r f c found same =
    ap (option_map (λ (g : Appearance _). record { place = x.place; session = x.session; rank = r; command = g.command })) found
    ∙ ap (λ n. Some (record { place = x.place; session = x.session; rank = n; command = f.command })) (sym (rank-first_of xs x.session r f found))
    ∙ ap (λ d. Some (record { place = x.place; session = x.session; rank = f.rank; command = d })) (sym same)

-- one more place
pub acted-more : {C : Type 0} (start : ℕ → ℕ) (xs : List (Appearance C)) (at : ℕ) (x : Appearance C) (out acts all : List (Appearance C)) (before after : ℕ) → at < length xs → x ≡ get_or xs at x
    → gap_from (take at xs) x.session (start x.session) ≡ before + 1 → gap_from (take (at + 1) xs) x.session (start x.session) ≡ after + 1
    → acts ≡ out ++ filter_map (act_at (take (at + 1) xs) x) (numbers (before + 1) (after - before))
    → out ++ acted_after start (take at xs) (drop at xs) ≡ all → acts ++ acted_after start (take (at + 1) xs) (drop (at + 1) xs) ≡ all
acted-more start xs at x out acts all before after inside is from to made e =
    let front : take (at + 1) xs ≡ take at xs ++ x ∷ [] = take_more xs at x inside ∙ ap (λ y. take at xs ++ y ∷ []) (sym is) in
    let rest : drop at xs ≡ x ∷ drop (at + 1) xs = drop-cons xs at x inside ∙ ap (λ y. y ∷ drop (suc at) xs) (sym is) ∙ ap (λ n. x ∷ drop n xs) (sym (add-one at)) in
    let here : acts_of start (take at xs) x ≡ filter_map (act_at (take (at + 1) xs) x) (numbers (before + 1) (after - before)) =
    ap (λ ys. filter_map (act_at ys x) (numbers (gap_from (take at xs) x.session (start x.session)) (gap_from ys x.session (start x.session) - gap_from (take at xs) x.session (start x.session)))) (sym front)
    ∙ ap (λ g. filter_map (act_at (take (at + 1) xs) x) (numbers g (gap_from (take (at + 1) xs) x.session (start x.session) - g))) from
    ∙ ap (λ g. filter_map (act_at (take (at + 1) xs) x) (numbers (before + 1) (g - (before + 1)))) to
    ∙ ap (λ n. filter_map (act_at (take (at + 1) xs) x) (numbers (before + 1) n)) (let same : after + 1 - (before + 1) ≡ after - before = omega arith in same) in
    let later = acted_after start (take (at + 1) xs) (drop (at + 1) xs) in
    ap (λ l. l ++ later) (made ∙ ap (λ l. out ++ l) (sym here)) ∙ append_assoc out _ later
    ∙ ap (λ l. out ++ l) (ap (λ l. acts_of start (take at xs) x ++ acted_after start l (drop (at + 1) xs)) front ∙ sym (ap (acted_after start (take at xs)) rest)) ∙ e
