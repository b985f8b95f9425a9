-- Session order behind ranks that have all acted goes on as it begins, each session from its next rank.
use Rattle.std.proofs.Common.{◌≡◌, refl, sym, ap, ◌∙◌, subst, inl, inr, ℕ, zero, suc, ◌+◌, ◌-◌, ◌<◌, ◌≤◌, true, false, cond, List, [], ◌∷◌, ◌++◌, Option, Some, None, is_some, arith, append_assoc, append-nil, filter_map, nat_lt, ◌==◌, ◌&&◌, ltb-true, eqb-true}
use Rattle.std.specs.List.{cons_option, list_all}
use Rattle.std.specs.Option.{option_map, option_or}
use Rattle.std.proofs.lemmas.Bool.{cases_lt, and_parts}
use Rattle.std.proofs.lemmas.List.Folds.{find-append}
use Rattle.engine_api.specs.declared.appearance.Appearance.{Appearance}
use Rattle.engine_api.specs.Order.{first_of, gap_from, top_rank, act_at, numbers, acts_of, acted_after, acted_from, is_clean}
use Rattle.engine_api.proofs.Gaps.{gap-run, gap-absent, gap-low, gap_from-is}

abbrev ones : ℕ → ℕ
ones s = 1

-- of these ranks none from its session's number on appears
none-from : {C : Type 0} (next : ℕ → ℕ) (xs : List (Appearance C)) (s q : ℕ) → list_all (λ x. nat_lt x.rank (next x.session)) xs ≡ true → next s ≤ q → first_of xs s q ≡ None
none-from next [] s q h low = refl
none-from {C} next (x ∷ xs) s q h low =
    elim ((x.session == s) && (x.rank == q)) as (λ t. ((x.session == s) && (x.rank == q)) ≡ t → cond t (Some x) (first_of xs s q) ≡ None) [
      | true ↦ λ is.
          let k = and_parts (x.session == s) (x.rank == q) is in
          let below : x.rank < next x.session = ltb-true _ _ (and_parts _ _ h).0 in
          let here : next x.session ≡ next s = ap next (eqb-true x.session s k.0) in
          let rank : x.rank ≡ q = eqb-true x.rank q k.1 in
          absurd (omega arith)
      | false ↦ λ is. none-from next xs s q (and_parts _ _ h).1 low
    ] refl

still_some : {A : Type 0} (o p : Option A) → is_some o ≡ true → is_some (option_or o p) ≡ true
still_some None p e = absurd (cc)
still_some (Some x) p e = refl

-- Behind ranks that have all acted

-- all that appears before is below its session's next rank
record HaveActed {C : Type 0} (before : List (Appearance C)) (next : ℕ → ℕ) : Type 0 where
  gap : (s : ℕ) → gap_from before s 1 ≡ next s
  none : (s q : ℕ) → next s ≤ q → first_of before s q ≡ None

module _ {C : Type 0} (before : List (Appearance C)) (next : ℕ → ℕ) (h : HaveActed before next) where
  first-behind : (xs : List (Appearance C)) (s q : ℕ) → next s ≤ q → first_of (before ++ xs) s q ≡ first_of xs s q
  first-behind xs s q low = find-append _ before xs ∙ ap (λ o. option_or o (first_of xs s q)) (h.none s q low)

  gap-behind : (xs : List (Appearance C)) (s : ℕ) → gap_from (before ++ xs) s 1 ≡ gap_from xs s (next s)
  gap-behind xs s =
      let gap = gap_from xs s (next s) in
      let low : next s ≤ gap = gap-low xs s (next s) (top_rank xs + 1) in
      let one : 1 ≤ next s = subst (λ n. 1 ≤ n) (h.gap s) (gap-low before s 1 (top_rank before + 1)) in
      let run : (q : ℕ) → 1 ≤ q → q < gap → is_some (first_of (before ++ xs) s q) ≡ true = (λ q from below. elim (cases_lt q (next s)) [
        | inl early ↦
            ap is_some (find-append (λ x. (x.session == s) && (x.rank == q)) before xs)
            ∙ still_some (first_of before s q) (first_of xs s q) (gap-run before s 1 (top_rank before + 1) q from (subst (λ n. q < n) (sym (h.gap s)) early))
        | inr late ↦ ap is_some (first-behind xs s q late) ∙ gap-run xs s (next s) (top_rank xs + 1) q late below
      ]) in
      gap_from-is (before ++ xs) s 1 gap (omega arith) run (ap is_some (first-behind xs s gap low) ∙ gap-absent xs s (next s) (top_rank xs + 1) (omega arith))

  run-behind : (xs : List (Appearance C)) (x : Appearance C) (from n : ℕ) → next x.session ≤ from → filter_map (act_at (before ++ xs) x) (numbers from n) ≡ filter_map (act_at xs x) (numbers from n)
  run-behind xs x from zero low = refl
  run-behind xs x from (suc n) low =
      ap (λ o. cons_option (option_map (λ (f : Appearance C). record { place = x.place; session = x.session; rank = from; command = f.command }) o) (filter_map (act_at (before ++ xs) x) (numbers (from + 1) n)))
      (first-behind xs x.session from low)
      ∙ ap (cons_option (act_at xs x from)) (run-behind xs x (from + 1) n (omega arith))

  acts-behind : (mid : List (Appearance C)) (x : Appearance C) → acts_of ones (before ++ mid) x ≡ acts_of next mid x
  acts-behind mid x =
      let s = x.session in
      let xs = mid ++ x ∷ [] in
      let from = gap_from (before ++ mid) s 1 in
      ap (λ l. filter_map (act_at l x) (numbers from (gap_from l s 1 - from))) (append_assoc before mid (x ∷ []))
      ∙ ap (λ g. filter_map (act_at (before ++ xs) x) (numbers from (g - from))) (gap-behind xs s)
      ∙ ap (λ g. filter_map (act_at (before ++ xs) x) (numbers g (gap_from xs s (next s) - g))) (gap-behind mid s)
      ∙ run-behind xs x (gap_from mid s (next s)) (gap_from xs s (next s) - gap_from mid s (next s)) (gap-low mid s (next s) (top_rank mid + 1))

  acted-behind : (mid xs : List (Appearance C)) → acted_after ones (before ++ mid) xs ≡ acted_after next mid xs
  acted-behind mid [] = refl
  acted-behind mid (x ∷ xs) =
      ap (λ l. l ++ acted_after ones ((before ++ mid) ++ x ∷ []) xs) (acts-behind mid x)
      ∙ ap (λ l. acts_of next mid x ++ acted_after ones l xs) (append_assoc before mid (x ∷ []))
      ∙ ap (λ l. acts_of next mid x ++ l) (acted-behind (mid ++ x ∷ []) xs)

-- behind a clean list
pub acted-from_clean : {C : Type 0} (before xs : List (Appearance C)) (next : ℕ → ℕ) → is_clean (λ s. 1) before ≡ true → ((s : ℕ) → next s ≡ gap_from before s 1) → acted_after (λ s. 1) before xs ≡ acted_from next xs
acted-from_clean before xs next clean is =
    let acted : HaveActed before next = record {
      gap = λ s. sym (is s);
      none = λ s q low. none-from (λ t. gap_from before t 1) before s q clean (subst (λ n. n ≤ q) (is s) low);
    } in
    ap (λ l. acted_after ones l xs) (sym (append-nil before)) ∙ acted-behind before next acted [] xs
