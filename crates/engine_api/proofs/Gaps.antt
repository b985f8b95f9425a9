-- The first rank that doesn't appear: each before it does, and it doesn't.
use Rattle.std.proofs.Common.{◌≡◌, refl, sym, subst, ◌∙◌, ℕ, suc, zero, ◌+◌, ◌<◌, ◌≤◌, Bool, true, false, List, [], ◌∷◌, arith, is_some, inl, inr, if◌then◌else◌}
use Rattle.std.specs.Prelude.{◌==◌}
use Rattle.std.proofs.lemmas.Bool.{cases_lt, and_right}
use Rattle.std.proofs.lemmas.Bool.Decides.{nat_tests}
use Rattle.engine_api.specs.declared.appearance.Appearance.{Appearance}
use Rattle.engine_api.specs.Order.{first_of, gap_within, gap_from, top_rank}

pub gap-run : {C : Type 0} (xs : List (Appearance C)) (s r n q : ℕ) → r ≤ q → q < gap_within xs s r n → is_some (first_of xs s q) ≡ true
gap-run xs s r zero q low high = absurd (omega arith)
gap-run {C} xs s r (suc n) q low high =
    elim (is_some (first_of xs s r)) as (λ b. is_some (first_of xs s r) ≡ b → q < (if b then gap_within xs s (r + 1) n else r) → is_some (first_of xs s q) ≡ true) [
      | true ↦ λ e lt. elim (cases_lt r q) [
        | inl above ↦ gap-run xs s (r + 1) n q (omega arith) lt
        | inr there ↦ let same : r ≡ q = omega arith in subst (λ z. is_some (first_of xs s z) ≡ true) same e
      ]
      | false ↦ λ e lt. absurd (omega arith)
    ] refl high

is_not : (a b : ℕ) → a < b → (a == b) ≡ false
is_not a b lt = grind (arith, nat_tests)

-- no rank above the greatest appears
pub first_of-above_top : {C : Type 0} (xs : List (Appearance C)) (s r : ℕ) → top_rank xs < r → is_some (first_of xs s r) ≡ false
first_of-above_top [] s r high = refl
first_of-above_top (x ∷ xs) s r high =
    let own : x.rank < r = omega arith in
    let other : (x.rank == r) ≡ false = is_not _ _ own in
    let rest : top_rank xs < r = omega arith in
    rw (and_right (x.session == s) _ other) (first_of-above_top xs s r rest)

pub gap-absent : {C : Type 0} (xs : List (Appearance C)) (s r n : ℕ) → top_rank xs < r + n → is_some (first_of xs s (gap_within xs s r n)) ≡ false
gap-absent xs s r zero high = first_of-above_top xs s r (omega arith)
gap-absent {C} xs s r (suc n) high =
    elim (is_some (first_of xs s r)) as (λ b. is_some (first_of xs s r) ≡ b → is_some (first_of xs s (if b then gap_within xs s (r + 1) n else r)) ≡ false) [
      | true ↦ λ e. gap-absent xs s (r + 1) n (omega arith)
      | false ↦ λ e. e
    ] refl

pub gap-low : {C : Type 0} (xs : List (Appearance C)) (s r n : ℕ) → r ≤ gap_within xs s r n
gap-low xs s r zero = omega arith
gap-low {C} xs s r (suc n) =
    elim (is_some (first_of xs s r)) as (λ b. r ≤ (if b then gap_within xs s (r + 1) n else r)) [
      | true ↦ let h = gap-low xs s (r + 1) n in omega arith
      | false ↦ omega arith
    ]

true_or_false : {b : Bool} → b ≡ true → b ≡ false → ⊥
true_or_false e f = let t : true ≡ false = sym e ∙ f in absurd (cc)

-- the gap is where a run of ranks that appear ends
pub gap_from-is : {C : Type 0} (xs : List (Appearance C)) (s r g : ℕ) → r ≤ g → ((q : ℕ) → r ≤ q → q < g → is_some (first_of xs s q) ≡ true) → is_some (first_of xs s g) ≡ false → gap_from xs s r ≡ g
gap_from-is xs s r g low run ends =
    let absent : is_some (first_of xs s (gap_from xs s r)) ≡ false = gap-absent xs s r (top_rank xs + 1) (omega arith) in
    elim (cases_lt (gap_from xs s r) g) [
      | inl short ↦ absurd (true_or_false (run (gap_from xs s r) (gap-low xs s r (top_rank xs + 1)) short) absent)
      | inr rest ↦ elim (cases_lt g (gap_from xs s r)) [
        | inl long ↦ absurd (true_or_false (gap-run xs s r (top_rank xs + 1) g low long) ends)
        | inr at ↦ omega arith
      ]
    ]
