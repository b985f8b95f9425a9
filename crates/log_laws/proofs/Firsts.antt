-- The first appearances and the first gap, as the list grows by one.
use Rattle.std.proofs.Common.{◌≡◌, ◌≢◌, refl, sym, ap, subst, ◌∙◌, ℕ, ◌+◌, ◌<◌, ◌≤◌, ◌⊎◌, Bool, true, false, cond, List, [], ◌∷◌, ◌++◌, Option, Some, None, arith, is_some, inl, inr}
use Rattle.std.specs.Prelude.{◌==◌, ◌&&◌}
use Rattle.std.specs.Option.{option_or}
use Rattle.std.proofs.lemmas.Bool.{cases_lt}
use Rattle.std.proofs.lemmas.Bool.Decides.{nat_tests}
use Rattle.std.proofs.lemmas.List.Folds.{find-append}
use Rattle.engine_api.specs.Acted.{Asked}
use Rattle.engine_api.specs.Order.{first_of, gap_from, top_rank}
use Rattle.engine_api.proofs.Gaps.{gap-run, gap-absent, gap-low, gap_from-is}

pub same_or_not : (a b : ℕ) → (a ≡ b) ⊎ (a ≢ b)
same_or_not a b = elim (cases_lt a b) [ inl p ↦ inr (λ e. absurd (omega arith)) | inr p ↦ elim (cases_lt b a) [ inl q ↦ inr (λ e. absurd (omega arith)) | inr q ↦ inl (omega arith) ] ]

pub is_same : (a b : ℕ) → a ≡ b → (a == b) ≡ true
is_same a b e = grind (arith, nat_tests)

pub is_not : (a b : ℕ) → a ≢ b → (a == b) ≡ false
is_not a b e = grind (arith, nat_tests)

and_false : (b : Bool) → (b && false) ≡ false
and_false true = refl
and_false false = refl

or_none : {A : Type 0} (o : Option A) → option_or o None ≡ o
or_none None = refl
or_none (Some x) = refl

pub first_of-push : (before : List Asked) (x : Asked) (s q : ℕ) → first_of (before ++ x ∷ []) s q ≡ option_or (first_of before s q) (cond ((x.session == s) && (x.rank == q)) (Some x) None)
first_of-push before x s q = find-append (λ y. (y.session == s) && (y.rank == q)) before (x ∷ [])

pub first_of-other_session : (before : List Asked) (x : Asked) (s q : ℕ) → x.session ≢ s → first_of (before ++ x ∷ []) s q ≡ first_of before s q
first_of-other_session before x s q ne =
    first_of-push before x s q ∙ ap (λ b. option_or (first_of before s q) (cond (b && (x.rank == q)) (Some x) None)) (is_not x.session s ne) ∙ or_none (first_of before s q)

pub first_of-other_rank : (before : List Asked) (x : Asked) (s q : ℕ) → x.rank ≢ q → first_of (before ++ x ∷ []) s q ≡ first_of before s q
first_of-other_rank before x s q ne =
    first_of-push before x s q ∙ ap (λ b. option_or (first_of before s q) (cond ((x.session == s) && b) (Some x) None)) (is_not x.rank q ne)
    ∙ ap (λ b. option_or (first_of before s q) (cond b (Some x) None)) (and_false (x.session == s)) ∙ or_none (first_of before s q)

pub first_of-own : (before : List Asked) (x : Asked) (s q : ℕ) → x.session ≡ s → x.rank ≡ q → first_of (before ++ x ∷ []) s q ≡ option_or (first_of before s q) (Some x)
first_of-own before x s q own rank =
    first_of-push before x s q ∙ ap (λ b. option_or (first_of before s q) (cond (b && (x.rank == q)) (Some x) None)) (is_same x.session s own)
    ∙ ap (λ b. option_or (first_of before s q) (cond b (Some x) None)) (is_same x.rank q rank)

stays_some : {A : Type 0} (o p : Option A) → is_some o ≡ true → is_some (option_or o p) ≡ true
stays_some None p e = absurd (cc)
stays_some (Some x) p e = refl

-- what appeared has appeared
pub still : (before : List Asked) (x : Asked) (s q : ℕ) → is_some (first_of before s q) ≡ true → is_some (first_of (before ++ x ∷ []) s q) ≡ true
still before x s q e = ap is_some (first_of-push before x s q) ∙ stays_some (first_of before s q) _ e

pub none_is : {A : Type 0} (o : Option A) → is_some o ≡ false → o ≡ None
none_is None e = refl
none_is (Some x) e = absurd (cc)

-- each rank below the gap appears, and the gap doesn't
pub appears : (xs : List Asked) (s g q : ℕ) → gap_from xs s 1 ≡ g → 1 ≤ q → q < g → is_some (first_of xs s q) ≡ true
appears xs s g q e low high = gap-run xs s 1 (top_rank xs + 1) q low (subst (λ z. q < z) (sym e) high)

pub absent : (xs : List Asked) (s g : ℕ) → gap_from xs s 1 ≡ g → is_some (first_of xs s g) ≡ false
absent xs s g e = subst (λ z. is_some (first_of xs s z) ≡ false) e (gap-absent xs s 1 (top_rank xs + 1) (omega arith))

pub gap_low : (xs : List Asked) (s g : ℕ) → gap_from xs s 1 ≡ g → 1 ≤ g
gap_low xs s g e = subst (λ z. 1 ≤ z) e (gap_from-low xs s)
  where
    gap_from-low : (ys : List Asked) (t : ℕ) → 1 ≤ gap_from ys t 1
    gap_from-low ys t = gap-low ys t 1 (top_rank ys + 1)

-- the gap stays where another session or a rank elsewhere appears
pub gap_stays : (before : List Asked) (x : Asked) (s g : ℕ) → gap_from before s 1 ≡ g → ((q : ℕ) → q ≡ g → first_of (before ++ x ∷ []) s q ≡ first_of before s q) → gap_from (before ++ x ∷ []) s 1 ≡ g
gap_stays before x s g e same =
    gap_from-is (before ++ x ∷ []) s 1 g (gap_low before s g e) (λ q low high. still before x s q (appears before s g q e low high)) (ap is_some (same g refl) ∙ absent before s g e)
