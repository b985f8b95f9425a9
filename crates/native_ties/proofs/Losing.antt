-- A try of a message is lost, and after eight the server is given up.
use Rattle.std.proofs.Common.{◌≡◌, ℕ, ◌+◌, ◌<◌, ◌≤◌, Bool, true, false, cond, refl, sym, ◌∙◌, ap, subst, arith, List, [], ◌∷◌, ◌++◌, inl, inr}
use Rattle.std.specs.Prelude.{◌⊎◌, ◌&&◌, ◌==◌, nat_le, if◌then◌else◌}
use Rattle.std.specs.List.{list_any}
use Rattle.std.proofs.lemmas.Bool.{false≢true, cases_eq, eq-eqb, ne_eqb, eqb-true, leb-true, leb-false, or_left, or_right, or_from, and_parts, and_from, false_from_ne_true}
use Rattle.std.proofs.lemmas.List.Sums.{sum_by-append}
use Rattle.quorum_cell.specs.declared.operation.Loss.{Loss}
use Rattle.quorum_cell.specs.Cells.{Operation}
use Rattle.quorum_cell.specs.Tallies.{tries_lost}

abbrev pub with_loss : Operation → ℕ → ℕ → Operation
with_loss o k i = record o { lost = o.lost ++ record { message = k; server = i } ∷ [] }

pub tries_is : (o : Operation) (k i n : ℕ) → tries_lost (with_loss o k i) n ≡ tries_lost o n + (if k == n then 1 else 0)
tries_is o k i n = sum_by-append (λ (l : Loss). cond (l.message == n) 1 0) o.lost (record { message = k; server = i } ∷ []) ∙ at (k == n)
  where
    at : (b : Bool) → tries_lost o n + (0 + cond b 1 0) ≡ tries_lost o n + (if b then 1 else 0)
    at true = omega arith
    at false = omega arith

pub one_more : (o : Operation) (k i : ℕ) → tries_lost (with_loss o k i) k ≡ tries_lost o k + 1
one_more o k i = subst (λ b. tries_lost (with_loss o k i) k ≡ tries_lost o k + (if b then 1 else 0)) (eq-eqb k k refl) (tries_is o k i k)

pub no_more : (o : Operation) (k i n : ℕ) → (k ≡ n → ⊥) → tries_lost (with_loss o k i) n ≡ tries_lost o n
no_more o k i n other =
    let is : tries_lost (with_loss o k i) n ≡ tries_lost o n + 0 = subst (λ b. tries_lost (with_loss o k i) n ≡ tries_lost o n + (if b then 1 else 0)) (ne_eqb k n other) (tries_is o k i n) in
    omega (arith, is)

-- the tries of each message to a server, while none came to eight
abbrev pub AllFew : Operation → ℕ → List Loss → Type 0
AllFew o i [] = Unit {0}
AllFew o i (l ∷ ls) = (l.server ≡ i → tries_lost o l.message < 8) × AllFew o i ls

pub few_all : (o : Operation) (i : ℕ) (ls : List Loss) → list_any (λ (l : Loss). (l.server == i) && nat_le 8 (tries_lost o l.message)) ls ≡ false → AllFew o i ls
few_all o i [] h = tt
few_all o i (l ∷ ls) h = (at, few_all o i ls rest)
  where
    rest : list_any (λ (x : Loss). (x.server == i) && nat_le 8 (tries_lost o x.message)) ls ≡ false
    rest = false_from_ne_true _ (λ e. false≢true (sym h ∙ or_right ((l.server == i) && nat_le 8 (tries_lost o l.message)) _ e))

    at : l.server ≡ i → tries_lost o l.message < 8
    at e = by (nat_le 8 (tries_lost o l.message)) refl
      where
        by : (b : Bool) → nat_le 8 (tries_lost o l.message) ≡ b → tries_lost o l.message < 8
        by false z = leb-false _ _ z
        by true z = absurd (false≢true (sym h ∙ or_left ((l.server == i) && nat_le 8 (tries_lost o l.message)) _ (and_from _ _ (eq-eqb l.server i e) z)))

-- one more try of message k to server i is lost, of which so many were, fewer than seven
pub none_yet : (o : Operation) (k i q : ℕ) (ls : List Loss) → tries_lost o k + 1 < 8 → AllFew o q ls → list_any (λ (l : Loss). (l.server == q) && nat_le 8 (tries_lost (with_loss o k i) l.message)) ls ≡ false
none_yet o k i q [] few h = refl
none_yet o k i q (l ∷ ls) few h = or_from _ _ (false_from_ne_true _ (λ e. at (and_parts _ _ e))) (none_yet o k i q ls few h.1)
  where
    at : ((l.server == q) ≡ true) × (nat_le 8 (tries_lost (with_loss o k i) l.message) ≡ true) → ⊥
    at parts = by (cases_eq k l.message)
      where
        many : 8 ≤ tries_lost (with_loss o k i) l.message
        many = leb-true _ _ parts.1

        before : tries_lost o l.message < 8
        before = h.0 (eqb-true l.server q parts.0)

        is : tries_lost (with_loss o k i) l.message ≡ tries_lost o l.message + (if k == l.message then 1 else 0)
        is = tries_is o k i l.message

        by : (k ≡ l.message) ⊎ (k ≡ l.message → ⊥) → ⊥
        by (inl e) = omega (arith, many, few, is, ap (tries_lost o) e, one (k == l.message))
          where
            one : (b : Bool) → (if b then 1 else 0) ≤ 1
            one true = omega arith
            one false = omega arith
        by (inr n) = omega (arith, many, before, rw (ne_eqb k l.message n) at is)
