-- The open operations as the loglet shows them.
use Rattle.std.proofs.Common.{◌≡◌, ℕ, Bool, nat_eq, true, false, cond, Option, None, Some, is_some, List, [], ◌∷◌, map, refl, inl, inr, ap, sym, ◌∙◌, arith}
use Rattle.std.specs.Prelude.{unwrap_or}
use Rattle.std.specs.Option.{option_map}
use Rattle.std.specs.Map.{lookup}
use Rattle.std.specs.HashMap.{get, Updates}
use Rattle.std.proofs.lemmas.Bool.{cases_Bool}
use Rattle.std.proofs.lemmas.Bool.Decides.{nat_tests}
use Rattle.loglet_api.specs.declared.call.Answer.{Answer}
use Rattle.loglet_api.specs.View.{Operation, operation_at}
use Rattle.loglet_api.specs.Step.{PutsOperation}
use Rattle.file_loglet.specs.declared.pending.Pending.{Pending}
use Rattle.file_loglet.specs.Pending.{PendingMap, operation_of, shown, shown_answer, answer_at, PutsAnswer}

-- a look-up in what is shown
pub lookup_shown : (test : ℕ → Bool) (es : List (ℕ × Pending)) → lookup test (map shown es) ≡ option_map operation_of (lookup test es)
lookup_shown test [] = refl
lookup_shown test (e ∷ es) =
    elim (cases_Bool (test e.0)) [ inl same ↦ rw same refl | inr other ↦ rw other (lookup_shown test es) ]

pub shown_at : (m : PendingMap) (t : ℕ) (p : Pending) → get nat_eq m t ≡ Some p → operation_at (map shown m.entries) t ≡ Some (operation_of p)
shown_at m t p h = lookup_shown (nat_eq t) m.entries ∙ ap (λ x. option_map operation_of x) h

of_shown : (x : Option Pending) (o : Operation) → option_map operation_of x ≡ Some o → (p : Pending) × (x ≡ Some p) × (operation_of p ≡ o)
of_shown None o h = absurd (cc)
of_shown (Some p) o h = (p, refl, cc)

-- what stands behind an operation that is shown
pub behind : (m : PendingMap) (t : ℕ) (o : Operation) → operation_at (map shown m.entries) t ≡ Some o → (p : Pending) × (get nat_eq m t ≡ Some p) × (operation_of p ≡ o)
behind m t o h = of_shown (get nat_eq m t) o (sym (lookup_shown (nat_eq t) m.entries) ∙ h)

some_shown : (x : Option Pending) → is_some (option_map operation_of x) ≡ true → is_some x ≡ true
some_shown None h = h
some_shown (Some p) h = refl

-- what is shown as open is there
pub is_there : (m : PendingMap) (t : ℕ) → is_some (operation_at (map shown m.entries) t) ≡ true → is_some (get nat_eq m t) ≡ true
is_there m t h = some_shown (get nat_eq m t) (ap is_some (sym (lookup_shown (nat_eq t) m.entries)) ∙ h)

map_if : (b : Bool) (x y : Option Pending) → option_map operation_of (cond b x y) ≡ cond b (option_map operation_of x) (option_map operation_of y)
map_if true x y = refl
map_if false x y = refl

-- a change of one is shown as a change of one
pub puts : (m n : PendingMap) (t : ℕ) (w : Option Pending) → Updates nat_eq m n t w → PutsOperation (map shown m.entries) t (option_map operation_of w) (map shown n.entries)
puts m n t w u q =
    lookup_shown (nat_eq q) n.entries ∙ ap (λ x. option_map operation_of x) (u.0 q) ∙ map_if (nat_eq t q) w (get nat_eq m q)
    ∙ ap (λ x. cond (nat_eq t q) (option_map operation_of w) x) (sym (lookup_shown (nat_eq q) m.entries))

-- ---- answers

abbrev pub answer_in : Option Pending → Option Answer
answer_in None = None
answer_in (Some p) = p.answer

lookup_answer : (test : ℕ → Bool) (es : List (ℕ × Pending)) → unwrap_or (lookup test (map shown_answer es)) None ≡ answer_in (lookup test es)
lookup_answer test [] = refl
lookup_answer test (e ∷ es) =
    elim (cases_Bool (test e.0)) [ inl same ↦ rw same refl | inr other ↦ rw other (lookup_answer test es) ]

-- the answer that is shown
pub answer_shown : (m : PendingMap) (t : ℕ) → answer_at (map shown_answer m.entries) t ≡ answer_in (get nat_eq m t)
answer_shown m t = lookup_answer (nat_eq t) m.entries

answer_if : (b : Bool) (x y : Option Pending) → answer_in (cond b x y) ≡ cond b (answer_in x) (answer_in y)
answer_if true x y = refl
answer_if false x y = refl

-- a change of one is shown as a change of one
pub puts_answer : (m n : PendingMap) (t : ℕ) (w : Option Pending) → Updates nat_eq m n t w → PutsAnswer (map shown_answer m.entries) t (answer_in w) (map shown_answer n.entries)
puts_answer m n t w u q =
    answer_shown n q ∙ ap answer_in (u.0 q) ∙ answer_if (nat_eq t q) w (get nat_eq m q)
    ∙ ap (λ x. cond (nat_eq t q) (answer_in w) x) (sym (answer_shown m q))

-- one that is added without an answer shows none, where there was none of its ticket
pub adds_no_answer : (m n : PendingMap) (t : ℕ) (p : Pending) → get nat_eq m t ≡ None → p.answer ≡ None → Updates nat_eq m n t (Some p) → (q : ℕ) → answer_at (map shown_answer n.entries) q ≡ answer_at (map shown_answer m.entries) q
adds_no_answer m n t p free none u q =
    elim (cases_Bool (nat_eq t q)) [
      | inl same ↦ (let e : t ≡ q = grind (arith, nat_tests) in
          let before : answer_at (map shown_answer m.entries) q ≡ None = rw (← e) (answer_shown m t ∙ ap answer_in free) in
          rw same at (puts_answer m n t (Some p) u q) ∙ none ∙ sym before)
      | inr other ↦ rw other at (puts_answer m n t (Some p) u q)
    ]
