-- A node's own events, as a journal goes on.
use Rattle.std.proofs.Common.{◌≡◌, refl, sym, ap, ◌∙◌, ℕ, ◌+◌, ◌==◌, ◌&&◌, Bool, true, false, cond, List, [], ◌∷◌, ◌++◌, arith, append-nil}
use Rattle.std.proofs.lemmas.Bool.Decides.{nat_tests}
use Rattle.std.proofs.lemmas.List.Elements.{filter_map-append}
use Rattle.std.proofs.lemmas.List.Sums.{sum_by-append, sum_by-cons}
use Rattle.legal_journal.specs.declared.events.Event.{Event}
use Rattle.legal_journal.specs.Turns.{AreOthers}
use Rattle.legal_journal.specs.Sealing.{begins_seal, own_seals}
use Rattle.journal_laws.specs.Changes.{appended}
use Rattle.journal_laws.specs.Faults.{fault_of, faults_in}
use Rattle.journal_laws.specs.Own.{own, faults_of}
use Rattle.node_lines.specs.Workers.{appended_by}

nil_left : {A : Type 0} (xs ys : List A) → xs ++ ys ≡ [] → xs ≡ []
nil_left [] ys e = refl
nil_left (x ∷ xs) ys e = absurd (cc)

module _ (who : ℕ) where
  own_on : (a b : List Event) → own who (a ++ b) ≡ own who a ++ own who b
  own_on [] b = refl
  own_on (e ∷ es) b = by (e.who == who) (own_on es b)
    where
      by : (its : Bool) → own who (es ++ b) ≡ own who es ++ own who b → cond its (e ∷ own who (es ++ b)) (own who (es ++ b)) ≡ cond its (e ∷ own who es) (own who es) ++ own who b
      by true rest = ap (λ l. e ∷ l) rest
      by false rest = rest

  own_others : (es : List Event) → AreOthers who es → own who es ≡ []
  own_others [] h = refl
  own_others (e ∷ es) h = by (e.who == who) refl (own_others es h.1)
    where
      by : (its : Bool) → (e.who == who) ≡ its → own who es ≡ [] → cond its (e ∷ own who es) (own who es) ≡ []
      by true is rest = let same : e.who ≡ who = grind (arith, nat_tests) in absurd (h.0 same)
      by false is rest = rest

  -- once others have made events, the node's own are those of before
  own_same : (a more : List Event) → AreOthers who more → own who (a ++ more) ≡ own who a
  own_same a more h = own_on a more ∙ ap (λ l. own who a ++ l) (own_others more h) ∙ append-nil (own who a)

  pub faults_on : (a b : List Event) → faults_of who (a ++ b) ≡ faults_of who a ++ faults_of who b
  faults_on a b = ap faults_in (own_on a b) ∙ filter_map-append (λ (e : Event). fault_of e.answer e.call) (own who a) (own who b)

  pub faults_same : (a more : List Event) → AreOthers who more → faults_of who (a ++ more) ≡ faults_of who a
  faults_same a more h = ap faults_in (own_same a more h)

  pub appended_same : (a more : List Event) → AreOthers who more → appended_by who (a ++ more) ≡ appended_by who a
  appended_same a more h = ap appended (own_same a more h)

  -- where no fault came to the node by now, none had come before
  pub calm_before : (a b : List Event) → faults_of who (a ++ b) ≡ [] → faults_of who a ≡ []
  calm_before a b calm = nil_left (faults_of who a) (faults_of who b) (sym (faults_on a b) ∙ calm)

  pub seals_on : (a b : List Event) → own_seals who (a ++ b) ≡ own_seals who a + own_seals who b
  seals_on a b = sum_by-append (λ (e : Event). cond (begins_seal e && (e.who == who)) 1 0) a b

  pub seals_others : (es : List Event) → AreOthers who es → own_seals who es ≡ 0
  seals_others [] h = refl
  seals_others (e ∷ es) h =
      let parts = sum_by-cons (λ (x : Event). cond (begins_seal x && (x.who == who)) 1 0) e es in
      let here = not_its (begins_seal e) (e.who == who) refl in
      omega (arith, parts, here, seals_others es h.1)
    where
      not_its : (a b : Bool) → (e.who == who) ≡ b → ◌≡◌ {A = ℕ} (cond (a && b) 1 0) 0
      not_its a true is = let same : e.who ≡ who = grind (arith, nat_tests) in absurd (h.0 same)
      not_its true false is = refl
      not_its false false is = refl

  pub seals_same : (a more : List Event) → AreOthers who more → own_seals who (a ++ more) ≡ own_seals who a
  seals_same a more h = let parts = seals_on a more in let none = seals_others more h in omega (arith, parts, none)
