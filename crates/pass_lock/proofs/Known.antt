-- What is known of a journal, as it grows and as parts are brought up to date.
use Rattle.std.proofs.Common.{◌≡◌, ◌≢◌, ℕ, zero, suc, ◌+◌, ◌<◌, ◌≤◌, List, [], ◌∷◌, ◌++◌, length, sym, refl, ap, ◌∙◌, subst, arith, append_assoc, eq-eqb, ne_eqb, get_or, cond}
use mathlib.Core.Logic.{dite}
use native.Mathlib.Decide.{ℕ_discrete}
use Rattle.std.proofs.lemmas.List.{append-nil}
use Rattle.std.proofs.Math.Seq.{drop-append_seam}
use Rattle.std.proofs.lemmas.List.Elements.{All-nil, All-cons, All-head, All-tail, All-append}
use Rattle.std.specs.List.{All, Contains}
use Rattle.pass_lock.specs.Journal.{total, is_number, numbers, Follows, IsKnown, Signed}
use Rattle.pass_lock.specs.Pass.{brought, first_seen, added}

at_number : {E : Type 0} (k : ℕ) (p : ℕ × List E) (ps : List (ℕ × List E)) (i : ℕ) → (0 < i → Contains (numbers ps) k → 0 < total (is_number k) ps) → i < length (numbers (p ∷ ps)) → get_or (numbers (p ∷ ps)) i k ≡ k
    → 0 < total (is_number k) (p ∷ ps)
at_number k p ps zero more l e = let one : is_number k p ≡ 1 = ap (λ b. cond b 1 0) (eq-eqb p.0 k e) in omega arith
at_number k p ps (suc i) more l e = let m = more (omega arith) (i, omega arith, e) in omega arith

module _ {E : Type 0} where
  pub brought-length : (log : List E) (ps : List (ℕ × List E)) → length (brought log ps) ≡ length ps
  brought-length log [] = refl
  brought-length log (p ∷ ps) = omega (arith, brought-length log ps)

  pub brought-times : (log : List E) (k : ℕ) (ps : List (ℕ × List E)) → total (is_number k) (brought log ps) ≡ total (is_number k) ps
  brought-times log k [] = refl
  brought-times log k (p ∷ ps) = omega (arith, brought-times log k ps)

  pub brought-again : (log was : List E) (ps : List (ℕ × List E)) → brought log (brought was ps) ≡ brought log ps
  brought-again log was [] = refl
  brought-again log was (p ∷ ps) = ap (λ (l : List (ℕ × List E)). (p.0, log) ∷ l) (brought-again log was ps)

  -- one journal was seen with all parts: it is that one
  pub brought-same : (log was : List E) (ps : List (ℕ × List E)) → 0 < length ps → brought log ps ≡ brought was ps → log ≡ was
  brought-same log was [] h e = absurd (omega arith)
  brought-same log was (p ∷ ps) h e = ap (λ (l : List (ℕ × List E)). (get_or l 0 (0, was)).1) e

  pub first_seen-brought : (log : List E) (ps : List (ℕ × List E)) → 0 < length ps → first_seen (brought log ps) ≡ log
  first_seen-brought log [] h = absurd (omega arith)
  first_seen-brought log (p ∷ ps) h = refl

  -- what was added to a journal that grew by a piece is the piece
  pub added-append : (was piece journal : List E) → journal ≡ was ++ piece → added was journal ≡ piece
  added-append was piece journal e = ap (added was) e ∙ drop-append_seam was piece

  -- a list that has a number has it at least once
  pub has_number : (ps : List (ℕ × List E)) (k : ℕ) → Contains (numbers ps) k → 0 < total (is_number k) ps
  has_number [] k h = absurd (let a = h.1 in omega arith)
  has_number (p ∷ ps) k h = at_number k p ps h.0 (λ _ c. has_number ps k c) h.1 h.2

  pub times_le : (k : ℕ) (ps : List (ℕ × List E)) → total (is_number k) ps ≤ length ps
  times_le k [] = omega arith
  times_le k (p ∷ ps) = let a = times_le k ps in dite (ℕ_discrete p.0 k) (λ e. let b : is_number k p ≡ 1 = ap (λ b. cond b 1 0) (eq-eqb p.0 k e) in omega arith)
      (λ ne. let b : is_number k p ≡ 0 = ap (λ b. cond b 1 0) (ne_eqb p.0 k ne) in omega arith)

  pub number_there : (k : ℕ) (ps : List (ℕ × List E)) → 0 < total (is_number k) ps → Contains (numbers ps) k
  number_there k [] h = absurd (omega arith)
  number_there k (p ∷ ps) h = dite (ℕ_discrete p.0 k) (λ e. (0, omega arith, e))
      (λ ne. let b : is_number k p ≡ 0 = ap (λ b. cond b 1 0) (ne_eqb p.0 k ne) in let t = number_there k ps (omega arith) in let l = t.1 in (suc t.0, omega arith, t.2))

  module _ (signer : E → ℕ) where
    pub follows_more : (k : ℕ) (seen log piece : List E) → Follows signer k seen log → All (λ e. signer e ≢ k) piece → Follows signer k seen (log ++ piece)
    follows_more k seen log piece f none = (f.0 ++ piece, ap (λ l. l ++ piece) f.1 ∙ append_assoc seen f.0 piece, All-append (λ e. signer e ≢ k) f.0 piece f.2 none)

    pub follows_same : (k : ℕ) (log : List E) → Follows signer k log log
    follows_same k log = ([], sym (append-nil log), All-nil (λ e. signer e ≢ k))

    pub known_brought : (log : List E) (ps : List (ℕ × List E)) → IsKnown signer log (brought log ps)
    known_brought log [] = All-nil (λ p. Follows signer p.0 p.1 log)
    known_brought log (p ∷ ps) = All-cons (λ p. Follows signer p.0 p.1 log) (p.0, log) (brought log ps) (follows_same p.0 log) (known_brought log ps)

    -- the journal grows by a piece that none of these parts signed
    pub known_more : (log piece : List E) (ps : List (ℕ × List E)) → IsKnown signer log ps → ((k : ℕ) → 0 < total (is_number k) ps → All (λ e. signer e ≢ k) piece) → IsKnown signer (log ++ piece) ps
    known_more log piece [] h none = All-nil (λ p. Follows signer p.0 p.1 (log ++ piece))
    known_more log piece (p ∷ ps) h none = let Old : (ℕ × List E) → Type 0 = λ p. Follows signer p.0 p.1 log in let New : (ℕ × List E) → Type 0 = λ p. Follows signer p.0 p.1 (log ++ piece) in
        let one : is_number p.0 p ≡ 1 = ap (λ b. cond b 1 0) (eq-eqb p.0 p.0 refl) in
        All-cons New p ps (follows_more p.0 p.1 log piece (All-head Old p ps h) (none p.0 (omega arith)))
        (known_more log piece ps (All-tail Old p ps h) (λ k has. none k (omega arith)))

    -- a part with which nothing was seen signed nothing
    none_of : (k : ℕ) (log : List E) (ps : List (ℕ × List E)) → All (λ p. p.1 ≡ []) ps → IsKnown signer log ps → 0 < total (is_number k) ps → All (λ e. signer e ≢ k) log
    none_of k log [] empty known has = absurd (omega arith)
    none_of k log (p ∷ ps) empty known has = let P : (ℕ × List E) → Type 0 = λ p. Follows signer p.0 p.1 log in let Q : (ℕ × List E) → Type 0 = λ p. p.1 ≡ [] in
        dite (ℕ_discrete p.0 k)
        (λ is. let f = All-head P p ps known in let all : log ≡ f.0 = f.1 ∙ ap (λ l. l ++ f.0) (All-head Q p ps empty) in
        subst (λ (l : List E). All (λ e. signer e ≢ k) l) (sym all) (subst (λ (m : ℕ). All (λ e. signer e ≢ m) f.0) is f.2))
        (λ ne. let b : is_number k p ≡ 0 = ap (λ b. cond b 1 0) (ne_eqb p.0 k ne) in none_of k log ps (All-tail Q p ps empty) (All-tail P p ps known) (omega arith))

    known_rest : (log : List E) (ps qs : List (ℕ × List E)) → IsKnown signer log (ps ++ qs) → IsKnown signer log qs
    known_rest log [] qs known = known
    known_rest log (p ∷ ps) qs known = known_rest log ps qs (All-tail (λ p. Follows signer p.0 p.1 log) p (ps ++ qs) known)

    times-append : (k : ℕ) (ps qs : List (ℕ × List E)) → total (is_number k) (ps ++ qs) ≡ total (is_number k) ps + total (is_number k) qs
    times-append k [] qs = omega arith
    times-append k (p ∷ ps) qs = omega (arith, times-append k ps qs)

    -- so the other parts signed all
    pub signed_by_first : (log : List E) (ps qs : List (ℕ × List E)) → All (λ p. p.1 ≡ []) qs → IsKnown signer log (ps ++ qs) → Signed signer (ps ++ qs) log → Signed signer ps log
    signed_by_first log ps qs empty known signs j d lt = let k : ℕ = signer (get_or log j d) in let both : 0 < total (is_number k) (ps ++ qs) = has_number (ps ++ qs) k (signs j d lt) in let sum = times-append k ps qs in
        dite (ℕ_discrete (total (is_number k) ps) 0)
        (λ e. absurd (none_of k log qs empty (known_rest log ps qs known) (omega arith) j d lt refl))
        (λ ne. number_there k ps (omega arith))
