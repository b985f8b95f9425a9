-- What a node's lines came to, as one more is played, and as others write what theirs came to.
use Rattle.std.proofs.Common.{◌≡◌, sym, ap, ◌∙◌, ◌⊎◌, inl, inr, ⊎_elim, ℕ, ◌<◌, ◌≤◌, List, Option, Some, None, slice_get, slice_set, arith}
use Rattle.std.specs.Prelude.{◌≢◌}
use Rattle.std.proofs.lemmas.Bool.{cases_lt}
use Rattle.fabric_core.proofs.Marks.{set_other, set_same}
use Rattle.script_text.specs.declared.asks.NamedLine.{NamedLine}
use Rattle.node_lines.specs.declared.lines.Looked.{Looked}
use Rattle.run_laws.proofs.Placing.{same_some}
use Rattle.node_course.specs.Played.{Came}

-- of a node's lines nothing came to anything else
abbrev pub CameBack : List NamedLine → List (Option Looked) → List (Option Looked) → ℕ → Type 0
CameBack lines looks looks' n = (i : ℕ) (l : NamedLine) (look : Looked) → Came lines looks' n i l look → Came lines looks n i l look

-- what lines came to stays so
abbrev pub CameOn : List NamedLine → List (Option Looked) → List (Option Looked) → ℕ → Type 0
CameOn lines looks looks' n = (i : ℕ) (l : NamedLine) (look : Looked) → Came lines looks n i l look → Came lines looks' n i l look

-- the looks at a node's lines are the same
abbrev pub SameLooks : List NamedLine → List (Option Looked) → List (Option Looked) → ℕ → Type 0
SameLooks lines looks looks' n = (i : ℕ) (l : NamedLine) → slice_get lines i ≡ Some l → l.node ≡ n → slice_get looks' i ≡ slice_get looks i

pub same_back : (lines : List NamedLine) (looks looks' : List (Option Looked)) (n : ℕ) → SameLooks lines looks looks' n → CameBack lines looks looks' n
same_back lines looks looks' n same i l look h = record { is = h.is; own = h.own; looked = sym (same i l h.is h.own) ∙ h.looked }

pub same_on : (lines : List NamedLine) (looks looks' : List (Option Looked)) (n : ℕ) → SameLooks lines looks looks' n → CameOn lines looks looks' n
same_on lines looks looks' n same i l look h = record { is = h.is; own = h.own; looked = same i l h.is h.own ∙ h.looked }

pub no_look : (look : Looked) → Some None ≡ Some (Some look) → ⊥
no_look look e = cc

pub same_or_other : (j i : ℕ) → (j ≡ i) ⊎ (j ≢ i)
same_or_other j i = ⊎_elim (λ (low : j < i). inr (λ same. absurd (omega (arith, low, same))))
    (λ (high : i ≤ j). ⊎_elim (λ (above : i < j). inr (λ same. absurd (omega (arith, above, same)))) (λ (upto : j ≤ i). inl (omega (arith, high, upto))) (cases_lt i j))
    (cases_lt j i)

-- One more line was played

module _ (lines : List NamedLine) (looks : List (Option Looked)) (n i : ℕ) (line : NamedLine) (look : Looked) (at : slice_get lines i ≡ Some line) (not_yet : slice_get looks i ≡ Some None) where
  pub came_on : CameOn lines looks (slice_set looks i (Some look)) n
  came_on j l x h = record { is = h.is; own = h.own; looked = set_other looks i j (Some look) apart ∙ h.looked }
    where
      apart : j ≢ i
      apart = λ same. no_look x (sym not_yet ∙ ap (slice_get looks) (sym same) ∙ h.looked)

  pub same_line : (j : ℕ) (l : NamedLine) → slice_get lines j ≡ Some l → j ≡ i → l ≡ line
  same_line j l is same = same_some l line (sym is ∙ ap (slice_get lines) same ∙ at)

  same_look : (x : Looked) (j : ℕ) → j ≡ i → slice_get (slice_set looks i (Some look)) j ≡ Some (Some x) → look ≡ x
  same_look x j same come = one (sym (set_same looks i (Some look) None not_yet) ∙ (ap (slice_get (slice_set looks i (Some look))) (sym same) ∙ come))
    where
      one : Some (Some look) ≡ Some (Some x) → look ≡ x
      one e = cc

  -- it is this line, or came to that before
  pub came_cases : (j : ℕ) (l : NamedLine) (x : Looked) → Came lines (slice_set looks i (Some look)) n j l x → Came lines looks n j l x ⊎ ((j ≡ i) × (l ≡ line) × (look ≡ x))
  came_cases j l x h = ⊎_elim (λ (same : j ≡ i). inr (same, same_line j l h.is same, same_look x j same h.looked))
      (λ (apart : j ≢ i). inl (record { is = h.is; own = h.own; looked = sym (set_other looks i j (Some look) apart) ∙ h.looked }))
      (same_or_other j i)
