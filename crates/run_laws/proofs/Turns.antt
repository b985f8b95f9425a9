-- Rows of which each has an occasion of its own node and phase: these have as many turns at most.
use Rattle.std.proofs.Common.{◌≡◌, refl, sym, ap, ◌∙◌, inl, inr, ◌⊎◌, ℕ, suc, ◌+◌, ◌≤◌, Bool, true, false, ◌==◌, if◌then◌else◌, List, [], ◌∷◌, length, eq-eqb, arith}
use Rattle.std.specs.List.{AllByRecursion, list_any}
use Rattle.std.proofs.lemmas.Bool.{and_from, or_parts, both_ways}
use Rattle.fitting_run.specs.declared.answered.Answered.{Answered}
use Rattle.fitting_run.specs.Faults.{same_turn, turns_of}
use Rattle.run_laws.proofs.Members.{Among}

-- the node and the phase of a row
abbrev pub turn_of : Answered → ℕ × ℕ
turn_of a = (a.line.node, a.line.phase)

-- the list without one of its elements
record Without {A : Type 0} (xs : List A) (x : A) : Type 0 where
  rest : List A
  shorter : suc (length rest) ≡ length xs
  keeps : (y : A) → Among xs y → (y ≡ x) ⊎ Among rest y

without : {A : Type 0} (xs : List A) (x : A) → Among xs x → Without xs x
without [] x m = absurd m
without (z ∷ zs) x m = elim m [
  | inl same ↦ record { rest = zs; shorter = refl; keeps = λ y n. elim n [ inl e ↦ inl (sym e ∙ same) | inr later ↦ inr later ] }
  | inr later ↦
      let w = without zs x later in
      record {
        rest = z ∷ w.rest;
        shorter = ap suc w.shorter;
        keeps = λ y n. elim n [
          | inl e ↦ inr (inl e)
          | inr behind ↦ elim (w.keeps y behind) [ inl e ↦ inl e | inr kept ↦ inr (inr kept) ]
        ];
      }
]

one-turn : (a b : Answered) → turn_of b ≡ turn_of a → same_turn a b ≡ true
one-turn a b e = and_from (a.line.node == b.line.node) (a.line.phase == b.line.phase) (eq-eqb a.line.node b.line.node (ap (λ t. t.0) (sym e))) (eq-eqb a.line.phase b.line.phase (ap (λ t. t.1) (sym e)))

-- rows of other turns have their occasions among the others
elsewhere : (turns : List (ℕ × ℕ)) (a : Answered) (w : Without turns (turn_of a)) (rows : List Answered) → list_any (same_turn a) rows ≡ false → AllByRecursion (λ b. Among turns (turn_of b)) rows → AllByRecursion (λ b. Among w.rest (turn_of b)) rows
elsewhere turns a w [] e h = tt
elsewhere turns a w (b ∷ rows) e h =
    let other = or_parts (same_turn a b) (list_any (same_turn a) rows) e in (
      elim (w.keeps (turn_of b) h.0) [
        | inl same ↦ absurd (both_ways (same_turn a b) other.0 (one-turn a b same))
        | inr kept ↦ kept
      ],
      elsewhere turns a w rows other.1 h.1,
    )

pub turns-few : (rows : List Answered) (turns : List (ℕ × ℕ)) → AllByRecursion (λ a. Among turns (turn_of a)) rows → turns_of rows ≤ length turns
turns-few [] turns h = omega arith
turns-few (a ∷ rows) turns h =
    elim (list_any (same_turn a) rows) as (λ t. list_any (same_turn a) rows ≡ t → (if t then 0 else 1) + turns_of rows ≤ length turns) [
      | true ↦ λ e. let few = turns-few rows turns h.1 in omega arith
      | false ↦ λ e.
          let w = without turns (turn_of a) h.0 in
          let few = turns-few rows w.rest (elsewhere turns a w rows e h.1) in
          let shorter = w.shorter in
          omega arith
    ] refl

pub turns-most : (rows : List Answered) → turns_of rows ≤ length rows
turns-most [] = omega arith
turns-most (a ∷ rows) = step (list_any (same_turn a) rows) (turns-most rows)
  where
    step : (t : Bool) → turns_of rows ≤ length rows → (if t then 0 else 1) + turns_of rows ≤ suc (length rows)
    step true low = omega (arith, low)
    step false low = omega (arith, low)
