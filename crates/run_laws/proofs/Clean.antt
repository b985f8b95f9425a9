-- The clean position of a log: the longest of its fronts that is clean.
use Rattle.std.proofs.Common.{◌≡◌, refl, sym, ap, ◌∙◌, inl, inr, ◌⊎◌, ℕ, zero, suc, ◌+◌, ◌<◌, ◌≤◌, Bool, true, false, cond, List, ◌∷◌, length, arith}
use Rattle.std.specs.Prelude.{filter, max}
use Rattle.std.proofs.lemmas.Bool.{both_ways, cases_lt}
use Rattle.delos_types.specs.declared.entry.Entry.{Entry}
use Rattle.engine_api.specs.Members.{greatest, clean_at, clean_position}
use Rattle.engine_api.specs.Order.{numbers}

greatest-upto : (p : ℕ → Bool) (a n m : ℕ) → a + n ≤ m + 1 → greatest (filter p (numbers a n)) ≤ m
greatest-upto p a zero m h = omega arith
greatest-upto p a (suc n) m h = step (p a) (greatest-upto p (a + 1) n m (omega (arith, h)))
  where
    step : (b : Bool) → greatest (filter p (numbers (a + 1) n)) ≤ m → greatest (cond b (a ∷ filter p (numbers (a + 1) n)) (filter p (numbers (a + 1) n))) ≤ m
    step true low = omega (arith, low, h)
    step false low = low

-- a number that is picked is at most the greatest
greatest-from : (p : ℕ → Bool) (a n k : ℕ) → a ≤ k → k < a + n → p k ≡ true → k ≤ greatest (filter p (numbers a n))
greatest-from p a zero k low high is = absurd (omega (arith, low, high))
greatest-from p a (suc n) k low high is =
    elim (cases_lt a k) [
      | inl above ↦ later (p a) (greatest-from p (a + 1) n k (omega (arith, above)) (omega (arith, high)) is)
      | inr upto ↦ let same : k ≡ a = omega (arith, low, upto) in here (p a) (ap p (sym same) ∙ is) upto
    ]
  where
    later : (b : Bool) → k ≤ greatest (filter p (numbers (a + 1) n)) → k ≤ greatest (cond b (a ∷ filter p (numbers (a + 1) n)) (filter p (numbers (a + 1) n)))
    later true upto = omega (arith, upto)
    later false upto = upto

    here : (b : Bool) → b ≡ true → k ≤ a → k ≤ greatest (cond b (a ∷ filter p (numbers (a + 1) n)) (filter p (numbers (a + 1) n)))
    here true e upto = omega (arith, upto)
    here false e upto = absurd (both_ways false refl e)

pub clean-within : (log : List Entry) → clean_position log ≤ length log
clean-within log = greatest-upto (clean_at log) 0 (length log + 1) (length log) (omega arith)

-- a front that is clean is no longer
pub clean-most : (log : List Entry) (n : ℕ) → n ≤ length log → clean_at log n ≡ true → n ≤ clean_position log
clean-most log n short clean = greatest-from (clean_at log) 0 (length log + 1) n (omega arith) (omega (arith, short)) clean

-- the greatest that is picked is picked, unless it is 0
greatest-picked : (p : ℕ → Bool) (a n : ℕ) → (greatest (filter p (numbers a n)) ≡ 0) ⊎ (p (greatest (filter p (numbers a n))) ≡ true)
greatest-picked p a zero = inl refl
greatest-picked p a (suc n) = step (p a) refl (greatest-picked p (a + 1) n)
  where
    step : (b : Bool) → p a ≡ b → (greatest (filter p (numbers (a + 1) n)) ≡ 0) ⊎ (p (greatest (filter p (numbers (a + 1) n))) ≡ true)
        → (greatest (cond b (a ∷ filter p (numbers (a + 1) n)) (filter p (numbers (a + 1) n))) ≡ 0) ⊎ (p (greatest (cond b (a ∷ filter p (numbers (a + 1) n)) (filter p (numbers (a + 1) n)))) ≡ true)
    step false is h = h
    step true is h =
        let rest = greatest (filter p (numbers (a + 1) n)) in
        elim (cases_lt a rest) [
          | inl above ↦
              let same : max a rest ≡ rest = omega (arith, above) in
              elim h [
                | inl none ↦ inl (same ∙ none)
                | inr picked ↦ inr (ap p same ∙ picked)
              ]
          | inr upto ↦ let same : max a rest ≡ a = omega (arith, upto) in inr (ap p same ∙ is)
        ]

-- what is clean of a log is clean
pub clean-itself : (log : List Entry) → clean_at log (clean_position log) ≡ true
clean-itself log =
    elim (greatest-picked (clean_at log) 0 (length log + 1)) [
      | inl none ↦ ap (clean_at log) none
      | inr picked ↦ picked
    ]
