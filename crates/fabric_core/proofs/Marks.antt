-- The marks of a cell's tickets follow its operations.
use Rattle.std.proofs.Common.{◌≡◌, ◌≢◌, ℕ, zero, suc, Bool, true, false, List, [], ◌∷◌, ◌++◌, length, set, Some, None, refl, sym, ap, subst, arith}
use Rattle.std.specs.Prelude.{slice_get, slice_set}
use Rattle.std.proofs.lemmas.List.{length-append, length-set}
use Rattle.loglet_api.specs.declared.call.Op.{Op}
use Rattle.legal_journal.specs.Told.{put, started}
use Rattle.legal_journal.specs.Moves.{Begins}
use Rattle.legal_journal.specs.Journal.{CellState, cell_after}
use Rattle.legal_journal.proofs.Cells.{put_cases}
use Rattle.fabric_core.specs.Fabric.{IsMarked, AreMarked}

at_length : {A : Type 0} (xs : List A) (x : A) → slice_get (xs ++ x ∷ []) (length xs) ≡ Some x
at_length [] x = refl
at_length (y ∷ ys) x = at_length ys x

pub at_end : {A : Type 0} (xs : List A) (x : A) (n : ℕ) → n ≡ length xs → slice_get (xs ++ x ∷ []) n ≡ Some x
at_end xs x n h = subst (λ k. slice_get (xs ++ x ∷ []) k ≡ Some x) (sym h) (at_length xs x)

pub not_at_end : {A : Type 0} (xs : List A) (x : A) (n : ℕ) → n ≢ length xs → slice_get (xs ++ x ∷ []) n ≡ slice_get xs n
not_at_end [] x zero h = absurd (h refl)
not_at_end [] x (suc n) h = refl
not_at_end (y ∷ ys) x zero h = refl
not_at_end (y ∷ ys) x (suc n) h = not_at_end ys x n (λ e. h (ap suc e))

not_set : (xs : List Bool) (t : ℕ) → slice_get (set xs t false) t ≢ Some true
not_set [] t h = absurd (cc)
not_set (x ∷ xs) zero h = absurd (cc)
not_set (x ∷ xs) (suc t) h = not_set xs t h

pub set_other : {A : Type 0} (xs : List A) (i j : ℕ) (a : A) → j ≢ i → slice_get (set xs i a) j ≡ slice_get xs j
set_other [] i j a h = refl
set_other (y ∷ ys) zero zero a h = absurd (h refl)
set_other (y ∷ ys) zero (suc j) a h = refl
set_other (y ∷ ys) (suc i) zero a h = refl
set_other (y ∷ ys) (suc i) (suc j) a h = set_other ys i j a (λ e. h (ap suc e))

pub set_same : {A : Type 0} (xs : List A) (i : ℕ) (a b : A) → slice_get xs i ≡ Some b → slice_get (set xs i a) i ≡ Some a
set_same [] i a b h = absurd (cc)
set_same (y ∷ ys) zero a b h = refl
set_same (y ∷ ys) (suc i) a b h = set_same ys i a b h

pub marks_begun : (who : ℕ) (c : CellState) (op : Op) (t : ℕ) (marks : List Bool) → t ≡ c.told.begun → AreMarked c marks → AreMarked (cell_after who c (Begins op t)) (marks ++ true ∷ [])
marks_begun who c op t marks is m = record {
  count = omega (arith, m.count, length-append marks (true ∷ []));
  each = λ u. put_cases (λ r. IsMarked r (slice_get (marks ++ true ∷ []) u)) c.told.ops t (Some (started c.told op)) u
      (λ e. at_end marks true u (omega (arith, m.count)))
      (λ k. let other : u ≢ length marks = λ e. k (omega (arith, m.count)) in
      subst (IsMarked (c.told.ops u)) (sym (not_at_end marks true u other)) (m.each u));
}

closed : (c : CellState) (t : ℕ) (marks : List Bool) → ((u : ℕ) → IsMarked (c.told.ops u) (slice_get marks u)) → (u : ℕ) → IsMarked (put c.told.ops t None u) (slice_get (set marks t false) u)
closed c t marks m u =
    put_cases (λ r. IsMarked r (slice_get (set marks t false) u)) c.told.ops t None u
    (λ e. subst (λ k. slice_get (set marks t false) k ≢ Some true) (sym e) (not_set marks t))
    (λ k. subst (IsMarked (c.told.ops u)) (sym (set_other marks t u false k)) (m u))

-- the operation of the ticket is closed
pub marks_closed : (c d : CellState) (t : ℕ) (marks : List Bool) → d.told.begun ≡ c.told.begun → ((u : ℕ) → d.told.ops u ≡ put c.told.ops t None u) → AreMarked c marks → AreMarked d (slice_set marks t false)
marks_closed c d t marks same ops m = record {
  count = omega (arith, m.count, length-set marks t false);
  each = λ u. subst (λ r. IsMarked r (slice_get (set marks t false) u)) (sym (ops u)) (closed c t marks m.each u);
}
