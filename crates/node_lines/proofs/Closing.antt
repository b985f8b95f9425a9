-- Desks that are changed one by one.
use Rattle.std.proofs.Common.{◌≡◌, ◌≢◌, refl, sym, ap, ◌∙◌, subst, ℕ, ◌+◌, ◌<◌, ◌≤◌, Bool, true, false, List, Some, arith}
use Rattle.std.specs.Prelude.{slice_get, slice_set, ◌==◌}
use Rattle.std.proofs.lemmas.Bool.Decides.{nat_tests}
use Rattle.fabric_core.proofs.Marks.{set_other, set_same}
use Rattle.base_engine.specs.Node.{NodeView}
use Rattle.node_lines.specs.declared.desk.Desk.{Desk}
use Rattle.node_lines.specs.Desks.{DeskOk, DesksOk}
use Rattle.node_lines.proofs.Turning.{same_at}

-- One more desk was changed, of those that are numbered so.
module _ (n : NodeView) (D : Desk → Desk → Type 0) (old xs : List Desk) (i : ℕ) (d new : Desk) (at : slice_get xs i ≡ Some d) (left : (s : ℕ) → i ≤ s → slice_get xs s ≡ slice_get old s) where
  here : (s : ℕ) → (s == i) ≡ true → s ≡ i
  here s e = grind (arith, nat_tests, e)

  apart : (s : ℕ) → (s == i) ≡ false → s ≢ i
  apart s e = grind (arith, nat_tests, e)

  above : (s : ℕ) → i + 1 ≤ s → s ≢ i
  above s h = λ e. absurd (omega (arith, h, e))

  below : (s : ℕ) → s < i + 1 → (s == i) ≡ false → s < i
  below s h e = grind (arith, nat_tests, h, e)

  -- each is right still
  pub put_ok : DesksOk n xs → DeskOk n i new → DesksOk n (slice_set xs i new)
  put_ok ok fine = λ s x g. by s x g (s == i) refl
    where
      by : (s : ℕ) (x : Desk) → slice_get (slice_set xs i new) s ≡ Some x → (b : Bool) → (s == i) ≡ b → DeskOk n s x
      by s x g true e =
          let same = here s e in
          let is : new ≡ x = same_at (slice_set xs i new) s new x (ap (slice_get (slice_set xs i new)) same ∙ set_same xs i new d at) g in
          subst (λ k. DeskOk n k x) (sym same) (subst (DeskOk n i) is fine)
      by s x g false e = ok s x (sym (set_other xs i s new (apart s e)) ∙ g)

  -- .. and so are those that were done
  pub put_done : ((s : ℕ) (x : Desk) → s < i → slice_get old s ≡ Some x → (y : Desk) × (slice_get xs s ≡ Some y) × D x y) → D d new
      → (s : ℕ) (x : Desk) → s < i + 1 → slice_get old s ≡ Some x → (y : Desk) × (slice_get (slice_set xs i new) s ≡ Some y) × D x y
  put_done done does = λ s x low g. by s x low g (s == i) refl
    where
      by : (s : ℕ) (x : Desk) → s < i + 1 → slice_get old s ≡ Some x → (b : Bool) → (s == i) ≡ b → (y : Desk) × (slice_get (slice_set xs i new) s ≡ Some y) × D x y
      by s x low g true e =
          let same = here s e in
          let was : d ≡ x = same_at xs s d x (ap (slice_get xs) same ∙ at) (left s (omega (arith, same)) ∙ g) in
          (new, ap (slice_get (slice_set xs i new)) same ∙ set_same xs i new d at, subst (λ y. D y new) was does)
      by s x low g false e =
          let one = done s x (below s low e) g in
          (one.0, set_other xs i s new (apart s e) ∙ one.1, one.2)

  -- the others are as they were
  pub put_left : (s : ℕ) → i + 1 ≤ s → slice_get (slice_set xs i new) s ≡ slice_get old s
  put_left s high = set_other xs i s new (above s high) ∙ left s (omega (arith, high))
