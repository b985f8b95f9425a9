-- The answers of one more session were taken.
use Rattle.std.proofs.Common.{◌≡◌, ◌≢◌, refl, ap, ◌∙◌, subst, ℕ, ◌+◌, ◌<◌, ◌≤◌, Bool, true, false, List, Some, arith}
use Rattle.std.specs.Prelude.{slice_get, slice_set, ◌==◌}
use Rattle.std.proofs.lemmas.Bool.Decides.{nat_tests}
use Rattle.fabric_core.proofs.Marks.{set_other, set_same}
use Rattle.base_engine.specs.Node.{NodeView}
use Rattle.node_lines.specs.declared.desk.Desk.{Desk}
use Rattle.node_lines.proofs.Turning.{same_at}
use Rattle.run_closing.specs.Collecting.{TakesIt, TakesOne}

pub taken_more : (n : NodeView) (old xs : List Desk) (i : ℕ) (d new : Desk) → slice_get xs i ≡ Some d
    → ((s : ℕ) (x : Desk) → s < i → slice_get old s ≡ Some x → TakesOne n x xs s) → ((s : ℕ) → i ≤ s → slice_get xs s ≡ slice_get old s)
    → TakesIt n d new
    → ((s : ℕ) (x : Desk) → s < i + 1 → slice_get old s ≡ Some x → TakesOne n x (slice_set xs i new) s)
    × ((s : ℕ) → i + 1 ≤ s → slice_get (slice_set xs i new) s ≡ slice_get old s)
taken_more n old xs i d new at done left takes = (
  λ s x low g. by_done s x low g (s == i) refl,
  λ s high. set_other xs i s new (above s high) ∙ left s (omega (arith, high)),
)
  where
    here : (s : ℕ) → (s == i) ≡ true → s ≡ i
    here s e = grind (arith, nat_tests, e)

    apart : (s : ℕ) → (s == i) ≡ false → s ≢ i
    apart s e = grind (arith, nat_tests, e)

    above : (s : ℕ) → i + 1 ≤ s → s ≢ i
    above s h = λ e. absurd (omega (arith, h, e))

    below : (s : ℕ) → s < i + 1 → (s == i) ≡ false → s < i
    below s h e = grind (arith, nat_tests, h, e)

    by_done : (s : ℕ) (x : Desk) → s < i + 1 → slice_get old s ≡ Some x → (b : Bool) → (s == i) ≡ b → TakesOne n x (slice_set xs i new) s
    by_done s x low g true e =
        let same = here s e in
        let was : d ≡ x = same_at xs s d x (ap (slice_get xs) same ∙ at) (left s (omega (arith, same)) ∙ g) in
        record {
          desk = new;
          is = ap (slice_get (slice_set xs i new)) same ∙ set_same xs i new d at;
          takes = subst (λ y. TakesIt n y new) was takes;
        }
    by_done s x low g false e =
        let one = done s x (below s low e) g in
        record { desk = one.desk; is = set_other xs i s new (apart s e) ∙ one.is; takes = one.takes }
