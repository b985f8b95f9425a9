-- To set what is there changes nothing.
use Rattle.std.proofs.Common.{◌≡◌, ℕ, Bool, true, false, cond, Option, Some, None, refl, sym, ap, ◌∙◌}
use Rattle.std.specs.Ordering.{nat_cmp, eq_by_cmp, is_eq}
use Rattle.std.specs.declared.cmp.Ordering.{Ordering}
use Rattle.std.specs.declared.cmp.Ordering.TheVariants.{Less, Equal, Greater}
use Rattle.std.specs.Cmp.{IsTotalOrder, nat_cmp_total}
use Rattle.std.specs.Cmp.Lexicographic.{slice_cmp}
use Rattle.std.proofs.lemmas.Cmp.{then_total, on_total, nat_list_cmp_total}
use Rattle.std.proofs.lemmas.Map.Lookups.{exact_pairs, exact_unsigned, exact_bytes}
use Rattle.std.specs.FinMap.{get, get-insert, get-remove, same_map}
use Rattle.delos_types.specs.Spaces.{SpaceMap, Text, space_cmp}
use Rattle.table_core.specs.Effect.{value_after}
use Rattle.table_core.specs.declared.decide.Change.{Change}
use Rattle.table_core.specs.declared.decide.Change.TheVariants.{Keep}
use Rattle.engine_steps.specs.Layout.{value_of}
use Rattle.engine_steps.specs.Steps.{with_value}

space_total : IsTotalOrder space_cmp
space_total = then_total (on_total (λ (p : ℕ × Text). p.0) nat_cmp_total) (on_total (λ (p : ℕ × Text). p.1) nat_list_cmp_total)

space_exact : (x y : ℕ × Text) → space_cmp x y ≡ Equal → x ≡ y
space_exact x y e = exact_pairs nat_cmp (slice_cmp nat_cmp) exact_unsigned exact_bytes x y e

equal_is : (o : Ordering) → is_eq o ≡ true → o ≡ Equal
equal_is Less e = absurd (cc)
equal_is Equal e = refl
equal_is Greater e = absurd (cc)

here_or_not : (m : SpaceMap) (k q : ℕ × Text) (o : Option Text) (b : Bool) → eq_by_cmp space_cmp q k ≡ b → o ≡ get m k → cond b o (get m q) ≡ get m q
here_or_not m k q o true tie e = e ∙ ap (get m) (sym (space_exact q k (equal_is _ tie)))
here_or_not m k q o false tie e = refl

with_value-same : (m : SpaceMap) (key : Text) (o : Option Text) → o ≡ value_of m key → with_value m key o ≡ m
with_value-same m key None e = same_map space_total space_exact _ _ (λ q. get-remove space_total m (5, key) q ∙ here_or_not m (5, key) q None _ refl e)
with_value-same m key (Some v) e = same_map space_total space_exact _ _ (λ q. get-insert space_total m (5, key) v q ∙ here_or_not m (5, key) q (Some v) _ refl e)

-- a value that is kept
pub keeps : (m : SpaceMap) (key : Text) (change : Change) → change ≡ Keep → m ≡ with_value m key (value_after change (value_of m key))
keeps m key change is = sym (ap (λ d. with_value m key (value_after d (value_of m key))) is ∙ with_value-same m key (value_of m key) refl)
