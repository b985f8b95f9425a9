-- The entries of a `BTreeMap` in a range, as a finite map has them.
use Rattle.std.proofs.Common.{◌≡◌, Bool, true, false, cond, not, ◌&&◌, T, List, [], ◌∷◌, refl, sym, ap, subst, ◌∙◌}
use Rattle.std.specs.Ordering.{is_lt, is_le, is_ge, ordering_reverse}
use Rattle.std.specs.declared.cmp.Ordering.{Ordering}
use Rattle.std.specs.declared.cmp.Ordering.TheVariants.{Less, Equal, Greater}
use Rattle.std.specs.declared.ops.Bound.TheVariants.{Included, Excluded}
use Rattle.std.specs.List.{filter, AllByRecursion}
use Rattle.std.specs.List.Sorted.{IsStrictlySortedBy}
use Rattle.std.specs.Map.{keys_of}
use Rattle.std.specs.BTreeMap.Range.{range_contains, entries_between}
use Rattle.std.specs.BTreeMap.Comparable.{le_lt_trans}
use Rattle.std.proofs.lemmas.Cmp.{nat_list_cmp_total}
use Rattle.std.proofs.lemmas.Map.Lookups.{exact_bytes}
use Rattle.std.specs.FinMap.{from_entries, from_sorted, entries, get-from_entries, get-from_sorted, entries-from_sorted, same_map}
use Rattle.std.specs.FinMap.Entries.{is_sorted, below_all}
use Rattle.delos_types.specs.Spaces.{Text, text_cmp}
use Rattle.table_core.specs.Table.{TableMap}
use Rattle.table_core.specs.Find.{pairs_of, pairs_between}

abbrev Entries : Type 0
Entries = List (Text × Text)

both : (a b : Bool) → T a → T b → T (a && b)
both true b p q = q
both false b p q = p

below_all-keys : (x : Text) (es : Entries) → AllByRecursion (λ y. text_cmp x y ≡ Less) (keys_of es) → T (below_all text_cmp x es)
below_all-keys x [] h = tt
below_all-keys x (e ∷ es) h = both _ _ (subst (λ o. T (is_lt o)) (sym h.0) tt) (below_all-keys x es h.1)

is_sorted-keys : (es : Entries) → IsStrictlySortedBy text_cmp (keys_of es) → T (is_sorted text_cmp es)
unfolding IsStrictlySortedBy
is_sorted-keys [] h = tt
is_sorted-keys (e ∷ es) h = both _ _ (below_all-keys e.0 es h.0) (is_sorted-keys es h.1)

-- sorted entries are those of the map that they make
pub entries-from_entries : (es : Entries) → IsStrictlySortedBy text_cmp (keys_of es) → entries (from_entries {R = text_cmp} es) ≡ es
entries-from_entries es h =
    let sorted = is_sorted-keys es h in
    ap entries (same_map nat_list_cmp_total exact_bytes (from_entries es) (from_sorted es) (λ q. get-from_entries nat_list_cmp_total es q ∙ sym (get-from_sorted text_cmp es q sorted)))
    ∙ entries-from_sorted text_cmp es sorted

is_le-reverse : (o : Ordering) → is_le (ordering_reverse o) ≡ not (is_lt o)
is_le-reverse Less = refl
is_le-reverse Equal = refl
is_le-reverse Greater = refl

not-is_le-reverse : (o : Ordering) → not (is_le (ordering_reverse o)) ≡ is_lt o
not-is_le-reverse Less = refl
not-is_le-reverse Equal = refl
not-is_le-reverse Greater = refl

-- a key is from low on and below high
abbrev is_between : Text → Text → Text → Bool
is_between low high q = not (is_lt (text_cmp q low)) && is_lt (text_cmp q high)

from_low : (low q : Text) → is_le (text_cmp low q) ≡ not (is_lt (text_cmp q low))
from_low low q = ap is_le (nat_list_cmp_total.antisymm low q) ∙ is_le-reverse (text_cmp q low)

below_high : (high q : Text) → not (is_le (text_cmp high q)) ≡ is_lt (text_cmp q high)
below_high high q = ap (λ o. not (is_le o)) (nat_list_cmp_total.antisymm high q) ∙ not-is_le-reverse (text_cmp q high)

range_contains-is_between : (low high q : Text) → range_contains text_cmp (Included low) (Excluded high) q ≡ is_between low high q
range_contains-is_between low high q =
    ap (λ b. b && not (is_le (text_cmp high q))) (from_low low q) ∙ ap (λ b. not (is_lt (text_cmp q low)) && b) (below_high high q)

filter-alike : (p r : Text → Bool) → ((q : Text) → p q ≡ r q) → (es : Entries) → filter (λ e. p e.0) es ≡ filter (λ e. r e.0) es
filter-alike p r alike [] = refl
filter-alike p r alike (e ∷ es) =
    ap (λ b. cond b (e ∷ filter (λ e. p e.0) es) (filter (λ e. p e.0) es)) (alike e.0)
    ∙ ap (λ fs. cond (r e.0) (e ∷ fs) fs) (filter-alike p r alike es)

filter-none : (p : Text → Bool) → ((q : Text) → p q ≡ false) → (es : Entries) → filter (λ e. p e.0) es ≡ []
filter-none p none [] = refl
filter-none p none (e ∷ es) = ap (λ b. cond b (e ∷ filter (λ e. p e.0) es) (filter (λ e. p e.0) es)) (none e.0) ∙ filter-none p none es

-- what a range of the entries holds is between the keys
pub pairs_of-entries_between : (es : Entries) (low high : Text) → IsStrictlySortedBy text_cmp (keys_of es) → pairs_of (entries_between text_cmp (Included low) (Excluded high) es) ≡ pairs_between (from_entries es) low high
pairs_of-entries_between es low high sorted =
    ap pairs_of (filter-alike _ (is_between low high) (range_contains-is_between low high) es)
    ∙ ap (λ fs. pairs_of (filter (λ e. is_between low high e.0) fs)) (sym (entries-from_entries es sorted))

less : (o : Ordering) → is_lt o ≡ true → o ≡ Less
less Less e = refl
less Equal e = absurd (cc)
less Greater e = absurd (cc)

never_both : (a b : Bool) → (a ≡ true → b ≡ true → ⊥) → (a && b) ≡ false
never_both true true never = absurd (never refl refl)
never_both true false never = refl
never_both false b never = refl

no_less : (o : Ordering) → is_ge o ≡ true → o ≡ Less → ⊥
no_less Less e l = cc
no_less Equal e l = cc
no_less Greater e l = cc

none_between : (low high : Text) → is_ge (text_cmp low high) ≡ true → (q : Text) → is_between low high q ≡ false
none_between low high backward q = never_both _ _ (λ from below.
    no_less _ backward (le_lt_trans nat_list_cmp_total low q high (from_low low q ∙ from) (less _ below)))

-- nothing lies between the keys where high isn't above low
pub pairs_between-backward : (m : TableMap) (low high : Text) → is_ge (text_cmp low high) ≡ true → pairs_between m low high ≡ []
pairs_between-backward m low high backward = ap pairs_of (filter-none (is_between low high) (none_between low high backward) _)
