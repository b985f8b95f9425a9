-- The sum over a table's values, where one of them changes.
use Rattle.std.proofs.Common.{◌≡◌, refl, sym, ap, ◌∙◌, subst, length, Bool, true, false, cond, ◌&&◌, T, List, [], ◌∷◌, Option, Some, None, fold, ℤ, pos, ◌+ℤ◌, Ordering, Less, Equal, Greater, arith}
use Rattle.std.specs.FinMap as finmap
use Rattle.std.specs.FinMap.{entries, entries_sorted, entries-insert, get-entries, len-empty, len-entries, find, put, is_sorted}
use Rattle.std.specs.FinMap.Entries.{by_order, below_all}
use Rattle.std.specs.List.{AllByRecursion}
use Rattle.std.specs.Ordering.{is_lt, is_eq}
use Rattle.std.proofs.lemmas.Cmp.{nat_list_cmp_total}
use Rattle.std.proofs.lemmas.Int.{ints}
use Rattle.delos_types.specs.Spaces.{Text, text_cmp}
use Rattle.table_core.specs.Table.{TableMap}
use Rattle.run_totals.specs.Totals.{number_in, sum_of_table}

both-true : (a b : Bool) → T (a && b) → T a × T b
both-true true b h = (tt, h)
both-true false b h = absurd h

less : (o : Ordering) → T (is_lt o) → o ≡ Less
less Less h = refl
less Equal h = absurd h
less Greater h = absurd h

-- Entries in order

module _ {X : Type 0} where
  -- a key below those of the entries isn't found among them
  find-below : (k : Text) (es : List (Text × X)) → T (below_all text_cmp k es) → find text_cmp k es ≡ None
  find-below k [] h = refl
  find-below k (e ∷ es) h =
      let parts = both-true (is_lt (text_cmp k e.0)) (below_all text_cmp k es) h in
      ap (λ o. cond (is_eq o) (Some e.1) (find text_cmp k es)) (less (text_cmp k e.0) parts.0) ∙ find-below k es parts.1

  below-lower : (k x : Text) (es : List (Text × X)) → text_cmp k x ≡ Less → T (below_all text_cmp x es) → T (below_all text_cmp k es)
  below-lower k x [] low h = tt
  below-lower k x (e ∷ es) low h =
      let parts = both-true (is_lt (text_cmp x e.0)) (below_all text_cmp x es) h in
      let lower = nat_list_cmp_total.trans k x e.0 low (less (text_cmp x e.0) parts.0) in
      subst (λ o. T (is_lt o && below_all text_cmp k es)) (sym lower) (below-lower k x es low parts.1)

  -- what holds of the value that is put, and of each before, holds of each after
  pub all-put : (P : X → Type 0) (k : Text) (v : X) (es : List (Text × X)) → P v → AllByRecursion (λ e. P e.1) es → AllByRecursion (λ e. P e.1) (put text_cmp k v es)
  all-put P k v [] h all = (h, tt)
  all-put P k v (e ∷ es) h all =
      elim (text_cmp k e.0) as (λ o. AllByRecursion (λ e. P e.1) (by_order o ((k, v) ∷ e ∷ es) ((e.0, v) ∷ es) (e ∷ put text_cmp k v es))) [
        | Less ↦ (h, all)
        | Equal ↦ (h, all.1)
        | Greater ↦ (all.0, all-put P k v es h all.1)
      ]

  -- what holds of each value holds of what is found
  pub all-found : (P : X → Type 0) (k : Text) (v : X) (es : List (Text × X)) → AllByRecursion (λ e. P e.1) es → find text_cmp k es ≡ Some v → P v
  all-found P k v [] all e = absurd (cc)
  all-found P k v (f ∷ es) all e =
      elim (is_eq (text_cmp k f.0)) as (λ b. cond b (Some f.1) (find text_cmp k es) ≡ Some v → P v) [
        | true ↦ λ is. let same : f.1 ≡ v = cc in subst P same all.0
        | false ↦ λ is. all-found P k v es all.1 is
      ] e

-- Sums

abbrev total : List (Text × Text) → ℤ
total [] = pos 0
total (e ∷ es) = number_in e.1 +ℤ total es

-- what is found counts as a value does, and nothing counts 0
abbrev pub number_found : Option Text → ℤ
number_found None = pos 0
number_found (Some v) = number_in v

put_first : (v e t : ℤ) → (v +ℤ (e +ℤ t)) +ℤ pos 0 ≡ (e +ℤ t) +ℤ v
put_first v e t = omega (arith, ints)

put_here : (v e t : ℤ) → (v +ℤ t) +ℤ e ≡ (e +ℤ t) +ℤ v
put_here v e t = omega (arith, ints)

put_later : (v e t p f : ℤ) → p +ℤ f ≡ t +ℤ v → (e +ℤ p) +ℤ f ≡ (e +ℤ t) +ℤ v
put_later v e t p f is = omega (arith, ints)

total-put : (k v : Text) (es : List (Text × Text)) → T (is_sorted text_cmp es) → total (put text_cmp k v es) +ℤ number_found (find text_cmp k es) ≡ total es +ℤ number_in v
total-put k v [] h = put_here (number_in v) (pos 0) (pos 0)
total-put k v (e ∷ es) h =
    let parts = both-true (below_all text_cmp e.0 es) (is_sorted text_cmp es) h in
    elim (text_cmp k e.0) as (λ o. text_cmp k e.0 ≡ o → total (by_order o ((k, v) ∷ e ∷ es) ((e.0, v) ∷ es) (e ∷ put text_cmp k v es)) +ℤ number_found (cond (is_eq o) (Some e.1) (find text_cmp k es)) ≡ total (e ∷ es) +ℤ number_in v) [
      | Less ↦ λ low.
          ap (λ o. total ((k, v) ∷ e ∷ es) +ℤ number_found o) (find-below k es (below-lower k e.0 es low parts.0))
          ∙ put_first (number_in v) (number_in e.1) (total es)
      | Equal ↦ λ tie. put_here (number_in v) (number_in e.1) (total es)
      | Greater ↦ λ high. put_later (number_in v) (number_in e.1) (total es) (total (put text_cmp k v es)) (number_found (find text_cmp k es)) (total-put k v es parts.1)
    ] refl

one_more : (s n t : ℤ) → (s +ℤ n) +ℤ t ≡ s +ℤ (n +ℤ t)
one_more s n t = omega (arith, ints)

fold-total : (s : ℤ) (es : List (Text × Text)) → fold (λ s e. s +ℤ number_in e.1) s es ≡ s +ℤ total es
fold-total s [] = let nothing : s ≡ s +ℤ pos 0 = omega (arith, ints) in nothing
fold-total s (e ∷ es) = fold-total (s +ℤ number_in e.1) es ∙ one_more s (number_in e.1) (total es)

from_nothing : (t : ℤ) → pos 0 +ℤ t ≡ t
from_nothing t = omega (arith, ints)

sum-total : (m : TableMap) → sum_of_table m ≡ total (entries m)
sum-total m = fold-total (pos 0) (entries m) ∙ from_nothing (total (entries m))

-- a value that is put replaces the one before in the sum
pub sum-insert : (m : TableMap) (k v : Text) → sum_of_table (finmap.insert m k v) +ℤ number_found (finmap.get m k) ≡ sum_of_table m +ℤ number_in v
sum-insert m k v =
    ap (λ s. s +ℤ number_found (finmap.get m k)) (sum-total (finmap.insert m k v) ∙ ap total (entries-insert nat_list_cmp_total m k v))
    ∙ ap (λ o. total (put text_cmp k v (entries m)) +ℤ number_found o) (get-entries m k)
    ∙ total-put k v (entries m) (entries_sorted m)
    ∙ ap (λ s. s +ℤ number_in v) (sym (sum-total m))

no_entry : {A : Type 0} (xs : List A) → length xs ≡ 0 → xs ≡ []
no_entry [] e = refl
no_entry (x ∷ xs) e = absurd (omega arith)

pub entries-empty : entries (finmap.empty {X = Text} {R = text_cmp}) ≡ []
entries-empty = no_entry (entries (finmap.empty {X = Text} {R = text_cmp})) (sym (len-entries (finmap.empty {X = Text} {R = text_cmp})) ∙ len-empty text_cmp Text)
