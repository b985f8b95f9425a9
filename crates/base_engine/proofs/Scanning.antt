-- The table of a space, read key after key.
use Rattle.std.proofs.Common.{◌≡◌, ◌<◌, ℕ, Bool, true, false, not, ◌&&◌, cond, eqb, T, List, [], ◌∷◌, ◌++◌, length, Option, Some, None, refl, sym, ap, subst, ◌∙◌, arith}
use Rattle.std.specs.List.{filter}
use Rattle.std.proofs.lemmas.List.{append_assoc, append-nil}
use Rattle.std.specs.Ordering.{is_eq, is_lt, is_ge, nat_cmp, ordering_then, ordering_reverse}
use Rattle.std.specs.declared.cmp.Ordering.{Ordering}
use Rattle.std.specs.declared.cmp.Ordering.TheVariants.{Less, Equal, Greater}
use Rattle.std.specs.Cmp.{IsTotalOrder, nat_cmp_total, ranked}
use Rattle.std.proofs.lemmas.Bool.{eqb-true}
use Rattle.std.proofs.lemmas.Bool.Decides.{nat_tests}
use Rattle.std.proofs.lemmas.Cmp.{nat_list_cmp_total, tied_itself, then_total, on_total}
use Rattle.std.proofs.lemmas.Map.Lookups.{CmpEqualImpliesEq, exact_pairs, exact_unsigned, exact_bytes}
use Rattle.std.specs.Cmp.Lexicographic.{slice_cmp}
use Rattle.std.specs.FinMap.{find, get, entries, entries_sorted, retain_keys, get-entries, get-retain_keys, get-from_entries}
use Rattle.std.specs.FinMap.Entries.{is_sorted, below_all}
use Rattle.delos_types.specs.Spaces.{SpaceMap, Text, text_cmp, space_cmp, first_key, least_key_from}
use Rattle.table_core.specs.Find.{pairs_of, pairs_between}
use Rattle.table_core.specs.declared.command.Pair.{Pair}
use Rattle.engine_steps.specs.Layout.{value_of}
use Rattle.base_engine.specs.Querying.{table_entries, table_in, IsNextPair}

-- Orders

space_total : IsTotalOrder space_cmp
space_total = then_total (on_total (λ (p : ℕ × Text). p.0) nat_cmp_total) (on_total (λ (p : ℕ × Text). p.1) nat_list_cmp_total)

space_exact : CmpEqualImpliesEq space_cmp
space_exact x y e = exact_pairs nat_cmp (slice_cmp nat_cmp) exact_unsigned exact_bytes x y e

less_of : (r : Ordering) → is_lt r ≡ true → r ≡ Less
less_of Less e = refl
less_of Equal e = absurd (cc)
less_of Greater e = absurd (cc)

not_ge : (r : Ordering) → is_ge r ≡ true → is_lt r ≡ false
not_ge Less e = absurd (cc)
not_ge Equal e = refl
not_ge Greater e = refl

ge_not : (r : Ordering) → is_ge r ≡ false → is_lt r ≡ true
ge_not Less e = refl
ge_not Equal e = absurd (cc)
ge_not Greater e = absurd (cc)

T_less : (r : Ordering) → T (is_lt r) → r ≡ Less
T_less Less h = refl
T_less Equal h = absurd h
T_less Greater h = absurd h

T_both : (a b : Bool) → T (a && b) → T a × T b
T_both true b h = (tt, h)
T_both false b h = absurd h

never : (b : Bool) → b ≡ true → b ≡ false → ⊥
never b t f = cc

none_some : (v : Text) → None ≡ Some v → ⊥
none_some v e = cc

-- The text behind a key

behind_above : (k : Text) → text_cmp k (k ++ 0 ∷ []) ≡ Less
behind_above [] = refl
behind_above (c ∷ cs) = ap (λ r. ordering_then r (text_cmp cs (cs ++ 0 ∷ []))) (tied_itself nat_cmp_total c) ∙ behind_above cs

not_below_zero : (y : ℕ) (r : Ordering) → nat_cmp y 0 ≡ r → (ys : Text) → is_lt (ordering_then r (text_cmp ys [])) ≡ false
not_below_zero y Less e ys = absurd (least y e)
  where
    least : (n : ℕ) → nat_cmp n 0 ≡ Less → ⊥
    least n e = let below : n < 0 = ranked n 0 Less (sym e) in omega (arith, below)
not_below_zero y Equal e [] = refl
not_below_zero y Equal e (z ∷ zs) = refl
not_below_zero y Greater e ys = refl

-- what is above a key isn't below the text behind it
behind_least : (k x : Text) → text_cmp k x ≡ Less → is_lt (text_cmp x (k ++ 0 ∷ [])) ≡ false
behind_least [] [] e = absurd (cc)
behind_least [] (y ∷ ys) e = not_below_zero y (nat_cmp y 0) refl ys
behind_least (c ∷ cs) [] e = absurd (cc)
behind_least (c ∷ cs) (y ∷ ys) e = by_first (behind_least cs ys) (nat_cmp c y) refl e
  where
    by_first : (text_cmp cs ys ≡ Less → is_lt (text_cmp ys (cs ++ 0 ∷ [])) ≡ false) → (r : Ordering) → nat_cmp c y ≡ r → ordering_then r (text_cmp cs ys) ≡ Less → is_lt (ordering_then (nat_cmp y c) (text_cmp ys (cs ++ 0 ∷ []))) ≡ false
    by_first rest Less is e = ap (λ o. is_lt (ordering_then o (text_cmp ys (cs ++ 0 ∷ [])))) (nat_cmp_total.antisymm y c ∙ ap ordering_reverse is)
    by_first rest Equal is e = ap (λ o. is_lt (ordering_then o (text_cmp ys (cs ++ 0 ∷ [])))) (nat_cmp_total.antisymm y c ∙ ap ordering_reverse is) ∙ rest e
    by_first rest Greater is e = absurd (cc)

-- What the table of a space has

find_table : (es : List ((ℕ × Text) × Text)) (q : Text) → find text_cmp q (table_entries es) ≡ find space_cmp (5, q) es
find_table [] q = refl
find_table (e ∷ es) q = by_kind (find_table es q) (eqb e.0.0 5) refl
  where
    other : (n : ℕ) → eqb n 5 ≡ false → (r : Ordering) → nat_cmp 5 n ≡ r → (o : Ordering) → is_eq (ordering_then r o) ≡ false
    other n apart Less is o = refl
    other n apart Equal is o = let same : 5 ≡ n = exact_unsigned 5 n is in absurd (grind (arith, nat_tests))
    other n apart Greater is o = refl

    by_kind : find text_cmp q (table_entries es) ≡ find space_cmp (5, q) es → (b : Bool) → eqb e.0.0 5 ≡ b → find text_cmp q (cond b ((e.0.1, e.1) ∷ table_entries es) (table_entries es)) ≡ cond (is_eq (ordering_then (nat_cmp 5 e.0.0) (text_cmp q e.0.1))) (Some e.1) (find space_cmp (5, q) es)
    by_kind rest true is =
        let kind : e.0.0 ≡ 5 = eqb-true _ _ is in
        ap (cond (is_eq (text_cmp q e.0.1)) (Some e.1)) rest
        ∙ ap (λ r. cond (is_eq (ordering_then r (text_cmp q e.0.1))) (Some e.1) (find space_cmp (5, q) es)) (sym (ap (nat_cmp 5) kind))
    by_kind rest false is =
        rest
        ∙ ap (λ b. cond b (Some e.1) (find space_cmp (5, q) es)) (sym (other e.0.0 is (nat_cmp 5 e.0.0) refl (text_cmp q e.0.1)))

-- a key of the table has its value in the space
pub table_value : (m : SpaceMap) (q : Text) → get (table_in m) q ≡ value_of m q
table_value m q = get-from_entries nat_list_cmp_total (table_entries (entries m)) q ∙ (find_table (entries m) q ∙ sym (get-entries m (5, q)))

-- The least key from a text on

abbrev from_text : Text → ℕ × Text → Bool
from_text from k = eqb k.0 5 && not (is_lt (text_cmp k.1 from))

-- where it is the least, no key from there on is below it
abbrev pub IsLeastFrom : SpaceMap → Text → Option Text → Type 0
IsLeastFrom m from None = (q : Text) → is_lt (text_cmp q from) ≡ false → value_of m q ≡ None
IsLeastFrom m from (Some k) =
    (is_lt (text_cmp k from) ≡ false) × ((v : Text) × (value_of m k ≡ Some v))
    × ((q : Text) → is_lt (text_cmp q from) ≡ false → text_cmp q k ≡ Less → value_of m q ≡ None)

find_below : (q x : ℕ × Text) (es : List ((ℕ × Text) × Text)) → space_cmp q x ≡ Less → T (below_all space_cmp x es) → find space_cmp q es ≡ None
find_below q x [] less h = refl
find_below q x (e ∷ es) less h =
    let parts = T_both (is_lt (space_cmp x e.0)) (below_all space_cmp x es) h in
    let below : space_cmp q e.0 ≡ Less = space_total.trans q x e.0 less (T_less (space_cmp x e.0) parts.0) in
    ap (λ (r : Ordering). cond (is_eq r) (Some e.1) (find space_cmp q es)) below ∙ find_below q x es less parts.1

find_before : (q : ℕ × Text) (e : (ℕ × Text) × Text) (es : List ((ℕ × Text) × Text)) → T (is_sorted space_cmp (e ∷ es)) → space_cmp q e.0 ≡ Less → find space_cmp q (e ∷ es) ≡ None
find_before q e es s less =
    let parts = T_both (below_all space_cmp e.0 es) (is_sorted space_cmp es) s in
    ap (λ (r : Ordering). cond (is_eq r) (Some e.1) (find space_cmp q es)) less ∙ find_below q e.0 es less parts.0

passes : (b : Bool) (o : Option Text) (v : Text) → cond b o None ≡ Some v → (b ≡ true) × (o ≡ Some v)
passes true o v e = (refl, e)
passes false o v e = absurd (none_some v e)

left_true : (a b : Bool) → (a && b) ≡ true → a ≡ true
left_true true b e = refl
left_true false b e = e

right_true : (a b : Bool) → (a && b) ≡ true → b ≡ true
right_true true b e = e
right_true false b e = absurd (cc)

not_true : (b : Bool) → not b ≡ true → b ≡ false
not_true true e = absurd (cc)
not_true false e = refl

module _ (m : SpaceMap) (from : Text) where
  kept_at : (q : Text) → is_lt (text_cmp q from) ≡ false → find space_cmp (5, q) (entries (retain_keys m (from_text from))) ≡ value_of m q
  kept_at q up =
      sym (get-entries (retain_keys m (from_text from)) (5, q))
      ∙ (get-retain_keys m (from_text from) (5, q) (λ x tie. ap (from_text from) (sym (space_exact (5, q) x tie)))
      ∙ ap (λ b. cond (not b) (value_of m q) None) up)

  kept_in : (k : ℕ × Text) (v : Text) → find space_cmp k (entries (retain_keys m (from_text from))) ≡ Some v → (from_text from k ≡ true) × (get m k ≡ Some v)
  kept_in k v h =
      passes (from_text from k) (get m k) v
      (sym (get-retain_keys m (from_text from) k (λ x tie. ap (from_text from) (sym (space_exact k x tie)))) ∙ (get-entries (retain_keys m (from_text from)) k ∙ h))

  least_in : (es : List ((ℕ × Text) × Text)) → entries (retain_keys m (from_text from)) ≡ es → T (is_sorted space_cmp es) → IsLeastFrom m from (first_key es)
  least_in [] is sorted = λ q up. sym (kept_at q up) ∙ ap (find space_cmp (5, q)) is
  least_in (e ∷ es) is sorted =
      let own : find space_cmp e.0 (e ∷ es) ≡ Some e.1 = ap (λ (r : Ordering). cond (is_eq r) (Some e.1) (find space_cmp e.0 es)) (tied_itself space_total e.0) in
      let there = kept_in e.0 e.1 (ap (find space_cmp e.0) is ∙ own) in
      let kind : e.0.0 ≡ 5 = eqb-true _ _ (left_true (eqb e.0.0 5) (not (is_lt (text_cmp e.0.1 from))) there.0) in
      let up : is_lt (text_cmp e.0.1 from) ≡ false = not_true (is_lt (text_cmp e.0.1 from)) (right_true (eqb e.0.0 5) (not (is_lt (text_cmp e.0.1 from))) there.0) in
      let value : value_of m e.0.1 ≡ Some e.1 = subst (λ (n : ℕ). get m (n, e.0.1) ≡ Some e.1) kind there.1 in (
        up,
        (e.1, value),
        λ q high less.
            let before : space_cmp (5, q) e.0 ≡ Less = ap (λ (n : ℕ). ordering_then (nat_cmp 5 n) (text_cmp q e.0.1)) kind ∙ less in
            sym (kept_at q high) ∙ (ap (find space_cmp (5, q)) is ∙ find_before (5, q) e es sorted before),
      )

pub least_from : (m : SpaceMap) (from : Text) (r : Option Text) → r ≡ least_key_from m 5 from → IsLeastFrom m from r
least_from m from r is =
    let kept = retain_keys m (from_text from) in
    subst (IsLeastFrom m from) (sym is) (least_in m from (entries kept) refl (entries_sorted kept))

-- The pairs between two texts

abbrev is_between : Text → Text → Text → Bool
is_between low high q = not (is_lt (text_cmp q low)) && is_lt (text_cmp q high)

abbrev between : Text → Text → List (Text × Text) → List (Text × Text)
between low high = filter (λ e. not (is_lt (text_cmp e.0 low)) && is_lt (text_cmp e.0 high))

-- the head of entries is found
own_found : (e : Text × Text) (es : List (Text × Text)) → find text_cmp e.0 (e ∷ es) ≡ Some e.1
own_found e es = ap (λ (r : Ordering). cond (is_eq r) (Some e.1) (find text_cmp e.0 es)) (tied_itself nat_list_cmp_total e.0)

-- what isn't found in entries isn't found in their rest
rest_none : (q : Text) (b : Bool) (v : Text) (o : Option Text) → cond b (Some v) o ≡ None → o ≡ None
rest_none q true v o e = absurd (none_some v (sym e))
rest_none q false v o e = e

outside : (low high q : Text) → (is_lt (text_cmp q low) ≡ false → is_lt (text_cmp q high) ≡ true → ⊥) → is_between low high q ≡ false
outside low high q apart = by_tests (is_lt (text_cmp q low)) (is_lt (text_cmp q high)) apart
  where
    by_tests : (a b : Bool) → (a ≡ false → b ≡ true → ⊥) → (not a && b) ≡ false
    by_tests true b h = refl
    by_tests false true h = absurd (h refl refl)
    by_tests false false h = refl

none_between : (low high : Text) (es : List (Text × Text)) → ((q : Text) → is_lt (text_cmp q low) ≡ false → is_lt (text_cmp q high) ≡ true → find text_cmp q es ≡ None) → between low high es ≡ []
none_between low high [] none = refl
none_between low high (e ∷ es) none =
    let out : is_between low high e.0 ≡ false = outside low high e.0 (λ up down. none_some e.1 (sym (none e.0 up down) ∙ own_found e es)) in
    ap (λ b. cond b (e ∷ between low high es) (between low high es)) out
    ∙ none_between low high es (λ q up down. rest_none q (is_eq (text_cmp q e.0)) e.1 (find text_cmp q es) (none q up down))

-- entries above a key are between the same texts from there on
above_all : (low high k : Text) (es : List (Text × Text)) → is_lt (text_cmp k low) ≡ false → T (below_all text_cmp k es) → between low high es ≡ between (k ++ 0 ∷ []) high es
above_all low high k [] up below = refl
above_all low high k (e ∷ es) up below =
    let parts = T_both (is_lt (text_cmp k e.0)) (below_all text_cmp k es) below in
    let less : text_cmp k e.0 ≡ Less = T_less (text_cmp k e.0) parts.0 in
    let first : is_lt (text_cmp e.0 low) ≡ false = not_under e.0 less (is_lt (text_cmp e.0 low)) refl in
    let second : is_lt (text_cmp e.0 (k ++ 0 ∷ [])) ≡ false = behind_least k e.0 less in
    ap (λ b. cond (not b && is_lt (text_cmp e.0 high)) (e ∷ between low high es) (between low high es)) (first ∙ sym second)
    ∙ ap (λ xs. cond (is_between (k ++ 0 ∷ []) high e.0) (e ∷ xs) xs) (above_all low high k es up parts.1)
  where
    not_under : (x : Text) → text_cmp k x ≡ Less → (b : Bool) → is_lt (text_cmp x low) ≡ b → is_lt (text_cmp x low) ≡ false
    not_under x less true is = absurd (never (is_lt (text_cmp k low)) (ap is_lt (nat_list_cmp_total.trans k x low less (less_of (text_cmp x low) is))) up)
    not_under x less false is = is

find_under : (q x : Text) (es : List (Text × Text)) → text_cmp q x ≡ Less → T (below_all text_cmp x es) → find text_cmp q es ≡ None
find_under q x [] less h = refl
find_under q x (e ∷ es) less h =
    let parts = T_both (is_lt (text_cmp x e.0)) (below_all text_cmp x es) h in
    let below : text_cmp q e.0 ≡ Less = nat_list_cmp_total.trans q x e.0 less (T_less (text_cmp x e.0) parts.0) in
    ap (λ (r : Ordering). cond (is_eq r) (Some e.1) (find text_cmp q es)) below ∙ find_under q x es less parts.1

-- the least key from low on is the first between
first_between : (low high k v : Text) (es : List (Text × Text)) → T (is_sorted text_cmp es) → is_lt (text_cmp k low) ≡ false → is_lt (text_cmp k high) ≡ true → find text_cmp k es ≡ Some v → ((q : Text) → is_lt (text_cmp q low) ≡ false → text_cmp q k ≡ Less → find text_cmp q es ≡ None)
    → between low high es ≡ (k, v) ∷ between (k ++ 0 ∷ []) high es
first_between low high k v [] sorted up down at none = absurd (none_some v at)
first_between low high k v (e ∷ es) sorted up down at none = by_order (λ there apart. first_between low high k v es parts.1 up down there apart) (text_cmp k e.0) refl
  where
    parts : T (below_all text_cmp e.0 es) × T (is_sorted text_cmp es)
    parts = T_both (below_all text_cmp e.0 es) (is_sorted text_cmp es) sorted

    by_order : (find text_cmp k es ≡ Some v → ((q : Text) → is_lt (text_cmp q low) ≡ false → text_cmp q k ≡ Less → find text_cmp q es ≡ None) → between low high es ≡ (k, v) ∷ between (k ++ 0 ∷ []) high es)
        → (r : Ordering) → text_cmp k e.0 ≡ r → between low high (e ∷ es) ≡ (k, v) ∷ between (k ++ 0 ∷ []) high (e ∷ es)
    by_order on Less is =
        absurd (none_some v (sym (ap (λ (r : Ordering). cond (is_eq r) (Some e.1) (find text_cmp k es)) is ∙ find_under k e.0 es is parts.0) ∙ at))
    by_order on Equal is =
        let same : k ≡ e.0 = exact_bytes k e.0 is in
        let both : Some e.1 ≡ Some v = sym (ap (λ (r : Ordering). cond (is_eq r) (Some e.1) (find text_cmp k es)) is) ∙ at in
        let value : e.1 ≡ v = cc in
        let in_it : is_between low high e.0 ≡ true = subst (λ (x : Text). is_between low high x ≡ true) same (ap (λ b. not b && is_lt (text_cmp k high)) up ∙ down) in
        let out_of_it : is_between (k ++ 0 ∷ []) high e.0 ≡ false = subst (λ (x : Text). is_between (k ++ 0 ∷ []) high x ≡ false) same (ap (λ (r : Ordering). not (is_lt r) && is_lt (text_cmp k high)) (behind_above k)) in
        let pair : e ≡ (k, v) = λ i. (sym same i, value i) in
        let below : T (below_all text_cmp k es) = subst (λ (x : Text). T (below_all text_cmp x es)) (sym same) parts.0 in
        ap (λ b. cond b (e ∷ between low high es) (between low high es)) in_it
        ∙ (ap (λ (x : Text × Text). x ∷ between low high es) pair
        ∙ (ap (λ xs. (k, v) ∷ xs) (above_all low high k es up below)
        ∙ ap (λ b. (k, v) ∷ cond b (e ∷ between (k ++ 0 ∷ []) high es) (between (k ++ 0 ∷ []) high es)) (sym out_of_it)))
    by_order on Greater is =
        let less : text_cmp e.0 k ≡ Less = nat_list_cmp_total.antisymm e.0 k ∙ ap ordering_reverse is in
        let out : is_between low high e.0 ≡ false = outside low high e.0 (λ from to. none_some e.1 (sym (none e.0 from less) ∙ own_found e es)) in
        let under : text_cmp e.0 (k ++ 0 ∷ []) ≡ Less = nat_list_cmp_total.trans e.0 k (k ++ 0 ∷ []) less (behind_above k) in
        let out_of_it : is_between (k ++ 0 ∷ []) high e.0 ≡ false = ap (λ (r : Ordering). not (is_lt r) && is_lt (text_cmp e.0 high)) under in
        let at_rest : find text_cmp k es ≡ Some v = sym (ap (λ (r : Ordering). cond (is_eq r) (Some e.1) (find text_cmp k es)) is) ∙ at in
        ap (λ b. cond b (e ∷ between low high es) (between low high es)) out
        ∙ (on at_rest (λ q from to. rest_none q (is_eq (text_cmp q e.0)) e.1 (find text_cmp q es) (none q from to))
        ∙ ap (λ b. (k, v) ∷ cond b (e ∷ between (k ++ 0 ∷ []) high es) (between (k ++ 0 ∷ []) high es)) (sym out_of_it))

in_table : (m : SpaceMap) (q : Text) → find text_cmp q (entries (table_in m)) ≡ value_of m q
in_table m q = sym (get-entries (table_in m) q) ∙ table_value m q

-- Steps of a scan

pub next_none : (m : SpaceMap) (from high : Text) → IsLeastFrom m from None → IsNextPair m from high None
next_none m from high least = ap pairs_of (none_between from high (entries (table_in m)) (λ q up down. in_table m q ∙ least q up))

pub next_beyond : (m : SpaceMap) (from high k : Text) → IsLeastFrom m from (Some k) → is_ge (text_cmp k high) ≡ true → IsNextPair m from high None
next_beyond m from high k least ge =
    ap pairs_of (none_between from high (entries (table_in m)) (λ q up down. in_table m q ∙ least.2 q up (under q down)))
  where
    beyond : is_lt (text_cmp k high) ≡ false
    beyond = not_ge (text_cmp k high) ge

    under : (q : Text) → is_lt (text_cmp q high) ≡ true → text_cmp q k ≡ Less
    under q down = by_order (text_cmp q k) refl
      where
        by_order : (r : Ordering) → text_cmp q k ≡ r → text_cmp q k ≡ Less
        by_order Less is = is
        by_order Equal is = absurd (never (is_lt (text_cmp k high)) (ap is_lt (sym (nat_list_cmp_total.congr q k high is)) ∙ down) beyond)
        by_order Greater is =
            let less : text_cmp k q ≡ Less = nat_list_cmp_total.antisymm k q ∙ ap ordering_reverse is in
            absurd (never (is_lt (text_cmp k high)) (ap is_lt (nat_list_cmp_total.trans k q high less (less_of (text_cmp q high) down))) beyond)

pub next_some : (m : SpaceMap) (from high k v : Text) → IsLeastFrom m from (Some k) → is_ge (text_cmp k high) ≡ false → value_of m k ≡ Some v → IsNextPair m from high (Some (record { key = k; value = v }))
next_some m from high k v least apart value =
    ap pairs_of (first_between from high k v (entries (table_in m)) (entries_sorted (table_in m)) least.0 (ge_not (text_cmp k high) apart) (in_table m k ∙ value) (λ q up less. in_table m q ∙ least.2 q up less))

-- a key that was found has a value
pub least_has : (m : SpaceMap) (from k : Text) → IsLeastFrom m from (Some k) → value_of m k ≡ None → ⊥
least_has m from k least none = none_some least.1.0 (sym none ∙ least.1.1)

-- what was found so far, and the rest
pub scan_on : (m : SpaceMap) (from high : Text) (p : Pair) (done all : List Pair) → IsNextPair m from high (Some p) → done ++ pairs_between (table_in m) from high ≡ all → (done ++ p ∷ []) ++ pairs_between (table_in m) (p.key ++ 0 ∷ []) high ≡ all
scan_on m from high p done all next so_far = append_assoc done (p ∷ []) (pairs_between (table_in m) (p.key ++ 0 ∷ []) high) ∙ (ap (λ l. done ++ l) (sym next) ∙ so_far)

pub scan_less : (m : SpaceMap) (from high : Text) (p : Pair) → IsNextPair m from high (Some p) → length (pairs_between (table_in m) (p.key ++ 0 ∷ []) high) < length (pairs_between (table_in m) from high)
scan_less m from high p next = omega (arith, ap length next)

pub scan_end : (m : SpaceMap) (from high : Text) (done all : List Pair) → IsNextPair m from high None → done ++ pairs_between (table_in m) from high ≡ all → done ≡ all
scan_end m from high done all next so_far = sym (append-nil done) ∙ (ap (λ l. done ++ l) (sym next) ∙ so_far)
