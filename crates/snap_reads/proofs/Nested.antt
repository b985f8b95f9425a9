-- Maps of maps, and the map of pairs that they make.
use Rattle.std.proofs.Common.{◌≡◌, ℕ, Bool, true, false, not, cond, List, [], ◌∷◌, map, Option, Some, None, refl, sym, ap, subst, ◌∙◌, ◌⊎◌, inl, inr, ⊎_elim}
use Rattle.std.specs.Prelude.{Result, Ok, Err, OnOk, OnErr}
use Rattle.std.specs.Ordering.{is_eq, nat_cmp, ordering_then, eq_by_cmp}
use Rattle.std.specs.declared.cmp.Ordering.{Ordering}
use Rattle.std.specs.declared.cmp.Ordering.TheVariants.{Less, Equal, Greater}
use Rattle.std.specs.Cmp.{IsTotalOrder}
use Rattle.std.specs.Cmp.Lexicographic.{slice_cmp}
use Rattle.std.specs.Map.{lookup, KeepsOthers, IsKeyTest, AreApart}
use Rattle.std.specs.BTreeMap.{BTreeMap, is_at, get_by, UpdatesBy}
use Rattle.std.proofs.lemmas.Bool.{cases_Bool, cond-true, cond-false}
use Rattle.std.proofs.lemmas.Cmp.{nat_list_cmp_total, eq_by_cmp_equiv, then_total, on_total}
use Rattle.std.proofs.lemmas.Map.Lookups.{exact_bytes, exact_pairs}
use Rattle.std.specs.FinMap as finmap
use Rattle.std.specs.FinMap.{FinMap, find, get, insert, remove, retain_keys, from_entries, entries, get-entries, get-from_entries, get-insert, get-remove, get-retain_keys, get-empty, same_map}
use Rattle.std.specs.declared.vec.Vec.{Vec}
use Rattle.delos_types.specs.Spaces.{Text, text_cmp}
use Rattle.snap_reads.specs.Tables.{TablesMap, place_cmp}
use Rattle.snap_reads.specs.Nested.{by_text, put_all, flat}

abbrev pub RowsMap : Type 0
RowsMap = FinMap text_cmp Text

pub place_total : IsTotalOrder place_cmp
place_total = then_total (on_total (λ (p : Text × Text). p.0) nat_list_cmp_total) (on_total (λ (p : Text × Text). p.1) nat_list_cmp_total)

exact_place : (x y : Text × Text) → place_cmp x y ≡ Equal → x ≡ y
exact_place = exact_pairs text_cmp text_cmp exact_bytes exact_bytes

same_order : (k q : Text) → is_eq (text_cmp k q) ≡ is_eq (text_cmp q k)
same_order k q = (eq_by_cmp_equiv nat_list_cmp_total).symm k q

equal_is : (o : Ordering) → is_eq o ≡ true → o ≡ Equal
equal_is Less e = absurd (cc)
equal_is Equal e = refl
equal_is Greater e = absurd (cc)

-- ---- entries by the bytes of their names

abbrev pub found : {X : Type 0} → List (Text × X) → Text → Option X
found es q = lookup (is_at (text_cmp q)) es

pub found-by_text : {Y X : Type 0} (es : List (Vec ℕ Y × X)) (q : Text) → found (by_text es) q ≡ lookup (is_at (λ k. text_cmp q k.items)) es
found-by_text [] q = refl
found-by_text (e ∷ es) q = ap (cond (is_eq (text_cmp q e.0.items)) (Some e.1)) (found-by_text es q)

other_entries : {K X : Type 0} (eq : K → K → Bool) (test : K → Bool) (old new : List (K × X)) → KeepsOthers eq test old new → (other : K → Bool) → IsKeyTest eq other → AreApart test other → lookup other new ≡ lookup other old
unfolding KeepsOthers
other_entries eq test old new h = h

apart : (bs cs ks : Text) → is_eq (text_cmp cs bs) ≡ false → is_eq (text_cmp bs ks) ≡ true → is_eq (text_cmp cs ks) ≡ false
apart bs cs ks n y = ap (λ (k : Text). is_eq (text_cmp cs k)) (sym (exact_bytes bs ks (equal_is _ y))) ∙ n

-- a change at one name leaves what is found at others
pub updated : {Y X : Type 0} (bs : Text) (m n : BTreeMap (Vec ℕ Y) X) (w : Option X) → UpdatesBy (λ x y. text_cmp x.items y.items) (λ k. text_cmp bs k.items) m n w
    → (q : Text) → found (by_text n.entries) q ≡ cond (is_eq (text_cmp q bs)) w (found (by_text m.entries) q)
updated {Y} {X} bs m n w h q = ⊎_elim here there (cases_Bool (is_eq (text_cmp q bs)))
  where
    here : is_eq (text_cmp q bs) ≡ true → found (by_text n.entries) q ≡ cond (is_eq (text_cmp q bs)) w (found (by_text m.entries) q)
    here y = found-by_text n.entries q ∙ ap (λ (t : Text). get_by (λ k. text_cmp t k.items) n) (exact_bytes q bs (equal_is _ y)) ∙ h.1 ∙ sym (cond-true _ w _ y)

    there : is_eq (text_cmp q bs) ≡ false → found (by_text n.entries) q ≡ cond (is_eq (text_cmp q bs)) w (found (by_text m.entries) q)
    there e = found-by_text n.entries q
        ∙ other_entries (eq_by_cmp (λ (x y : Vec ℕ Y). text_cmp x.items y.items)) (is_at (λ k. text_cmp bs k.items)) m.entries n.entries h.3 (is_at (λ k. text_cmp q k.items)) (λ x y. (eq_by_cmp_equiv nat_list_cmp_total).congr q x.items y.items) (λ k. apart bs q k.items e)
        ∙ sym (found-by_text m.entries q) ∙ sym (cond-false _ w _ e)

-- ---- the rows of one table

find_is : (es : List (Text × Text)) (q : Text) → find text_cmp q es ≡ found es q
find_is [] q = refl
find_is (e ∷ es) q = ap (cond (is_at (text_cmp q) e.0) (Some e.1)) (find_is es q)

pub get_rows : (es : List (Text × Text)) (q : Text) → get (from_entries {R = text_cmp} es) q ≡ found es q
get_rows es q = get-from_entries nat_list_cmp_total es q ∙ find_is es q

pub rows_set : (es fs : List (Text × Text)) (k v : Text) → ((q : Text) → found fs q ≡ cond (is_eq (text_cmp q k)) (Some v) (found es q)) → from_entries {R = text_cmp} fs ≡ insert (from_entries es) k v
rows_set es fs k v h = same_map nat_list_cmp_total exact_bytes _ _ (λ q. get_rows fs q ∙ h q ∙ sym (get-insert nat_list_cmp_total (from_entries es) k v q ∙ ap (cond (is_eq (text_cmp q k)) (Some v)) (get_rows es q)))

pub rows_removed : (es fs : List (Text × Text)) (k : Text) → ((q : Text) → found fs q ≡ cond (is_eq (text_cmp q k)) None (found es q)) → from_entries {R = text_cmp} fs ≡ remove (from_entries es) k
rows_removed es fs k h = same_map nat_list_cmp_total exact_bytes _ _ (λ q. get_rows fs q ∙ h q ∙ sym (get-remove nat_list_cmp_total (from_entries es) k q ∙ ap (cond (is_eq (text_cmp q k)) None) (get_rows es q)))

-- ---- the map of pairs

abbrev or_else : Option Text → Option Text → Option Text
or_else (Some v) other = Some v
or_else None other = other

or_none : (o : Option Text) → or_else o None ≡ o
or_none (Some v) = refl
or_none None = refl

same_both : (b : Bool) (g : Option Text) → cond b g g ≡ g
same_both true g = refl
same_both false g = refl

one_more : (a b : Ordering) (v : Text) (rest g : Option Text) → cond (is_eq (ordering_then a b)) (Some v) (cond (is_eq a) (or_else rest g) g) ≡ cond (is_eq a) (or_else (cond (is_eq b) (Some v) rest) g) g
one_more Less b v rest g = refl
one_more Greater b v rest g = refl
one_more Equal Less v rest g = refl
one_more Equal Equal v rest g = refl
one_more Equal Greater v rest g = refl

get-put_all : (t : Text) (es : List (Text × Text)) (m : TablesMap) (q : Text × Text) → get (put_all t es m) q ≡ cond (is_eq (text_cmp q.0 t)) (or_else (find text_cmp q.1 es) (get m q)) (get m q)
get-put_all t [] m q = sym (same_both (is_eq (text_cmp q.0 t)) (get m q))
get-put_all t (e ∷ es) m q =
    get-insert place_total (put_all t es m) (t, e.0) e.1 q
    ∙ ap (cond (is_eq (ordering_then (text_cmp q.0 t) (text_cmp q.1 e.0))) (Some e.1)) (get-put_all t es m q)
    ∙ one_more (text_cmp q.0 t) (text_cmp q.1 e.0) e.1 (find text_cmp q.1 es) (get m q)

-- what a table that is there or not has at a key
abbrev pub get_in : Option RowsMap → Text → Option Text
get_in None key = None
get_in (Some rows) key = get rows key

abbrev others : Text → TablesMap → TablesMap
others t m = retain_keys m (λ place. not (is_eq (text_cmp t place.0)))

get-others : (t : Text) (m : TablesMap) (q : Text × Text) → get (others t m) q ≡ cond (is_eq (text_cmp q.0 t)) None (get m q)
get-others t m q =
    get-retain_keys m (λ place. not (is_eq (text_cmp t place.0))) q (λ x tie. ap (λ (p : Text × Text). not (is_eq (text_cmp t p.0))) (sym (exact_place q x tie)))
    ∙ ap (λ (b : Bool). cond (not b) (get m q) None) (same_order t q.0)
    ∙ turned (is_eq (text_cmp q.0 t)) (get m q)
  where
    turned : (b : Bool) (g : Option Text) → cond (not b) g None ≡ cond b None g
    turned true g = refl
    turned false g = refl

pub get-flat : (es : List (Text × RowsMap)) (table key : Text) → get (flat es) (table, key) ≡ get_in (found es table) key
get-flat [] table key = get-empty place_cmp (table, key)
get-flat (e ∷ es) table key =
    get-put_all e.0 (entries e.1) (others e.0 (flat es)) (table, key)
    ∙ ap (λ (g : Option Text). cond (is_eq (text_cmp table e.0)) (or_else (find text_cmp key (entries e.1)) g) g) (get-others e.0 (flat es) (table, key))
    ∙ by (is_eq (text_cmp table e.0)) (find text_cmp key (entries e.1)) (get (flat es) (table, key)) (get-entries e.1 key) (get-flat es table key)
  where
    by : (b : Bool) (here there : Option Text) → get e.1 key ≡ here → there ≡ get_in (found es table) key → cond b (or_else here (cond b None there)) (cond b None there) ≡ get_in (cond b (Some e.1) (found es table)) key
    by true here there is rest = or_none here ∙ sym is
    by false here there is rest = rest

-- a change of one table at one key is a change at the pair
pub pair_updated : (old new : List (Text × RowsMap)) (t k : Text) (w : Option Text) (rows : RowsMap)
    → ((q : Text) → found new q ≡ cond (is_eq (text_cmp q t)) (Some rows) (found old q))
    → ((q : Text) → get rows q ≡ cond (is_eq (text_cmp q k)) w (get_in (found old t) q))
    → (q : Text × Text) → get (flat new) q ≡ cond (is_eq (place_cmp q (t, k))) w (get (flat old) q)
pair_updated old new t k w rows tables at q =
    get-flat new q.0 q.1 ∙ ap (λ (o : Option RowsMap). get_in o q.1) (tables q.0) ∙ by (text_cmp q.0 t) refl
    ∙ ap (cond (is_eq (place_cmp q (t, k))) w) (sym (get-flat old q.0 q.1))
  where
    by : (o : Ordering) → text_cmp q.0 t ≡ o → get_in (cond (is_eq o) (Some rows) (found old q.0)) q.1 ≡ cond (is_eq (ordering_then o (text_cmp q.1 k))) w (get_in (found old q.0) q.1)
    by Less e = refl
    by Equal e = at q.1 ∙ ap (λ (s : Text). cond (is_eq (text_cmp q.1 k)) w (get_in (found old s) q.1)) (sym (exact_bytes q.0 t e))
    by Greater e = refl

pub pair_set : (old new : List (Text × RowsMap)) (t k v : Text) (rows : RowsMap)
    → ((q : Text) → found new q ≡ cond (is_eq (text_cmp q t)) (Some rows) (found old q))
    → ((q : Text) → get rows q ≡ cond (is_eq (text_cmp q k)) (Some v) (get_in (found old t) q))
    → flat new ≡ insert (flat old) (t, k) v
pair_set old new t k v rows tables at = same_map place_total exact_place _ _ (λ q. pair_updated old new t k (Some v) rows tables at q ∙ sym (get-insert place_total (flat old) (t, k) v q))

pub pair_removed : (old new : List (Text × RowsMap)) (t k : Text) (rows : RowsMap)
    → ((q : Text) → found new q ≡ cond (is_eq (text_cmp q t)) (Some rows) (found old q))
    → ((q : Text) → get rows q ≡ cond (is_eq (text_cmp q k)) None (get_in (found old t) q))
    → flat new ≡ remove (flat old) (t, k)
pair_removed old new t k rows tables at = same_map place_total exact_place _ _ (λ q. pair_updated old new t k None rows tables at q ∙ sym (get-remove place_total (flat old) (t, k) q))

-- the same entries by name, whatever else
pub same_flat : (old new : List (Text × RowsMap)) → ((q : Text) → found new q ≡ found old q) → flat new ≡ flat old
same_flat old new same = same_map place_total exact_place _ _ (λ q. get-flat new q.0 q.1 ∙ ap (λ (o : Option RowsMap). get_in o q.1) (same q.0) ∙ sym (get-flat old q.0 q.1))

-- nothing is removed where the table isn't there
pub none_removed : (old : List (Text × RowsMap)) (t k : Text) → found old t ≡ None → flat old ≡ remove (flat old) (t, k)
none_removed old t k none = same_map place_total exact_place _ _ (λ q. by q (text_cmp q.0 t) refl ∙ sym (get-remove place_total (flat old) (t, k) q))
  where
    by : (q : Text × Text) (o : Ordering) → text_cmp q.0 t ≡ o → get (flat old) q ≡ cond (is_eq (ordering_then (text_cmp q.0 t) (text_cmp q.1 k))) None (get (flat old) q)
    by q o e = rw e (at q o e)
      where
        at : (q : Text × Text) (o : Ordering) → text_cmp q.0 t ≡ o → get (flat old) q ≡ cond (is_eq (ordering_then o (text_cmp q.1 k))) None (get (flat old) q)
        at q Less e = refl
        at q Greater e = refl
        at q Equal e =
            let gone : get (flat old) q ≡ None = get-flat old q.0 q.1 ∙ ap (λ (s : Text). get_in (found old s) q.1) (exact_bytes q.0 t e) ∙ ap (λ (o : Option RowsMap). get_in o q.1) none in
            gone ∙ sym (ap (cond (is_eq (text_cmp q.1 k)) None) gone ∙ same_both (is_eq (text_cmp q.1 k)) None)

-- ---- the rows of the table that is changed

pub rows_with : (rows new : RowsMap) (old : List (Text × RowsMap)) (t k v : Text) → found old t ≡ Some rows → new ≡ insert rows k v
    → (q : Text) → get new q ≡ cond (is_eq (text_cmp q k)) (Some v) (get_in (found old t) q)
rows_with rows new old t k v there is q =
    ap (λ (m : RowsMap). get m q) is ∙ get-insert nat_list_cmp_total rows k v q
    ∙ ap (λ (o : Option RowsMap). cond (is_eq (text_cmp q k)) (Some v) (get_in o q)) (sym there)

pub rows_without : (rows new : RowsMap) (old : List (Text × RowsMap)) (t k : Text) → found old t ≡ Some rows → new ≡ remove rows k
    → (q : Text) → get new q ≡ cond (is_eq (text_cmp q k)) None (get_in (found old t) q)
rows_without rows new old t k there is q =
    ap (λ (m : RowsMap). get m q) is ∙ get-remove nat_list_cmp_total rows k q
    ∙ ap (λ (o : Option RowsMap). cond (is_eq (text_cmp q k)) None (get_in o q)) (sym there)

pub rows_made : (empty new : RowsMap) (old : List (Text × RowsMap)) (t k v : Text) → found old t ≡ None → empty ≡ finmap.empty → new ≡ insert empty k v
    → (q : Text) → get new q ≡ cond (is_eq (text_cmp q k)) (Some v) (get_in (found old t) q)
rows_made empty new old t k v none nothing is q =
    ap (λ (m : RowsMap). get m q) is ∙ get-insert nat_list_cmp_total empty k v q
    ∙ ap (cond (is_eq (text_cmp q k)) (Some v)) (ap (λ (m : RowsMap). get m q) nothing ∙ get-empty text_cmp q)
    ∙ ap (λ (o : Option RowsMap). cond (is_eq (text_cmp q k)) (Some v) (get_in o q)) (sym none)

-- rows that are put where they were change nothing
pub same_rows : (old new : List (Text × RowsMap)) (t : Text) (rows back : RowsMap) → found old t ≡ Some rows → back ≡ rows
    → ((q : Text) → found new q ≡ cond (is_eq (text_cmp q t)) (Some back) (found old q)) → flat new ≡ flat old
same_rows old new t rows back there is tables = same_flat old new (λ q. tables q ∙ by q (text_cmp q t) refl)
  where
    by : (q : Text) (o : Ordering) → text_cmp q t ≡ o → cond (is_eq (text_cmp q t)) (Some back) (found old q) ≡ found old q
    by q o e = rw e (at q o e)
      where
        at : (q : Text) (o : Ordering) → text_cmp q t ≡ o → cond (is_eq o) (Some back) (found old q) ≡ found old q
        at q Less e = refl
        at q Greater e = refl
        at q Equal e = ap (λ (m : RowsMap). Some m) is ∙ sym there ∙ ap (found old) (sym (exact_bytes q t e))

-- ---- what holds at one outcome

pub on_ok : {A E : Type 0} (r : Result A E) {P Q : Type 0} → (P → Q) → OnOk r P → OnOk r Q
on_ok (Ok a) f h = f h
on_ok (Err e) f h = tt

pub on_err : {A E : Type 0} (r : Result A E) {P Q : Type 0} → (P → Q) → OnErr r P → OnErr r Q
on_err (Ok a) f h = tt
on_err (Err e) f h = f h
