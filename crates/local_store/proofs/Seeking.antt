-- The next key of a kind: in slots in order, in a space that was changed, and in a finite map.
use Rattle.std.proofs.Common.{◌≡◌, ℕ, ◌⊎◌, inl, inr, Bool, true, false, not, ◌&&◌, cond, eqb, T, List, [], ◌∷◌, Option, Some, None, refl, sym, ap, subst, ◌∙◌}
use Rattle.std.specs.Prelude.{is_some, IsSome, IfSome, MatchOption, unwrap_or}
use Rattle.std.specs.List.{AllByRecursion}
use Rattle.std.specs.Map.{keys_of}
use Rattle.std.specs.Ordering.{is_eq, is_lt, is_le, is_gt, nat_cmp, ordering_then, ordering_reverse}
use Rattle.std.specs.declared.cmp.Ordering.{Ordering}
use Rattle.std.specs.declared.cmp.Ordering.TheVariants.{Less, Equal, Greater}
use Rattle.std.specs.declared.ops.Bound.TheVariants.{Included, Unbounded}
use Rattle.std.specs.BTreeMap.{is_at}
use Rattle.std.specs.BTreeMap.Range.{entries_between}
use Rattle.std.specs.Cmp.{nat_cmp_total}
use Rattle.std.proofs.lemmas.Bool.{eqb-true}
use Rattle.std.proofs.lemmas.Bool.Decides.{nat_tests}
use Rattle.std.proofs.Common.{arith}
use Rattle.std.proofs.lemmas.Cmp.{nat_list_cmp_total, tied_itself, upto}
use Rattle.std.proofs.lemmas.Map.Lookups.{exact_unsigned, exact_bytes}
use Rattle.std.specs.FinMap.{find, get, entries, entries_sorted, retain_keys, get-entries, get-retain_keys}
use Rattle.std.specs.FinMap.Entries.{is_sorted, below_all}
use Rattle.delos_types.specs.Spaces.{SpaceMap, Text, text_cmp, space_cmp, first_key, least_key_from}
use Rattle.local_store.specs.Keys.{KeyView, key_cmp, key_total}
use Rattle.local_store.specs.Slots.{Entries, slot_of, value_in, first_shown, lesser_of}
use Rattle.local_store.proofs.SlotLaws.{space_total, space_exact, at_same, none_later, IsInOrder, head_below, tail_ordered}

-- ---- answers of comparisons

is_less : (r : Ordering) → is_lt r ≡ true → r ≡ Less
is_less Less e = refl
is_less Equal e = absurd cc
is_less Greater e = absurd cc

is_greater : (r : Ordering) → is_le r ≡ false → r ≡ Greater
is_greater Less e = absurd cc
is_greater Equal e = absurd cc
is_greater Greater e = refl

is_lt-reverse : (r : Ordering) → is_lt (ordering_reverse r) ≡ is_gt r
is_lt-reverse Less = refl
is_lt-reverse Equal = refl
is_lt-reverse Greater = refl

not_greater : (r : Ordering) → is_le r ≡ true → is_gt r ≡ false
not_greater Less e = refl
not_greater Equal e = refl
not_greater Greater e = absurd cc

not_both : (r : Ordering) → is_gt r ≡ true → is_gt (ordering_reverse r) ≡ false
not_both Less e = absurd cc
not_both Equal e = refl
not_both Greater e = refl

-- a text isn't below another exactly where the other isn't above it
pub lt-gt : (x y : Text) → is_lt (text_cmp x y) ≡ is_gt (text_cmp y x)
lt-gt x y = ap is_lt (nat_list_cmp_total.antisymm x y) ∙ is_lt-reverse (text_cmp y x)

never_equal : (b : Bool) → b ≡ true → b ≡ false → ⊥
never_equal b t f = cc

left_true : (a b : Bool) → (a && b) ≡ true → a ≡ true
left_true true b e = refl
left_true false b e = absurd cc

right_true : (a b : Bool) → (a && b) ≡ true → b ≡ true
right_true true b e = e
right_true false b e = absurd cc

both_true : (a b : Bool) → a ≡ true → b ≡ true → (a && b) ≡ true
both_true true b p q = q
both_true false b p q = absurd cc

-- ---- keys of one kind

abbrev pub at : KeyView → Text → KeyView
at start q = record { kind = start.kind; key = q }

at_cmp : (start : KeyView) (q : Text) → key_cmp start (at start q) ≡ text_cmp start.key q
at_cmp start q = ap (λ r. ordering_then r (text_cmp start.key q)) (tied_itself nat_cmp_total start.kind)

at_at : (start : KeyView) (p q : Text) → key_cmp (at start p) (at start q) ≡ text_cmp p q
at_at start p q = ap (λ r. ordering_then r (text_cmp p q)) (tied_itself nat_cmp_total start.kind)

-- ---- slots in order

abbrev pub shown : Entries → (KeyView → Bool) → KeyView → Bool
shown es hidden q = is_some (value_in (slot_of es q)) && not (hidden q)

later_below : (x y : KeyView) (ks : List KeyView) → key_cmp x y ≡ Less → AllByRecursion (λ z. key_cmp y z ≡ Less) ks → AllByRecursion (λ z. key_cmp x z ≡ Less) ks
later_below x y [] less h = tt
later_below x y (k ∷ ks) less h = (key_total.trans x y k less h.0, later_below x y ks less h.1)

-- a key below the first has no slot
none_before : (x : KeyView) (e : KeyView × Option Text) (es : Entries) → IsInOrder (e ∷ es) → key_cmp x e.0 ≡ Less → slot_of (e ∷ es) x ≡ None
none_before x e es s less = none_later x (e ∷ es) (less, later_below x e.0 (keys_of es) less (head_below e es s))

hidden_none : (es : Entries) (hidden : KeyView → Bool) (x : KeyView) → slot_of es x ≡ None → shown es hidden x ≡ false
hidden_none es hidden x none = ap (λ (slot : Option (Option Text)). is_some (value_in slot) && not (hidden x)) none

shown_head : (e : KeyView × Option Text) (es : Entries) (hidden : KeyView → Bool) (x : KeyView) → is_at (key_cmp x) e.0 ≡ false → shown (e ∷ es) hidden x ≡ shown es hidden x
shown_head e es hidden x apart = ap (λ b. is_some (value_in (cond b (Some e.1) (slot_of es x))) && not (hidden x)) apart

shown_here : (e : KeyView × Option Text) (es : Entries) (hidden : KeyView → Bool) → shown (e ∷ es) hidden e.0 ≡ (is_some e.1 && not (hidden e.0))
shown_here e es hidden = ap (λ r. is_some (value_in (cond (is_eq r) (Some e.1) (slot_of es e.0))) && not (hidden e.0)) (tied_itself key_total e.0)

still_shown : (e : KeyView × Option Text) (es : Entries) (hidden : KeyView → Bool) (x : KeyView) → IsInOrder (e ∷ es) → shown es hidden x ≡ true → shown (e ∷ es) hidden x ≡ true
still_shown e es hidden x s is = by_place (is_at (key_cmp x) e.0) refl
  where
    by_place : (b : Bool) → is_at (key_cmp x) e.0 ≡ b → shown (e ∷ es) hidden x ≡ true
    by_place true here =
        let none : slot_of es x ≡ None = subst (λ (k : KeyView). slot_of es k ≡ None) (sym (at_same x e.0 here)) (none_later e.0 es (head_below e es s)) in
        absurd (never_equal (shown es hidden x) is (hidden_none es hidden x none))
    by_place false apart = shown_head e es hidden x apart ∙ is

was_shown : (e : KeyView × Option Text) (es : Entries) (hidden : KeyView → Bool) (x : KeyView) → (x ≡ e.0 → ⊥) → shown (e ∷ es) hidden x ≡ true → shown es hidden x ≡ true
was_shown e es hidden x never is = by_place (is_at (key_cmp x) e.0) refl
  where
    by_place : (b : Bool) → is_at (key_cmp x) e.0 ≡ b → shown es hidden x ≡ true
    by_place true here = absurd (never (at_same x e.0 here))
    by_place false apart = sym (shown_head e es hidden x apart) ∙ is

-- the least key from the start's on that is shown
pub record IsNext (es : Entries) (hidden : KeyView → Bool) (start : KeyView) (r : Option Text) : Type 0 where
  pub found : IfSome r (λ k. (shown es hidden (at start k) ≡ true) × (is_lt (text_cmp k start.key) ≡ false))
  pub least : (q : Text) → is_lt (text_cmp q start.key) ≡ false → shown es hidden (at start q) ≡ true → MatchOption r ⊥ (λ k. is_lt (text_cmp q k) ≡ false)

abbrev picked : Bool → Bool → Bool → Text → Option Text → Option Text
picked from kind here k r = cond from (cond kind (cond here (Some k) r) None) r

kind_of : (start : KeyView) (e : KeyView × Option Text) → eqb e.0.kind start.kind ≡ true → at start e.0.key ≡ e.0
kind_of start e same = let kind : e.0.kind ≡ start.kind = eqb-true _ _ same in ap (λ (n : ℕ). record { kind = n; key = e.0.key }) (sym kind)

found_more : (e : KeyView × Option Text) (es : Entries) (hidden : KeyView → Bool) (start : KeyView) (r : Option Text) → IsInOrder (e ∷ es) → IfSome r (λ k. (shown es hidden (at start k) ≡ true) × (is_lt (text_cmp k start.key) ≡ false)) → IfSome r (λ k. (shown (e ∷ es) hidden (at start k) ≡ true) × (is_lt (text_cmp k start.key) ≡ false))
found_more e es hidden start None s h = tt
found_more e es hidden start (Some k) s h = (still_shown e es hidden (at start k) s h.0, h.1)

less_kind : (m n : ℕ) (r : Ordering) (t : Ordering) → nat_cmp m n ≡ r → (eqb n m ≡ true → ⊥) → is_le (ordering_then r t) ≡ true → r ≡ Less
less_kind m n Less t is apart le = refl
less_kind m n Equal t is apart le = let same : m ≡ n = exact_unsigned m n is in absurd (apart (grind (arith, nat_tests)))
less_kind m n Greater t is apart le = absurd cc

next_step : (e : KeyView × Option Text) (es : Entries) (hidden : KeyView → Bool) (start : KeyView) (r : Option Text) (from kind here : Bool) → (is_le (key_cmp start e.0) && true) ≡ from → eqb e.0.kind start.kind ≡ kind → (is_some e.1 && not (hidden e.0)) ≡ here →
    IsInOrder (e ∷ es) → IsNext es hidden start r → IsNext (e ∷ es) hidden start (picked from kind here e.0.key r)
next_step e es hidden start r false kind here is is' is'' s rest = record {
  found = found_more e es hidden start r s rest.found;
  least = λ q ge shows. rest.least q ge (was_shown e es hidden (at start q) (λ (same : at start q ≡ e.0). never_equal (is_lt (text_cmp q start.key)) (below q same) ge) shows);
}
  where
    before : (b : Bool) → (b && true) ≡ false → b ≡ false
    before true h = h
    before false h = refl

    below : (q : Text) → at start q ≡ e.0 → is_lt (text_cmp q start.key) ≡ true
    below q same =
        let greater : text_cmp start.key q ≡ Greater = sym (at_cmp start q) ∙ ap (λ (k : KeyView). key_cmp start k) same ∙ is_greater (key_cmp start e.0) (before (is_le (key_cmp start e.0)) is) in
        lt-gt q start.key ∙ ap is_gt greater
next_step e es hidden start r true false here is is' is'' s rest = record {
  found = tt;
  least = λ q ge shows. never_equal (shown (e ∷ es) hidden (at start q)) shows (hidden_none (e ∷ es) hidden (at start q) (none_before (at start q) e es s (below q)));
}
  where
    less : nat_cmp start.kind e.0.kind ≡ Less
    less = less_kind start.kind e.0.kind (nat_cmp start.kind e.0.kind) (text_cmp start.key e.0.key) refl (λ same. never_equal (eqb e.0.kind start.kind) same is') (left_true (is_le (key_cmp start e.0)) true is)

    below : (q : Text) → key_cmp (at start q) e.0 ≡ Less
    below q = ap (λ o. ordering_then o (text_cmp q e.0.key)) less
next_step e es hidden start r true true true is is' is'' s rest = record {
  found = (subst (λ (k : KeyView). shown (e ∷ es) hidden k ≡ true) (sym same) (shown_here e es hidden ∙ is''), from_start);
  least = λ q ge shows. not_less q (is_lt (text_cmp q e.0.key)) refl shows;
}
  where
    same : at start e.0.key ≡ e.0
    same = kind_of start e is'

    from_start : is_lt (text_cmp e.0.key start.key) ≡ false
    from_start =
        let le : is_le (key_cmp start e.0) ≡ true = left_true (is_le (key_cmp start e.0)) true is in
        let at_le : is_le (text_cmp start.key e.0.key) ≡ true = ap is_le (sym (at_cmp start e.0.key) ∙ ap (λ (k : KeyView). key_cmp start k) same) ∙ le in
        lt-gt e.0.key start.key ∙ not_greater (text_cmp start.key e.0.key) at_le

    not_less : (q : Text) (b : Bool) → is_lt (text_cmp q e.0.key) ≡ b → shown (e ∷ es) hidden (at start q) ≡ true → is_lt (text_cmp q e.0.key) ≡ false
    not_less q true b shows =
        let less : key_cmp (at start q) e.0 ≡ Less = ap (λ (k : KeyView). key_cmp (at start q) k) (sym same) ∙ at_at start q e.0.key ∙ is_less (text_cmp q e.0.key) b in
        absurd (never_equal (shown (e ∷ es) hidden (at start q)) shows (hidden_none (e ∷ es) hidden (at start q) (none_before (at start q) e es s less)))
    not_less q false b shows = b
next_step e es hidden start r true true false is is' is'' s rest = record {
  found = found_more e es hidden start r s rest.found;
  least = λ q ge shows. rest.least q ge (was_shown e es hidden (at start q) (λ (same : at start q ≡ e.0). never_equal (shown (e ∷ es) hidden e.0) (subst (λ (k : KeyView). shown (e ∷ es) hidden k ≡ true) same shows) (shown_here e es hidden ∙ is'')) shows);
}

-- the slots from a key on
abbrev pub from_on : KeyView → Entries → Entries
from_on start es = entries_between key_cmp (Included start) Unbounded es

picks : (e : KeyView × Option Text) (fs : Entries) (hidden : KeyView → Bool) (kind : ℕ) (b : Bool) → first_shown kind hidden (cond b (e ∷ fs) fs) ≡ picked b (eqb e.0.kind kind) (is_some e.1 && not (hidden e.0)) e.0.key (first_shown kind hidden fs)
picks e fs hidden kind true = refl
picks e fs hidden kind false = refl

pub next_in : (es : Entries) (hidden : KeyView → Bool) (start : KeyView) → IsInOrder es → IsNext es hidden start (first_shown start.kind hidden (from_on start es))
next_in [] hidden start s = record { found = tt; least = λ q ge shows. cc }
next_in (e ∷ es) hidden start s =
    let rest = next_in es hidden start (tail_ordered e es s) in
    subst (λ (r : Option Text). IsNext (e ∷ es) hidden start r) (sym (picks e (from_on start es) hidden start.kind (is_le (key_cmp start e.0) && true)))
    (next_step e es hidden start (first_shown start.kind hidden (from_on start es)) (is_le (key_cmp start e.0) && true) (eqb e.0.kind start.kind) (is_some e.1 && not (hidden e.0)) refl refl refl s rest)

-- ---- the lesser of two keys

lesser_found : (P : Text → Type 0) (one other : Option Text) → IfSome one P → IfSome other P → IfSome (lesser_of one other) P
lesser_found P None other p q = q
lesser_found P (Some a) None p q = p
lesser_found P (Some a) (Some b) p q = chosen (is_gt (text_cmp a b))
  where
    chosen : (g : Bool) → IfSome (cond g (Some b) (Some a)) P
    chosen true = q
    chosen false = p

-- it isn't above this one
abbrev IsUpTo : Text → Option Text → Type 0
IsUpTo q r = MatchOption r ⊥ (λ k. is_lt (text_cmp q k) ≡ false)

lesser_up_to : (q : Text) (one other : Option Text) → IsUpTo q one ⊎ IsUpTo q other → IsUpTo q (lesser_of one other)
lesser_up_to q None other (inl h) = absurd h
lesser_up_to q None other (inr h) = h
lesser_up_to q (Some a) None (inl h) = h
lesser_up_to q (Some a) None (inr h) = absurd h
lesser_up_to q (Some a) (Some b) h = chosen (is_gt (text_cmp a b)) refl h
  where
    chosen : (g : Bool) → is_gt (text_cmp a b) ≡ g → IsUpTo q (Some a) ⊎ IsUpTo q (Some b) → IsUpTo q (cond g (Some b) (Some a))
    chosen true g (inl h) =
        let down : is_gt (text_cmp b a) ≡ false = ap is_gt (nat_list_cmp_total.antisymm b a) ∙ not_both (text_cmp a b) g in
        lt-gt q b ∙ upto nat_list_cmp_total b a q down (sym (lt-gt q a) ∙ h)
    chosen true g (inr h) = h
    chosen false g (inl h) = h
    chosen false g (inr h) = lt-gt q a ∙ upto nat_list_cmp_total a b q g (sym (lt-gt q b) ∙ h)

-- ---- a space that was changed

-- the least key of the kind from the start's on
pub record IsLeast (m : SpaceMap) (start : KeyView) (r : Option Text) : Type 0 where
  pub found : IfSome r (λ k. IsSome (get m (start.kind, k)) × (is_lt (text_cmp k start.key) ≡ false))
  pub least : (q : Text) → is_lt (text_cmp q start.key) ≡ false → IsSome (get m (start.kind, q)) → MatchOption r ⊥ (λ k. is_lt (text_cmp q k) ≡ false)

abbrev pub changed_value : Entries → Entries → KeyView → Option Text
changed_value base changes q = unwrap_or (slot_of changes q) (value_in (slot_of base q))

shown_kept : (slot : Option (Option Text)) (o : Option Text) → (is_some o && not (is_some slot)) ≡ true → IsSome (unwrap_or slot o)
shown_kept None o e = left_true (is_some o) true e
shown_kept (Some s) o e = absurd (never_equal (is_some o && false) e (none (is_some o)))
  where
    none : (b : Bool) → (b && false) ≡ false
    none true = refl
    none false = refl

shown_set : (slot : Option (Option Text)) (o : Option Text) → (is_some (value_in slot) && true) ≡ true → IsSome (unwrap_or slot o)
shown_set None o e = absurd cc
shown_set (Some s) o e = left_true (is_some s) true e

shown_either : (slot : Option (Option Text)) (o : Option Text) → IsSome (unwrap_or slot o) → ((is_some o && not (is_some slot)) ≡ true) ⊎ ((is_some (value_in slot) && true) ≡ true)
shown_either None o e = inl (both_true (is_some o) true e refl)
shown_either (Some s) o e = inr (both_true (is_some s) true e refl)

if_some_weaker : (P Q : Text → Type 0) (r : Option Text) → ((k : Text) → P k → Q k) → IfSome r P → IfSome r Q
if_some_weaker P Q None f h = tt
if_some_weaker P Q (Some k) f h = f k h

-- the lesser of the next of the base that isn't changed and the next that is set
pub least_changed : (m : SpaceMap) (base changes : Entries) (start : KeyView) (kept set : Option Text) → ((q : KeyView) → get m (q.kind, q.key) ≡ changed_value base changes q) → IsNext base (λ q. is_some (slot_of changes q)) start kept → IsNext changes (λ _. false) start set → IsLeast m start (lesser_of kept set)
least_changed m base changes start kept set has first second = record {
  found = lesser_found (λ k. IsSome (get m (start.kind, k)) × (is_lt (text_cmp k start.key) ≡ false)) kept set
      (if_some_weaker (λ k. (shown base (λ q. is_some (slot_of changes q)) (at start k) ≡ true) × (is_lt (text_cmp k start.key) ≡ false)) (λ k. IsSome (get m (start.kind, k)) × (is_lt (text_cmp k start.key) ≡ false)) kept
      (λ k h. (ap is_some (has (at start k)) ∙ shown_kept (slot_of changes (at start k)) (value_in (slot_of base (at start k))) h.0, h.1)) first.found)
      (if_some_weaker (λ k. (shown changes (λ _. false) (at start k) ≡ true) × (is_lt (text_cmp k start.key) ≡ false)) (λ k. IsSome (get m (start.kind, k)) × (is_lt (text_cmp k start.key) ≡ false)) set
      (λ k h. (ap is_some (has (at start k)) ∙ shown_set (slot_of changes (at start k)) (value_in (slot_of base (at start k))) h.0, h.1)) second.found);
  least = λ q ge some. lesser_up_to q kept set (either q ge (shown_either (slot_of changes (at start q)) (value_in (slot_of base (at start q))) (sym (ap is_some (has (at start q))) ∙ some)));
}
  where
    either : (q : Text) → is_lt (text_cmp q start.key) ≡ false → (shown base (λ q. is_some (slot_of changes q)) (at start q) ≡ true) ⊎ (shown changes (λ _. false) (at start q) ≡ true) → IsUpTo q kept ⊎ IsUpTo q set
    either q ge (inl h) = inl (first.least q ge h)
    either q ge (inr h) = inr (second.least q ge h)

-- ---- the least key of a finite map

abbrev from_kind : KeyView → ℕ × Text → Bool
from_kind start k = eqb k.0 start.kind && not (is_lt (text_cmp k.1 start.key))

split_T : (a b : Bool) → T (a && b) → T a × T b
split_T true b h = (tt, h)
split_T false b h = absurd h

less_T : (r : Ordering) → T (is_lt r) → r ≡ Less
less_T Less h = refl
less_T Equal h = absurd h
less_T Greater h = absurd h

find_below : (q x : ℕ × Text) (es : List ((ℕ × Text) × Text)) → space_cmp q x ≡ Less → T (below_all space_cmp x es) → find space_cmp q es ≡ None
find_below q x [] less h = refl
find_below q x (e ∷ es) less h =
    let parts = split_T (is_lt (space_cmp x e.0)) (below_all space_cmp x es) h in
    let below : space_cmp q e.0 ≡ Less = space_total.trans q x e.0 less (less_T (space_cmp x e.0) parts.0) in
    ap (λ (r : Ordering). cond (is_eq r) (Some e.1) (find space_cmp q es)) below ∙ find_below q x es less parts.1

find_before : (q : ℕ × Text) (e : (ℕ × Text) × Text) (es : List ((ℕ × Text) × Text)) → T (is_sorted space_cmp (e ∷ es)) → space_cmp q e.0 ≡ Less → find space_cmp q (e ∷ es) ≡ None
find_before q e es s less =
    let parts = split_T (below_all space_cmp e.0 es) (is_sorted space_cmp es) s in
    ap (λ (r : Ordering). cond (is_eq r) (Some e.1) (find space_cmp q es)) less ∙ find_below q e.0 es less parts.0

some_of : (b : Bool) (o : Option Text) (v : Text) → cond b o None ≡ Some v → (b ≡ true) × (o ≡ Some v)
some_of true o v e = (refl, e)
some_of false o v e = absurd cc

not_none : {A : Type 0} (o : Option A) → IsSome o → o ≡ None → ⊥
not_none None some e = cc
not_none (Some x) some e = cc

not_true : (b : Bool) → b ≡ false → not b ≡ true
not_true b e = ap not e

not_false : (b : Bool) → not b ≡ true → b ≡ false
not_false true e = absurd cc
not_false false e = refl

same_text : (x y : Text) → is_lt (text_cmp x y) ≡ false → is_lt (text_cmp y x) ≡ false → x ≡ y
same_text x y p q = exact_bytes x y (equal (text_cmp x y) p (sym (lt-gt y x) ∙ q))
  where
    equal : (r : Ordering) → is_lt r ≡ false → is_gt r ≡ false → r ≡ Equal
    equal Less a b = absurd cc
    equal Equal a b = refl
    equal Greater a b = absurd cc

first_is : (m : SpaceMap) (start : KeyView) (r : Option Text) (es : List ((ℕ × Text) × Text)) → IsLeast m start r → T (is_sorted space_cmp es) → ((q : ℕ × Text) → find space_cmp q es ≡ cond (from_kind start q) (get m q) None) → r ≡ first_key es
first_is m start None [] l s has = refl
first_is m start (Some k) [] l s has =
    let test : from_kind start (start.kind, k) ≡ true = both_true (eqb start.kind start.kind) (not (is_lt (text_cmp k start.key))) (grind (arith, nat_tests)) (not_true (is_lt (text_cmp k start.key)) l.found.1) in
    absurd (not_none (get m (start.kind, k)) l.found.0 (sym (has (start.kind, k) ∙ ap (λ b. cond b (get m (start.kind, k)) None) test)))
first_is m start r (e ∷ es) l s has = least_of r l
  where
    here : find space_cmp e.0 (e ∷ es) ≡ Some e.1
    here = ap (λ (o : Ordering). cond (is_eq o) (Some e.1) (find space_cmp e.0 es)) (tied_itself space_total e.0)

    there : (from_kind start e.0 ≡ true) × (get m e.0 ≡ Some e.1)
    there = some_of (from_kind start e.0) (get m e.0) e.1 (sym (has e.0) ∙ here)

    kind : e.0.0 ≡ start.kind
    kind = eqb-true _ _ (left_true (eqb e.0.0 start.kind) (not (is_lt (text_cmp e.0.1 start.key))) there.0)

    ge : is_lt (text_cmp e.0.1 start.key) ≡ false
    ge = not_false (is_lt (text_cmp e.0.1 start.key)) (right_true (eqb e.0.0 start.kind) (not (is_lt (text_cmp e.0.1 start.key))) there.0)

    has_first : IsSome (get m (start.kind, e.0.1))
    has_first = subst (λ (n : ℕ). IsSome (get m (n, e.0.1))) kind (ap is_some there.1)

    least_of : (o : Option Text) → IsLeast m start o → o ≡ Some e.0.1
    least_of None l' = absurd (l'.least e.0.1 ge has_first)
    least_of (Some k) l' =
        let test : from_kind start (start.kind, k) ≡ true = both_true (eqb start.kind start.kind) (not (is_lt (text_cmp k start.key))) (grind (arith, nat_tests)) (not_true (is_lt (text_cmp k start.key)) l'.found.1) in
        let is_there : IsSome (find space_cmp (start.kind, k) (e ∷ es)) = ap is_some (has (start.kind, k) ∙ ap (λ b. cond b (get m (start.kind, k)) None) test) ∙ l'.found.0 in
        ap Some (same_text k e.0.1 (not_before k (is_lt (text_cmp k e.0.1)) refl is_there) (l'.least e.0.1 ge has_first))
      where
        not_before : (k : Text) (b : Bool) → is_lt (text_cmp k e.0.1) ≡ b → IsSome (find space_cmp (start.kind, k) (e ∷ es)) → is_lt (text_cmp k e.0.1) ≡ false
        not_before k true b some =
            let less : space_cmp (start.kind, k) e.0 ≡ Less = ap (λ (n : ℕ). ordering_then (nat_cmp start.kind n) (text_cmp k e.0.1)) kind ∙ ap (λ o. ordering_then o (text_cmp k e.0.1)) (tied_itself nat_cmp_total start.kind) ∙ is_less (text_cmp k e.0.1) b in
            absurd (not_none (find space_cmp (start.kind, k) (e ∷ es)) some (find_before (start.kind, k) e es s less))
        not_before k false b some = b

pub least_is : (m : SpaceMap) (start : KeyView) (r : Option Text) → IsLeast m start r → r ≡ least_key_from m start.kind start.key
least_is m start r l =
    let kept = retain_keys m (from_kind start) in
    first_is m start r (entries kept) l (entries_sorted kept)
    (λ q. sym (get-entries kept q) ∙ get-retain_keys m (from_kind start) q (λ x tie. ap (from_kind start) (sym (space_exact q x tie))))
