-- What slots hold, and what changes of one slot do.
use Rattle.std.proofs.Common.{◌≡◌, ℕ, ◌^◌, ◌<◌, Bool, true, false, cond, [], ◌∷◌, ◌++◌, length, Option, Some, None, refl, sym, ap, subst, ◌∙◌, Bor}
use Rattle.std.specs.Option.{option_copied}
use Rattle.std.specs.Prelude.{is_some, IsSome, IfSome, unwrap_or}
use Rattle.std.specs.List.{AllByRecursion}
use Rattle.std.specs.List.Sorted.{IsStrictlySortedBy}
use Rattle.std.specs.Ordering.{eq_by_cmp, is_eq, nat_cmp}
use Rattle.std.specs.declared.cmp.Ordering.{Ordering}
use Rattle.std.specs.declared.cmp.Ordering.TheVariants.{Less, Equal}
use Rattle.std.specs.Map.{keys_of}
use Rattle.std.specs.BTreeMap.{is_at}
use Rattle.std.specs.Cmp.{IsTotalOrder, nat_cmp_total, Equal-is}
use Rattle.std.specs.Cmp.Lexicographic.{slice_cmp}
use Rattle.std.proofs.lemmas.Cmp.{nat_list_cmp_total, eq_by_cmp_equiv, then_total, on_total}
use Rattle.std.proofs.lemmas.Map.Lookups.{CmpEqualImpliesEq, exact_pairs, exact_unsigned, exact_bytes}
use Rattle.std.specs.FinMap.{empty, get, remove, get-empty, get-insert, get-remove, same_map}
use Rattle.delos_types.specs.Spaces.{SpaceMap, Text, space_cmp}
use Rattle.std.proofs.lemmas.List.Sums.{fold-append}
use Rattle.std.proofs.lemmas.Bool.{false≢true}
use Rattle.store_records.specs.Changing.{set_at, changed, applied}
use Rattle.local_store.specs.Keys.{KeyView, key_cmp}
use Rattle.local_store.specs.Slots.{Entries, key_pair, slot_of, value_in, held, changes_of, AreShort, AreFit, HaveRoom, set_of, set_after}

-- ---- keys

pub space_total : IsTotalOrder space_cmp
space_total = then_total (on_total (λ (p : ℕ × Text). p.0) nat_cmp_total) (on_total (λ (p : ℕ × Text). p.1) nat_list_cmp_total)

pub space_exact : CmpEqualImpliesEq space_cmp
space_exact x y e = exact_pairs nat_cmp (slice_cmp nat_cmp) exact_unsigned exact_bytes x y e

pub key_of : ℕ × Text → KeyView
key_of p = record { kind = p.0; key = p.1 }

pub same_key : (x y : KeyView) → key_cmp x y ≡ Equal → x ≡ y
unfolding key_of
same_key x y e = ap key_of (space_exact (key_pair x) (key_pair y) e)

pub at_same : (x y : KeyView) → is_at (key_cmp x) y ≡ true → x ≡ y
at_same x y e = same_key x y ((Equal-is (key_cmp x y)).0 e)

turn : (k q : KeyView) → is_at (key_cmp k) q ≡ eq_by_cmp space_cmp (key_pair q) (key_pair k)
turn k q = (eq_by_cmp_equiv space_total).symm (key_pair k) (key_pair q)

-- ---- what slots hold

pub get-set_at : (m : SpaceMap) (p : ℕ × Text) (o : Option Text) (q : ℕ × Text) → get (set_at m p o) q ≡ cond (eq_by_cmp space_cmp q p) o (get m q)
get-set_at m p None q = get-remove space_total m p q
get-set_at m p (Some v) q = get-insert space_total m p v q

value_step : (b : Bool) (o r : Option Text) (slot : Option (Option Text)) → r ≡ value_in slot → cond b o r ≡ value_in (cond b (Some o) slot)
value_step true o r slot e = refl
value_step false o r slot e = e

pub get-held : (es : Entries) (q : KeyView) → get (held es) (key_pair q) ≡ value_in (slot_of es q)
get-held [] q = get-empty space_cmp (key_pair q)
get-held (e ∷ es) q =
    get-set_at (held es) (key_pair e.0) e.1 (key_pair q)
    ∙ value_step (is_at (key_cmp q) e.0) e.1 (get (held es) (key_pair q)) (slot_of es q) (get-held es q)

-- a key that is below all of them has no slot
pub none_later : (x : KeyView) (es : Entries) → AllByRecursion (λ y. key_cmp x y ≡ Less) (keys_of es) → slot_of es x ≡ None
none_later x [] h = refl
none_later x (e ∷ es) h = ap (λ (r : Ordering). cond (is_eq r) (Some e.1) (slot_of es x)) h.0 ∙ none_later x es h.1

applied_step : (b : Bool) (o r : Option Text) (slot : Option (Option Text)) → (b ≡ true → slot ≡ None) → unwrap_or slot (cond b o r) ≡ unwrap_or (cond b (Some o) slot) r
applied_step true o r slot none = ap (λ (s : Option (Option Text)). unwrap_or s o) (none refl)
applied_step false o r slot none = refl

-- the keys are in order
abbrev pub IsInOrder : Entries → Type 0
IsInOrder es = IsStrictlySortedBy key_cmp (keys_of es)

pub head_below : (e : KeyView × Option Text) (es : Entries) → IsInOrder (e ∷ es) → AllByRecursion (λ y. key_cmp e.0 y ≡ Less) (keys_of es)
unfolding IsStrictlySortedBy
head_below e es h = h.0

pub tail_ordered : (e : KeyView × Option Text) (es : Entries) → IsInOrder (e ∷ es) → IsInOrder es
unfolding IsStrictlySortedBy
tail_ordered e es h = h.1

-- what a space has at a key after changes at keys in order
pub get-applied : (es : Entries) → IsInOrder es → (m : SpaceMap) (q : KeyView) → get (applied m (changes_of es)) (key_pair q) ≡ unwrap_or (slot_of es q) (get m (key_pair q))
get-applied [] s m q = refl
get-applied (e ∷ es) s m q =
    let none : is_at (key_cmp q) e.0 ≡ true → slot_of es q ≡ None =
    λ (b : is_at (key_cmp q) e.0 ≡ true). subst (λ (x : KeyView). slot_of es x ≡ None) (sym (at_same q e.0 b)) (none_later e.0 es (head_below e es s)) in
    get-applied es (tail_ordered e es s) (set_at m (key_pair e.0) e.1) q
    ∙ ap (λ (r : Option Text). unwrap_or (slot_of es q) r) (get-set_at m (key_pair e.0) e.1 (key_pair q))
    ∙ applied_step (is_at (key_cmp q) e.0) e.1 (get m (key_pair q)) (slot_of es q) none

-- a look-up that found none
pub no_slot : (found : Option (Bor (Option Text))) (slot : Option (Option Text)) (b : Bool) → option_copied found ≡ slot → b ≡ is_some found → b ≡ false → slot ≡ None
no_slot None slot b is told e = sym is
no_slot (Some x) slot b is told e = absurd (cc)

pub a_slot : (found : Option (Bor (Option Text))) (slot : Option (Option Text)) (b : Bool) → option_copied found ≡ slot → b ≡ is_some found → b ≡ true → IsSome slot
a_slot None slot b is told e = absurd (cc)
a_slot (Some x) slot b is told e = ap is_some (sym is)

-- ---- one slot changes

cond_unwrap : (b : Bool) (o r : Option Text) (slot : Option (Option Text)) → unwrap_or (cond b (Some o) slot) r ≡ cond b o (unwrap_or slot r)
cond_unwrap true o r slot = refl
cond_unwrap false o r slot = refl

gone_unwrap : (b : Bool) (r : Option Text) (slot : Option (Option Text)) → r ≡ value_in slot → value_in (cond b None slot) ≡ cond b None r
gone_unwrap true r slot e = refl
gone_unwrap false r slot e = sym e

same_unwrap : (b : Bool) (slot : Option (Option Text)) → (b ≡ true → slot ≡ None) → value_in (cond b (Some None) slot) ≡ value_in slot
same_unwrap true slot none = ap value_in (sym (none refl))
same_unwrap false slot none = refl

-- a slot is set
abbrev pub SetsSlot : Entries → Entries → KeyView → Option Text → Type 0
SetsSlot es fs k o = (q : KeyView) → slot_of fs q ≡ cond (is_at (key_cmp k) q) (Some o) (slot_of es q)

-- a slot is let go
abbrev pub DropsSlot : Entries → Entries → KeyView → Type 0
DropsSlot es fs k = (q : KeyView) → slot_of fs q ≡ cond (is_at (key_cmp k) q) None (slot_of es q)

pub applied-set : (m : SpaceMap) (es fs : Entries) (k : KeyView) (o : Option Text) → IsInOrder es → IsInOrder fs → SetsSlot es fs k o → applied m (changes_of fs) ≡ set_at (applied m (changes_of es)) (key_pair k) o
unfolding key_of
applied-set m es fs k o s t h = same_map space_total space_exact _ _ (λ p.
    let q = key_of p in
    get-applied fs t m q ∙ ap (λ (x : Option (Option Text)). unwrap_or x (get m p)) (h q) ∙ cond_unwrap (is_at (key_cmp k) q) o (get m p) (slot_of es q)
    ∙ ap (λ b. cond b o (unwrap_or (slot_of es q) (get m p))) (turn k q)
    ∙ sym (get-set_at (applied m (changes_of es)) (key_pair k) o p ∙ ap (cond (eq_by_cmp space_cmp p (key_pair k)) o) (get-applied es s m q)))

pub held-set : (es fs : Entries) (k : KeyView) (o : Option Text) → SetsSlot es fs k o → held fs ≡ set_at (held es) (key_pair k) o
unfolding key_of
held-set es fs k o h = same_map space_total space_exact _ _ (λ p.
    let q = key_of p in
    get-held fs q ∙ ap value_in (h q) ∙ cond_unwrap (is_at (key_cmp k) q) o None (slot_of es q)
    ∙ ap (λ b. cond b o (value_in (slot_of es q))) (turn k q)
    ∙ sym (get-set_at (held es) (key_pair k) o p ∙ ap (cond (eq_by_cmp space_cmp p (key_pair k)) o) (get-held es q)))

pub held-gone : (es fs : Entries) (k : KeyView) → DropsSlot es fs k → held fs ≡ set_at (held es) (key_pair k) None
unfolding key_of
held-gone es fs k h = same_map space_total space_exact _ _ (λ p.
    let q = key_of p in
    get-held fs q ∙ ap value_in (h q) ∙ gone_unwrap (is_at (key_cmp k) q) (get (held es) p) (slot_of es q) (get-held es q)
    ∙ ap (λ b. cond b None (get (held es) p)) (turn k q)
    ∙ sym (get-set_at (held es) (key_pair k) None p))

-- an empty slot more
pub held-same : (es fs : Entries) (k : KeyView) → slot_of es k ≡ None → SetsSlot es fs k None → held fs ≡ held es
unfolding key_of
held-same es fs k none h = same_map space_total space_exact _ _ (λ p.
    let q = key_of p in
    get-held fs q ∙ ap value_in (h q)
    ∙ same_unwrap (is_at (key_cmp k) q) (slot_of es q) (λ b. subst (λ (x : KeyView). slot_of es x ≡ None) (at_same k q b) none)
    ∙ sym (get-held es q))

-- ---- which keys have slots

short_by : (q : KeyView) (slot : Option (Option Text)) → ((o : Option Text) → slot ≡ Some o → (length q.key < 2 ^ 16) × IfSome o (λ v. length v < 2 ^ 32)) → IsSome slot → length q.key < 2 ^ 16
short_by q None fit some = absurd (cc)
short_by q (Some o) fit some = (fit o refl).0

pub short_of_fit : (es : Entries) → AreFit es → AreShort es
short_of_fit es fit = λ q some. short_by q (slot_of es q) (fit q) some

some_set : (b : Bool) (o : Option Text) (slot : Option (Option Text)) → IsSome slot → IsSome (cond b (Some o) slot)
some_set true o slot some = refl
some_set false o slot some = some

pub grows-set : (es fs : Entries) (k : KeyView) (o : Option Text) → SetsSlot es fs k o → (q : KeyView) → IsSome (slot_of es q) → IsSome (slot_of fs q)
grows-set es fs k o h = λ q some. subst (λ (s : Option (Option Text)). IsSome s) (sym (h q)) (some_set (is_at (key_cmp k) q) o (slot_of es q) some)

pub others-set : (es fs : Entries) (k : KeyView) (o : Option (Option Text)) → ((q : KeyView) → slot_of fs q ≡ cond (is_at (key_cmp k) q) o (slot_of es q)) → (q : KeyView) → is_at (key_cmp k) q ≡ false → slot_of fs q ≡ slot_of es q
others-set es fs k o h = λ q apart. h q ∙ ap (λ b. cond b o (slot_of es q)) apart

fit_by : (k q : KeyView) (slot : Option (Option Text)) (o p : Option Text) (b : Bool) → is_at (key_cmp k) q ≡ b → (slot ≡ Some p → (length q.key < 2 ^ 16) × IfSome p (λ v. length v < 2 ^ 32)) → length k.key < 2 ^ 16 → IfSome o (λ v. length v < 2 ^ 32) → cond b (Some o) slot ≡ Some p → (length q.key < 2 ^ 16) × IfSome p (λ v. length v < 2 ^ 32)
fit_by k q slot o p true e old lt small is =
    let same : o ≡ p = cc in
    (subst (λ (x : KeyView). length x.key < 2 ^ 16) (at_same k q e) lt, subst (λ (x : Option Text). IfSome x (λ v. length v < 2 ^ 32)) same small)
fit_by k q slot o p false e old lt small is = old is

pub fit-set : (es fs : Entries) (k : KeyView) (o : Option Text) → AreFit es → length k.key < 2 ^ 16 → IfSome o (λ v. length v < 2 ^ 32) → SetsSlot es fs k o → AreFit fs
fit-set es fs k o old lt small h = λ q p is. fit_by k q (slot_of es q) o p (is_at (key_cmp k) q) refl (old q p) lt small (sym (h q) ∙ is)

dropped : (b : Bool) (slot : Option (Option Text)) (p : Option Text) → cond b None slot ≡ Some p → slot ≡ Some p
dropped true slot p is = absurd (cc)
dropped false slot p is = is

pub fit-gone : (es fs : Entries) (k : KeyView) → AreFit es → DropsSlot es fs k → AreFit fs
fit-gone es fs k old h = λ q p is. old q p (dropped (is_at (key_cmp k) q) (slot_of es q) p (sym (h q) ∙ is))

-- the slot of the first key, and those of the others
pub first_slot : (e : KeyView × Option Text) (es : Entries) → slot_of (e ∷ es) e.0 ≡ Some e.1
first_slot e es = ap (λ b. cond b (Some e.1) (slot_of es e.0)) ((eq_by_cmp_equiv space_total).refl (key_pair e.0))

later_slot : (e : KeyView × Option Text) (es : Entries) (q : KeyView) (p : Option Text) (b : Bool) → is_at (key_cmp q) e.0 ≡ b → IsInOrder (e ∷ es) → slot_of es q ≡ Some p → cond b (Some e.1) (slot_of es q) ≡ Some p
later_slot e es q p true at s is =
    let none : slot_of es q ≡ None = subst (λ (x : KeyView). slot_of es x ≡ None) (sym (at_same q e.0 at)) (none_later e.0 es (head_below e es s)) in
    absurd (cc)
later_slot e es q p false at s is = is

pub fit_rest : (e : KeyView × Option Text) (es : Entries) → IsInOrder (e ∷ es) → AreFit (e ∷ es) → AreFit es
fit_rest e es s fit = λ q p is. fit q p (later_slot e es q p (is_at (key_cmp q) e.0) refl s is)

-- ---- room

pub room_grows : (es fs cs : Entries) → ((q : KeyView) → IsSome (slot_of es q) → IsSome (slot_of fs q)) → HaveRoom es cs → HaveRoom fs cs
room_grows es fs [] grows room = tt
room_grows es fs (c ∷ cs) grows room = (grows c.0 room.0, room_grows es fs cs grows room.1)

pub room_push : (es cs : Entries) (c : KeyView × Option Text) → HaveRoom es cs → IsSome (slot_of es c.0) → HaveRoom es (cs ++ c ∷ [])
room_push es [] c room here = (here, tt)
room_push es (d ∷ cs) c room here = (room.0, room_push es cs c room.1 here)

apart_of_less : (r : Ordering) → r ≡ Less → is_eq r ≡ false
apart_of_less r e = ap is_eq e

-- other keys keep their room
pub room_keeps : (es fs : Entries) (k : KeyView) (cs : Entries) → ((q : KeyView) → is_at (key_cmp k) q ≡ false → slot_of fs q ≡ slot_of es q) → AllByRecursion (λ y. key_cmp k y ≡ Less) (keys_of cs) → HaveRoom es cs → HaveRoom fs cs
room_keeps es fs k [] others below room = tt
room_keeps es fs k (c ∷ cs) others below room =
    (subst (λ (s : Option (Option Text)). IsSome s) (sym (others c.0 (apart_of_less (key_cmp k c.0) below.0))) room.0, room_keeps es fs k cs others below.1 room.1)

-- ---- keys that are too long

none_of : (slot : Option (Option Text)) → (IsSome slot → ⊥) → slot ≡ None
none_of None never = refl
none_of (Some o) never = absurd (never refl)

unfit_by : (es : Entries) (k : KeyView) (slot : Option (Option Text)) → slot_of es k ≡ slot → AreFit es → (length k.key < 2 ^ 16 → ⊥) → slot ≡ None
unfit_by es k None is fit long = refl
unfit_by es k (Some o) is fit long = absurd (long (fit k o is).0)

absent_step : (b : Bool) (r : Option Text) → (b ≡ true → r ≡ None) → cond b None r ≡ r
absent_step true r none = sym (none refl)
absent_step false r none = refl

-- a key that isn't there is removed
pub remove-absent : (m : SpaceMap) (p : ℕ × Text) → get m p ≡ None → remove m p ≡ m
remove-absent m p none = same_map space_total space_exact _ _ (λ q.
    get-remove space_total m p q
    ∙ absent_step (eq_by_cmp space_cmp q p) (get m q) (λ b. ap (get m) (space_exact q p ((Equal-is (space_cmp q p)).0 b)) ∙ none))

-- a transaction has no key that is too long
pub no_long_key : (base changes : Entries) (k : KeyView) → AreShort base → AreFit changes → IsInOrder changes → (length k.key < 2 ^ 16 → ⊥) → get (applied (held base) (changes_of changes)) (key_pair k) ≡ None
no_long_key base changes k short fit ordered long =
    let unchanged : slot_of changes k ≡ None = unfit_by changes k (slot_of changes k) refl fit long in
    let absent : slot_of base k ≡ None = none_of (slot_of base k) (λ some. long (short k some)) in
    get-applied changes ordered (held base) k
    ∙ ap (λ (slot : Option (Option Text)). unwrap_or slot (get (held base) (key_pair k))) unchanged
    ∙ get-held base k ∙ ap value_in absent

-- ---- a whole space after changes

-- the value at a key by its slot, where a change of it is said by another
abbrev pub shown : Option (Option Text) → Option (Option Text) → Option Text
shown change None = None
shown change (Some o) = unwrap_or change o

or_else : Option Text → Option Text → Option Text
or_else None r = r
or_else (Some v) r = Some v

else_none : (o : Option Text) → or_else o None ≡ o
unfolding or_else
else_none None = refl
else_none (Some v) = refl

same_either : (b : Bool) (r : Option Text) → r ≡ cond b r r
same_either true r = refl
same_either false r = refl

get-set_of : (m : SpaceMap) (k : KeyView) (o : Option Text) (q : KeyView) → get (applied m (set_of k o)) (key_pair q) ≡ cond (is_at (key_cmp q) k) (or_else o (get m (key_pair q))) (get m (key_pair q))
unfolding or_else
get-set_of m k None q = same_either (is_at (key_cmp q) k) (get m (key_pair q))
get-set_of m k (Some v) q = get-set_at m (key_pair k) (Some v) (key_pair q)

set_step : (b : Bool) (c : Option (Option Text)) (o x r : Option Text) (slot : Option (Option Text)) → (b ≡ true → (slot ≡ None) × (x ≡ unwrap_or c o)) → or_else (shown c slot) (cond b (or_else x r) r) ≡ or_else (shown c (cond b (Some o) slot)) r
unfolding or_else
set_step true c o x r slot here = ap (λ (s : Option (Option Text)). or_else (shown c s) (or_else x r)) (here refl).0 ∙ ap (λ (y : Option Text). or_else y r) (here refl).1
set_step false c o x r slot here = refl

get-set_after : (cs es : Entries) → IsInOrder es → (m : SpaceMap) (q : KeyView) → get (applied m (set_after cs es)) (key_pair q) ≡ or_else (shown (slot_of cs q) (slot_of es q)) (get m (key_pair q))
unfolding or_else
get-set_after cs [] s m q = refl
get-set_after cs (e ∷ es) s m q =
    let x : Option Text = unwrap_or (slot_of cs e.0) e.1 in
    let here : is_at (key_cmp q) e.0 ≡ true → (slot_of es q ≡ None) × (x ≡ unwrap_or (slot_of cs q) e.1) =
    λ (b : is_at (key_cmp q) e.0 ≡ true). (
      subst (λ (y : KeyView). slot_of es y ≡ None) (sym (at_same q e.0 b)) (none_later e.0 es (head_below e es s)),
      ap (λ (y : KeyView). unwrap_or (slot_of cs y) e.1) (sym (at_same q e.0 b)),
    ) in
    ap (λ (n : SpaceMap). get n (key_pair q)) (fold-append changed m (set_of e.0 x) (set_after cs es))
    ∙ get-set_after cs es (tail_ordered e es s) (applied m (set_of e.0 x)) q
    ∙ ap (λ (r : Option Text). or_else (shown (slot_of cs q) (slot_of es q)) r) (get-set_of m e.0 x q)
    ∙ set_step (is_at (key_cmp q) e.0) (slot_of cs q) e.1 x (get m (key_pair q)) (slot_of es q) here

-- a key without a slot is changed by none for which there is room
unchanged_step : (es cs : Entries) (c : KeyView × Option Text) (q : KeyView) (b : Bool) → is_at (key_cmp q) c.0 ≡ b → IsSome (slot_of es c.0) → slot_of es q ≡ None → slot_of cs q ≡ None → cond b (Some c.1) (slot_of cs q) ≡ None
unchanged_step es cs c q true at some none rest =
    let here : IsSome (slot_of es q) = subst (λ (y : KeyView). IsSome (slot_of es y)) (sym (at_same q c.0 at)) some in
    absurd (false≢true (sym (ap is_some none) ∙ here))
unchanged_step es cs c q false at some none rest = rest

unchanged : (es cs : Entries) (q : KeyView) → HaveRoom es cs → slot_of es q ≡ None → slot_of cs q ≡ None
unchanged es [] q room none = refl
unchanged es (c ∷ cs) q room none = unchanged_step es cs c q (is_at (key_cmp q) c.0) refl room.0 none (unchanged es cs q room.1 none)

shown_is : (change slot : Option (Option Text)) → (slot ≡ None → change ≡ None) → shown change slot ≡ unwrap_or change (value_in slot)
shown_is change None none = ap (λ (c : Option (Option Text)). unwrap_or c None) (sym (none refl))
shown_is change (Some o) none = refl

pub applied-set_after : (es cs : Entries) → IsInOrder es → IsInOrder cs → HaveRoom es cs → applied empty (set_after cs es) ≡ applied (held es) (changes_of cs)
unfolding key_of or_else
applied-set_after es cs s t room = same_map space_total space_exact _ _ (λ p.
    let q = key_of p in
    get-set_after cs es s empty q
    ∙ ap (or_else (shown (slot_of cs q) (slot_of es q))) (get-empty space_cmp p)
    ∙ else_none (shown (slot_of cs q) (slot_of es q))
    ∙ shown_is (slot_of cs q) (slot_of es q) (unchanged es cs q room)
    ∙ sym (get-applied cs t (held es) q ∙ ap (λ (r : Option Text). unwrap_or (slot_of cs q) r) (get-held es q)))
