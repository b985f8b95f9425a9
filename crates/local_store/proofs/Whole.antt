-- A whole space after changes, in one record.
use Rattle.std.proofs.Common.{◌≡◌, ℕ, ◌+◌, ◌≤◌, ◌<◌, ◌^◌, Bool, true, false, List, [], ◌∷◌, ◌++◌, length, length-append, append_assoc, flat_map, Option, Some, None, is_none, refl, sym, ap, subst, ◌∙◌, arith, Bor}
use Rattle.std.specs.Prelude.{not, is_some, IfSome, unwrap_or}
use Rattle.std.specs.List.{AllByRecursion}
use Rattle.std.specs.Option.{option_copied}
use Rattle.std.proofs.lemmas.Grind.{flat_map-append}
use Rattle.delos_types.specs.Spaces.{Text}
use Rattle.store_records.specs.declared.change.Change.{Change}
use Rattle.store_records.specs.Format.{change_bytes, IsSpellableChange}
use Rattle.local_store.specs.Keys.{KeyView}
use Rattle.local_store.specs.Slots.{Entries, slot_of, AreFit, set_of, set_after}

-- the value at a key after changes is short enough
pub small_after : (cs : Entries) (q : KeyView) (change : Option (Option Text)) (slot : Option Text) → AreFit cs → slot_of cs q ≡ change → IfSome slot (λ v. length v < 2 ^ 32) → IfSome (unwrap_or change slot) (λ v. length v < 2 ^ 32)
small_after cs q None slot fit is small = small
small_after cs q (Some o) slot fit is small = (fit q o is).1

all_join : (xs ys : List Change) → AllByRecursion IsSpellableChange xs → AllByRecursion IsSpellableChange ys → AllByRecursion IsSpellableChange (xs ++ ys)
all_join [] ys left right = right
all_join (x ∷ xs) ys left right = (left.0, all_join xs ys left.1 right)

-- one key more is spelled
pub text_step : (cs es rest : Entries) (e : KeyView × Option Text) (value : Option Text) (out new all : List ℕ) → es ≡ e ∷ rest → value ≡ unwrap_or (slot_of cs e.0) e.1 → new ≡ out ++ flat_map change_bytes (set_of e.0 value) →
    out ++ flat_map change_bytes (set_after cs es) ≡ all → new ++ flat_map change_bytes (set_after cs rest) ≡ all
text_step cs es rest e value out new all split is made text =
    let first : List ℕ = flat_map change_bytes (set_of e.0 value) in
    let others : List ℕ = flat_map change_bytes (set_after cs rest) in
    ap (λ (x : List ℕ). x ++ others) made
    ∙ append_assoc out first others
    ∙ ap (λ (x : List ℕ). out ++ x) (sym (flat_map-append change_bytes (set_of e.0 value) (set_after cs rest)))
    ∙ ap (λ (v : Option Text). out ++ flat_map change_bytes (set_of e.0 v ++ set_after cs rest)) is
    ∙ ap (λ (x : Entries). out ++ flat_map change_bytes (set_after cs x)) (sym split)
    ∙ text

pub fit_step : (cs es rest : Entries) (e : KeyView × Option Text) (value : Option Text) (G : Type 0) → es ≡ e ∷ rest → value ≡ unwrap_or (slot_of cs e.0) e.1 → AllByRecursion IsSpellableChange (set_of e.0 value) →
    (AllByRecursion IsSpellableChange (set_after cs es) → G) → AllByRecursion IsSpellableChange (set_after cs rest) → G
fit_step cs es rest e value G split is fits all others =
    all (subst (λ (x : Entries). AllByRecursion IsSpellableChange (set_after cs x)) (sym split)
    (all_join (set_of e.0 (unwrap_or (slot_of cs e.0) e.1)) (set_after cs rest) (subst (λ (v : Option Text). AllByRecursion IsSpellableChange (set_of e.0 v)) is fits) others))

-- ---- how many keys have values

one_or_none : (k : KeyView) (o : Option Text) → length (set_of k o) ≤ 1
one_or_none k None = omega arith
one_or_none k (Some v) = omega arith

pub at_most : (cs es : Entries) → length (set_after cs es) ≤ length es
at_most cs [] = omega arith
at_most cs (e ∷ es) = omega (arith, length-append (set_of e.0 (unwrap_or (slot_of cs e.0) e.1)) (set_after cs es), one_or_none e.0 (unwrap_or (slot_of cs e.0) e.1), at_most cs es)

counted_by : (k : KeyView) (o : Option Text) (none : Bool) → is_none o ≡ none → none ≡ false → length (set_of k o) ≡ 1
counted_by k None none is e = absurd (cc)
counted_by k (Some v) none is e = refl

uncounted_by : (k : KeyView) (o : Option Text) → is_none o ≡ true → length (set_of k o) ≡ 0
uncounted_by k None is = refl
uncounted_by k (Some v) is = absurd (cc)

lengths : (cs es rest : Entries) (e : KeyView × Option Text) (value : Option Text) → es ≡ e ∷ rest → value ≡ unwrap_or (slot_of cs e.0) e.1 → (length (set_after cs es) ≡ length (set_of e.0 value) + length (set_after cs rest)) × (length es ≡ 1 + length rest)
lengths cs es rest e value split is = (
  ap (λ (x : Entries). length (set_after cs x)) split ∙ length-append (set_of e.0 (unwrap_or (slot_of cs e.0) e.1)) (set_after cs rest) ∙ ap (λ (v : Option Text). length (set_of e.0 v) + length (set_after cs rest)) (sym is),
  ap length split ∙ omega arith,
)

pub copied_none : (r : Option (Bor Text)) (none : Bool) → is_some r ≡ not none → is_none (option_copied r) ≡ none
copied_none None true is = refl
copied_none None false is = absurd (cc)
copied_none (Some x) true is = absurd (cc)
copied_none (Some x) false is = refl

-- the count that is left where a key has a value, and where it has none
pub count_kept : (cs es rest : Entries) (e : KeyView × Option Text) (value : Option Text) (count all : ℕ) → es ≡ e ∷ rest → value ≡ unwrap_or (slot_of cs e.0) e.1 → is_none value ≡ false →
    count + length (set_after cs es) ≡ all + length es → count + length (set_after cs rest) ≡ all + length rest
count_kept cs es rest e value count all split is some counted = let l = lengths cs es rest e value split is in omega (arith, l.0, l.1, counted, counted_by e.0 value false some refl)

pub count_gone : (cs es rest : Entries) (e : KeyView × Option Text) (value : Option Text) (count less all : ℕ) → es ≡ e ∷ rest → value ≡ unwrap_or (slot_of cs e.0) e.1 → is_none value ≡ true → less + 1 ≡ count →
    count + length (set_after cs es) ≡ all + length es → less + length (set_after cs rest) ≡ all + length rest
count_gone cs es rest e value count less all split is none one counted = let l = lengths cs es rest e value split is in omega (arith, l.0, l.1, counted, one, uncounted_by e.0 value none)

pub count_some : (cs es rest : Entries) (e : KeyView × Option Text) (value : Option Text) (count all : ℕ) → es ≡ e ∷ rest → value ≡ unwrap_or (slot_of cs e.0) e.1 → is_none value ≡ true →
    count + length (set_after cs es) ≡ all + length es → 1 ≤ count
count_some cs es rest e value count all split is none counted = let l = lengths cs es rest e value split is in omega (arith, l.0, l.1, counted, uncounted_by e.0 value none, at_most cs rest)
