-- Facts of the lines of a script.
use Rattle.std.proofs.Common.{◌≡◌, sym, ap, ◌∙◌, subst, ◌⊎◌, inl, inr, ℕ, zero, suc, ◌+◌, ◌-◌, ◌<◌, ◌≤◌, Bool, true, false, List, Option, Some, None, length, arith}
use Rattle.std.specs.Prelude.{◌==◌, ◌&&◌, count_by, take, slice_get, get_or}
use Rattle.std.proofs.lemmas.Option.{slice_get_within, get_or_from_slice_get, slice_get_cases}
use Rattle.std.proofs.lemmas.List.{take_all}
use Rattle.std.proofs.lemmas.List.Sums.{count_by_more_no, count_by_more_yes}
use Rattle.script_text.specs.declared.asks.NamedLine.{NamedLine}
use Rattle.fitting_run.specs.Lines.{logs_for}
use Rattle.node_course.specs.Script.{logs_at, asked_by}

same_line : (l m : NamedLine) (o : Option NamedLine) → o ≡ Some l → o ≡ Some m → l ≡ m
same_line l m o e f = let same : Some l ≡ Some m = sym e ∙ f in cc

-- One more line.

elsewhere : (n s : ℕ) (l : NamedLine) → (l.node == n) ≡ false → logs_at n s l ≡ false
elsewhere n s l e = ap (λ b. b && logs_for s l) e

pub asked-no : (lines : List NamedLine) (n s i : ℕ) (l : NamedLine) → slice_get lines i ≡ Some l → logs_at n s l ≡ false → asked_by lines n s (i + 1) ≡ asked_by lines n s i
asked-no lines n s i l at none = count_by_more_no (logs_at n s) lines i l (slice_get_within lines i l at) (ap (logs_at n s) (get_or_from_slice_get lines i l l at) ∙ none)

pub asked-yes : (lines : List NamedLine) (n s i : ℕ) (l : NamedLine) → slice_get lines i ≡ Some l → logs_at n s l ≡ true → asked_by lines n s (i + 1) ≡ asked_by lines n s i + 1
asked-yes lines n s i l at some = count_by_more_yes (logs_at n s) lines i l (slice_get_within lines i l at) (ap (logs_at n s) (get_or_from_slice_get lines i l l at) ∙ some)

pub asked-elsewhere : (lines : List NamedLine) (n s i : ℕ) (l : NamedLine) → slice_get lines i ≡ Some l → (l.node == n) ≡ false → asked_by lines n s (i + 1) ≡ asked_by lines n s i
asked-elsewhere lines n s i l at other = asked-no lines n s i l at (elsewhere n s l other)

-- Many more lines, none of which counts.
pub count-none_more : {A : Type 0} (p : A → Bool) (xs : List A) (from k : ℕ) → ((i : ℕ) (x : A) → from ≤ i → i < from + k → slice_get xs i ≡ Some x → p x ≡ false) → count_by p (take (from + k) xs) ≡ count_by p (take from xs)
count-none_more p xs from zero each = ap (λ j. count_by p (take j xs)) (let e : from + 0 ≡ from = omega arith in e)
count-none_more {A} p xs from (suc k) each =
    let before = count-none_more p xs from k (λ i x low high is. each i x low (omega (arith, high)) is) in
    let e : from + suc k ≡ (from + k) + 1 = omega arith in
    ap (λ j. count_by p (take j xs)) e ∙ (by (slice_get_cases xs (from + k)).1 ∙ before)
  where
    by : ((x : A) × (from + k < length xs) × (slice_get xs (from + k) ≡ Some x) × (get_or xs (from + k) x ≡ x)) ⊎ ((length xs ≤ from + k) × (slice_get xs (from + k) ≡ None)) → count_by p (take ((from + k) + 1) xs) ≡ count_by p (take (from + k) xs)
    by (inl h) = count_by_more_no p xs (from + k) h.0 h.1 (ap p h.3 ∙ each (from + k) h.0 (omega arith) (omega arith) h.2)
    by (inr h) = ap (count_by p) (take_all ((from + k) + 1) xs (omega (arith, h.0)) ∙ sym (take_all (from + k) xs (omega (arith, h.0))))

pub asked-none : (lines : List NamedLine) (n s from to : ℕ) → from ≤ to → ((i : ℕ) (l : NamedLine) → from ≤ i → i < to → slice_get lines i ≡ Some l → (l.node == n) ≡ false) → asked_by lines n s to ≡ asked_by lines n s from
asked-none lines n s from to le each =
    let gap : ℕ = (to - from) in
    let is : from + gap ≡ to = omega (arith, le) in
    subst (λ j. asked_by lines n s j ≡ asked_by lines n s from) is
    (count-none_more (logs_at n s) lines from gap (λ i l low high at. elsewhere n s l (each i l low (omega (arith, high, is)) at)))
