-- What the changes of a chain leave is a chain.
use Rattle.std.proofs.Common.{◌≡◌, ℕ, ◌+◌, ◌<◌, ◌≤◌, Bool, true, false, ◌&&◌, ltb, leb, eqb, List, [], ◌∷◌, ◌++◌, Option, Some, None, refl, sym, ap, subst, ◌∙◌, append_assoc, arith, filter, not}
use Rattle.std.proofs.lemmas.Bool.{lt-ltb, le-leb, leb-true, leb-false, lt-leb}
use Rattle.std.proofs.Common.{inl, inr, ◌⊎◌}
use Rattle.std.specs.Option.{option_map_or}
use Rattle.delos_types.specs.declared.chain.Segment.{Segment}
use Rattle.delos_types.specs.declared.chain.Chain.{Chain}
use Rattle.chain_map.specs.Chain.{first_of_segments, last_of_segments, first_start, last_id, is_linked, is_chain, goes_on, ends_where}
use Rattle.chain_map.specs.Step.{extended_segments, extended, dropped_below}
use Rattle.chain_map.proofs.Links.{both_hold, linked_parts, linked_last}

-- ---- the last segment

pub last-append : (before : List Segment) (last : Segment) → last_of_segments (before ++ last ∷ []) ≡ last
last-append [] last = refl
last-append (s ∷ []) last = refl
last-append (s ∷ t ∷ ts) last = last-append (t ∷ ts) last

pub extended-append : (before : List Segment) (last : Segment) (t : ℕ) → extended_segments (before ++ last ∷ []) t ≡ before ++ record last { end = Some (last.start + t) } ∷ record { id = last.id + 1; start = last.start + t; end = None } ∷ []
extended-append [] last t = refl
extended-append (s ∷ []) last t = refl
extended-append (s ∷ r ∷ rs) last t = ap (λ (ss : List Segment). s ∷ ss) (extended-append (r ∷ rs) last t)

-- what was put together from the segments before the last one
pub made-extended : (ss before front closed whole : List Segment) (last : Segment) (t : ℕ) → ss ≡ before ++ last ∷ [] → front ≡ before → closed ≡ front ++ record last { end = Some (last.start + t) } ∷ []
    → whole ≡ closed ++ record { id = last.id + 1; start = last.start + t; end = None } ∷ [] → whole ≡ extended_segments ss t
made-extended ss before front closed whole last t split same first second =
    let closed_one : List Segment = record last { end = Some (last.start + t) } ∷ [] in
    let open_one : List Segment = record { id = last.id + 1; start = last.start + t; end = None } ∷ [] in
    second ∙ ap (λ (x : List Segment). x ++ open_one) (first ∙ ap (λ (x : List Segment). x ++ closed_one) same) ∙ append_assoc before closed_one open_one
    ∙ sym (extended-append before last t) ∙ ap (λ (x : List Segment). extended_segments x t) (sym split)

both_are : (a b : Bool) → a ≡ true → b ≡ true → (a && b) ≡ true
both_are a b e f = rw (e, f) refl

eqb-same : (n : ℕ) → eqb n n ≡ true
eqb-same n = grind arith

new_end : (s : Segment) (t : ℕ) → s.id + 1 < 64 → is_linked (extended_segments (s ∷ []) t) ≡ true
new_end s t lt =
    let seam = s.start + t in
    both_are (ltb s.id (s.id + 1) && (leb s.start seam && eqb seam seam)) (ltb (s.id + 1) 64 && true)
    (both_are (ltb s.id (s.id + 1)) (leb s.start seam && eqb seam seam) (lt-ltb _ _ (omega arith)) (both_are (leb s.start seam) (eqb seam seam) (le-leb _ _ (omega arith)) (eqb-same seam)))
    (both_are (ltb (s.id + 1) 64) true (lt-ltb _ _ lt) refl)

pub linked-extended : (ss : List Segment) (t : ℕ) → is_linked ss ≡ true → (last_of_segments ss).id + 1 < 64 → is_linked (extended_segments ss t) ≡ true
linked-extended [] t e lt = absurd cc
linked-extended (s ∷ []) t e lt = new_end s t lt
linked-extended (s ∷ r ∷ []) t e lt = let parts = both_hold (goes_on s r) (is_linked (r ∷ [])) e in both_are (goes_on s r) (is_linked (extended_segments (r ∷ []) t)) parts.0 (linked-extended (r ∷ []) t parts.1 lt)
linked-extended (s ∷ r ∷ q ∷ qs) t e lt = let parts = both_hold (goes_on s r) (is_linked (r ∷ q ∷ qs)) e in both_are (goes_on s r) (is_linked (extended_segments (r ∷ q ∷ qs) t)) parts.0 (linked-extended (r ∷ q ∷ qs) t parts.1 lt)

first-extended : (ss : List Segment) (t : ℕ) → (first_of_segments (extended_segments ss t)).start ≡ (first_of_segments ss).start
first-extended [] t = refl
first-extended (s ∷ []) t = refl
first-extended (s ∷ r ∷ rs) t = refl

pub is_chain-extended : (chain : Chain) (t : ℕ) → is_chain chain ≡ true → last_id chain + 1 < 64 → is_chain (extended chain t) ≡ true
is_chain-extended chain t e lt =
    let parts = both_hold (is_linked chain.segments) (leb (first_start chain) chain.trim) e in
    both_are (is_linked (extended_segments chain.segments t)) (leb (first_start (extended chain t)) chain.trim) (linked-extended chain.segments t parts.0 lt) (rw (first-extended chain.segments t) parts.1)

-- ---- the segments above a position

cases_of : (b : Bool) → (b ≡ true) ⊎ (b ≡ false)
cases_of true = inl refl
cases_of false = inr refl

abbrev pub ends_by : ℕ → Segment → Bool
ends_by n s = ends_where (λ end. leb end n) s

abbrev pub above : ℕ → List Segment → List Segment
above n ss = filter (λ s. not (ends_by n s)) ss

kept : (n : ℕ) (s : Segment) (ss : List Segment) → ends_by n s ≡ false → above n (s ∷ ss) ≡ s ∷ above n ss
kept n s ss e = rw e refl

gone : (n : ℕ) (s : Segment) (ss : List Segment) → ends_by n s ≡ true → above n (s ∷ ss) ≡ above n ss
gone n s ss e = rw e refl

open_stays : (n : ℕ) (s : Segment) → s.end ≡ None → ends_by n s ≡ false
open_stays n s e = ap (λ (o : Option ℕ). option_map_or (λ end. leb end n) o false) e

closed_test : (n end : ℕ) (s : Segment) → s.end ≡ Some end → ends_by n s ≡ leb end n
closed_test n end s e = ap (λ (o : Option ℕ). option_map_or (λ k. leb k n) o false) e

all_kept : (n : ℕ) (ss : List Segment) → is_linked ss ≡ true → n < (first_of_segments ss).start → above n ss ≡ ss
all_kept n [] e lt = absurd cc
all_kept n (s ∷ []) e lt = kept n s [] (open_stays n s (linked_last s e).1)
all_kept n (s ∷ t ∷ ts) e lt =
    let parts = linked_parts s t ts e in
    let stays : ends_by n s ≡ false = closed_test n t.start s parts.0.closed ∙ lt-leb t.start n (omega (arith, parts.0.above, lt)) in
    kept n s (t ∷ ts) stays ∙ ap (λ (rest : List Segment). s ∷ rest) (all_kept n (t ∷ ts) parts.1 (omega (arith, parts.0.above, lt)))

record IsAbove (n : ℕ) (ss : List Segment) : Type 0 where
  linked : is_linked ss ≡ true
  first : (first_of_segments ss).start ≤ n

linked-above : (n : ℕ) (ss : List Segment) → is_linked ss ≡ true → (first_of_segments ss).start ≤ n → IsAbove n (above n ss)
linked-above n [] e le = absurd cc
linked-above n (s ∷ []) e le = subst (λ (ss : List Segment). IsAbove n ss) (sym (kept n s [] (open_stays n s (linked_last s e).1))) (record { linked = e; first = le })
linked-above n (s ∷ t ∷ ts) e le =
    let parts = linked_parts s t ts e in
    elim (cases_of (leb t.start n)) [
      | inl ends ↦ subst (λ (ss : List Segment). IsAbove n ss) (sym (gone n s (t ∷ ts) (closed_test n t.start s parts.0.closed ∙ ends))) (linked-above n (t ∷ ts) parts.1 (leb-true _ _ ends))
      | inr stays ↦
          subst (λ (ss : List Segment). IsAbove n ss)
          (sym (kept n s (t ∷ ts) (closed_test n t.start s parts.0.closed ∙ stays) ∙ ap (λ (rest : List Segment). s ∷ rest) (all_kept n (t ∷ ts) parts.1 (leb-false _ _ stays))))
          (record { linked = e; first = le })
    ]

pub is_chain-dropped : (chain : Chain) (n : ℕ) → is_chain chain ≡ true → chain.trim < n → is_chain (dropped_below chain n) ≡ true
is_chain-dropped chain n e lt =
    let parts = both_hold (is_linked chain.segments) (leb (first_start chain) chain.trim) e in
    let found = linked-above n chain.segments parts.0 (omega (arith, leb-true _ _ parts.1, lt)) in
    both_are (is_linked (above n chain.segments)) (leb (first_of_segments (above n chain.segments)).start n) found.linked (le-leb _ _ found.first)
