-- What a crash leaves while records are laid into another area, and that is selected.
use Rattle.std.proofs.Common.{◌≡◌, ◌⊎◌, inl, inr, ℕ, ◌+◌, ◌-◌, ◌^◌, ◌<◌, ◌≤◌, ◌==◌, Bool, true, false, not, Some, List, [], ◌∷◌, ◌++◌, length, get_or, take, drop, refl, sym, ◌∙◌, ap, subst, arith, append_assoc, length-append, length-take, length-drop}
use Rattle.std.proofs.lemmas.List.{drop-drop, take-take, take_at, drop_at, get_or-drop, get_or_at}
use Rattle.std.proofs.lemmas.Nat.{from_be_bytes-to_be_bytes_8}
use Rattle.std.specs.Int.{w64, to_be_bytes}
use Rattle.disk_model.specs.Torn.{IsTorn}
use Rattle.disk_model.specs.Disk.{Timeline, Written, changed, content, at_rest}
use Rattle.disk_model.specs.Crash.{AnyCrash}
use Rattle.disk_model.specs.CrashLaws.{joined, weaker}
use Rattle.disk_model.proofs.Tear.{done_torn}
use Rattle.disk_model.proofs.Images.{written_inside}
use Rattle.journal_core.specs.Records.{number, first_record}
use Rattle.journal_core.specs.Layout.{Whole, EndsAt}
use Rattle.journal_core.proofs.Walk.{from_first, same_part, same_at}
use Rattle.journal_pair.specs.declared.area.Area.{Area}
use Rattle.journal_pair.specs.Cut.{IsCut}
use Rattle.journal_pair.specs.Records.{second_selected, slot_at, base_in, records_of}
use Rattle.journal_pair.specs.Layout.{Lies, Stands, BothLie, IsFree, spelled}
use Rattle.journal_pair.proofs.Areas.{heads, stands_records, stands_on, stands_beside, ends_keeps}

-- ---- an area that is spelled whole

number_back : (n : ℕ) → n < 2 ^ 64 → number (to_be_bytes w64 n) ≡ n
unfolding number
number_back n short = from_be_bytes-to_be_bytes_8 n short

eight : (n : ℕ) → length (to_be_bytes w64 n) ≡ 8
eight n = refl

pub spelled_some : (rs : List (List ℕ)) → 1 ≤ length (spelled rs)
spelled_some [] = omega arith
spelled_some (p ∷ ps) = omega arith

length-spelled : (p : List ℕ) (ps : List (List ℕ)) → length (spelled (p ∷ ps)) ≡ 9 + length p + length (spelled ps)
length-spelled p ps = omega (arith, eight (length p), length-append (to_be_bytes w64 (length p)) (p ++ spelled ps), length-append p (spelled ps))

module _ (p rest : List ℕ) (short : length p < 2 ^ 64) (some : 1 ≤ length rest) where
  abbrev whole : List ℕ
  whole = 1 ∷ (to_be_bytes w64 (length p) ++ (p ++ rest))

  length-whole : length whole ≡ 9 + length p + length rest
  length-whole = omega (arith, eight (length p), length-append (to_be_bytes w64 (length p)) (p ++ rest), length-append p rest)

  behind_length : drop 9 whole ≡ p ++ rest
  behind_length = drop_at (to_be_bytes w64 (length p)) (p ++ rest) 8 (eight (length p))

  record_first : first_record whole ≡ Some p
  record_first = from_first whole p (record {
    opened = refl;
    size_is = ap number (take_at (to_be_bytes w64 (length p)) (p ++ rest) 8 (eight (length p))) ∙ number_back (length p) short;
    fits = omega (arith, length-whole, some);
    payload = ap (λ (l : List ℕ). take (length p) l) behind_length ∙ take_at p rest (length p) refl;
  })

  record_rest : drop (9 + length p) whole ≡ rest
  record_rest = sym (drop-drop (length p) 9 whole) ∙ ap (λ (l : List ℕ). drop (length p) l) behind_length ∙ drop_at p rest (length p) refl

spelled_front : (p : List ℕ) (ps : List (List ℕ)) (tail : List ℕ) → spelled (p ∷ ps) ++ tail ≡ 1 ∷ (to_be_bytes w64 (length p) ++ (p ++ (spelled ps ++ tail)))
spelled_front p ps tail =
    ap (λ (l : List ℕ). 1 ∷ l) (append_assoc (to_be_bytes w64 (length p)) (p ++ spelled ps) tail ∙ ap (λ (l : List ℕ). to_be_bytes w64 (length p) ++ l) (append_assoc p (spelled ps) tail))

pub spelled_ends : (rs : List (List ℕ)) (tail : List ℕ) (e : ℕ) → e + 1 ≡ length (spelled rs) → length (spelled rs) < 2 ^ 64 → EndsAt rs e (spelled rs ++ tail)
spelled_ends [] tail e is short =
    let none : e ≡ 0 = omega (arith, is) in
    subst (λ (k : ℕ). EndsAt [] k (0 ∷ tail)) (sym none) (record { whole = refl; inside = omega arith; closed = λ one. omega (arith, one) })
spelled_ends (p ∷ ps) tail e is short =
    let rest = spelled ps ++ tail in
    let some : 1 ≤ length rest = omega (arith, length-append (spelled ps) tail, spelled_some ps) in
    let long = length-spelled p ps in
    let small : length p < 2 ^ 64 = omega (arith, long, short) in
    let k = 9 + length p in
    let later = spelled_ends ps tail (e - k) (omega (arith, is, long, spelled_some ps)) (omega (arith, long, short)) in
    let front = spelled_front p ps tail in
    let dropped : drop k (spelled (p ∷ ps) ++ tail) ≡ rest = ap (λ (l : List ℕ). drop k l) front ∙ record_rest p rest small some in
    let there : k + (e - k) ≡ e = omega (arith, is, long, spelled_some ps) in
    record {
      whole = (
        ap first_record front ∙ record_first p rest small some,
        omega (arith, is, long, spelled_some ps),
        subst (Whole ps (e - k)) (sym dropped) later.whole,
      );
      inside = omega (arith, is, length-append (spelled (p ∷ ps)) tail, later.inside, length-append (spelled ps) tail, long);
      closed = λ one. later.closed (ap (λ (l : List ℕ). get_or l (e - k) 0) (sym dropped) ∙ get_or-drop k (spelled (p ∷ ps) ++ tail) (e - k) 0 ∙ ap (λ (i : ℕ). get_or (spelled (p ∷ ps) ++ tail) i 0) there ∙ one);
    }

-- ---- the slot that isn't selected is written

-- drop from further on
dropped_on : (k base : ℕ) (a b : List ℕ) → drop k a ≡ drop k b → k ≤ base → drop base a ≡ drop base b
dropped_on k base a b same le =
    let there : k + (base - k) ≡ base = omega (arith, le) in
    ap (λ (i : ℕ). drop i a) (sym there) ∙ sym (drop-drop (base - k) k a) ∙ ap (λ (l : List ℕ). drop (base - k) l) same ∙ drop-drop (base - k) k b ∙ ap (λ (i : ℕ). drop i b) there

lies_behind : (ps : List (List ℕ)) (a : Area) (old c : List ℕ) → Lies ps a old → base_in a.second c ≡ base_in a.second old → drop 18 c ≡ drop 18 old → Lies ps a c
lies_behind ps a old c lies base same = record {
  base = base ∙ lies.base;
  behind = lies.behind;
  ends = subst (EndsAt ps a.len) (sym (dropped_on 18 a.base c old same lies.behind)) lies.ends;
}

other_base : (s : Bool) (old c : List ℕ) → IsTorn old (slot_at (not s)) 8 c → base_in s c ≡ base_in s old
other_base true old c torn = ap (λ (l : List ℕ). number (take 8 l)) torn.after
other_base false old c torn = ap number (same_part 10 2 8 c old torn.before (omega arith))

slot_front : (s : Bool) (old c : List ℕ) → IsTorn old (slot_at s) 8 c → take 2 c ≡ take 2 old
slot_front true old c torn = same_part 10 0 2 c old torn.before (omega arith)
slot_front false old c torn = torn.before

slot_back : (s : Bool) (old c : List ℕ) → IsTorn old (slot_at s) 8 c → drop 18 c ≡ drop 18 old
slot_back true old c torn = torn.after
slot_back false old c torn = dropped_on 10 18 c old torn.after (omega arith)

pub slot_torn : (ps : List (List ℕ)) (a : Area) (s : Bool) (old c : List ℕ) → Stands ps a old → s ≡ not a.second → IsTorn old (slot_at s) 8 c → Stands ps a c
slot_torn ps a s old c stands other torn =
    let moved : IsTorn old (slot_at (not a.second)) 8 c = subst (λ (t : Bool). IsTorn old (slot_at t) 8 c) other torn in
    let front = slot_front s old c torn in
    record {
      ready = same_at 2 0 c old front (omega arith) ∙ stands.ready;
      selected = ap (λ (n : ℕ). n == 1) (same_at 2 1 c old front (omega arith)) ∙ stands.selected;
      lies = lies_behind ps a old c stands.lies (other_base a.second old c moved) (slot_back s old c torn);
    }

pub slot_low : (s : Bool) → slot_at s ≤ 10
slot_low true = omega arith
slot_low false = omega arith

-- an area lies behind the header: its base is in the slot
slot_done : (rs : List (List ℕ)) (b : Area) (old : List ℕ) → 18 ≤ length old → 18 ≤ b.base → b.base < 2 ^ 64 → EndsAt rs b.len (drop b.base old) → Lies rs b (changed (Written (slot_at b.second) (to_be_bytes w64 b.base)) old)
slot_done rs b old long behind short ends =
    let at = slot_at b.second in
    let be = to_be_bytes w64 b.base in
    let new = changed (Written at be) old in
    let le : at ≤ length old = omega (arith, slot_low b.second, long) in
    let torn = done_torn old at be le in
    let front : length (take at old) ≡ at = omega (arith, length-take at old, le) in
    let is = written_inside at be old le in
    let back : drop 18 new ≡ drop 18 old = slot_back b.second old new torn in
    record {
      base = ap (λ (l : List ℕ). number (take 8 (drop at l))) is ∙ ap (λ (l : List ℕ). number (take 8 l)) (drop_at (take at old) (be ++ drop (at + length be) old) at front)
          ∙ ap number (take_at be (drop (at + length be) old) 8 (eight b.base)) ∙ number_back b.base short;
      behind = behind;
      ends = subst (EndsAt rs b.len) (sym (dropped_on 18 b.base new old back behind)) ends;
    }

free_behind : (a : Area) (base n : ℕ) → 18 ≤ a.base → IsFree a base n → 18 ≤ base
free_behind a base n behind (inl before) = omega (arith, before.0)
free_behind a base n behind (inr after) = omega (arith, after, behind)

pub free_inside : (ps : List (List ℕ)) (a : Area) (base n : ℕ) (old : List ℕ) → Stands ps a old → IsFree a base n → base ≤ length old
free_inside ps a base n old stands (inl before) = omega (arith, before.0, stands.lies.behind, stands.lies.ends.inside, length-drop a.base old)
free_inside ps a base n old stands (inr after) = omega (arith, after, stands.lies.ends.inside, length-drop a.base old)

module _ (old mid : Timeline) (ps : List (List ℕ)) (a : Area) (rs : List (List ℕ)) (b : Area) (body : List ℕ) (stands : Stands ps a (content old.now)) (is : body ≡ spelled rs) (free : IsFree a b.base (length body)) (slots : b.second ≡ not a.second) (long : b.len + 1 ≡ length body) where
  -- the area is written
  pub area_crash : AnyCrash old mid (IsTorn (content old.now) b.base (length body)) → AnyCrash old mid (λ (c : List ℕ). records_of c ≡ ps)
  area_crash run = weaker old mid _ (λ (c : List ℕ). records_of c ≡ ps) (λ c torn. stands_records ps a c (stands_beside ps a b.base (length body) (content old.now) c stands free torn)) run

  module _ (written : mid.now ≡ at_rest (changed (Written b.base body) (content old.now))) where
    inside : b.base ≤ length (content old.now)
    inside = free_inside ps a b.base (length body) (content old.now) stands free

    pub mid_stands : Stands ps a (content mid.now)
    mid_stands = subst (Stands ps a) (sym (ap content written)) (stands_beside ps a b.base (length body) (content old.now) (changed (Written b.base body) (content old.now)) stands free (done_torn (content old.now) b.base body inside))

    mid_ends : length body < 2 ^ 64 → EndsAt rs b.len (drop b.base (content mid.now))
    mid_ends short =
        let tail = drop (b.base + length body) (content old.now) in
        let front : length (take b.base (content old.now)) ≡ b.base = omega (arith, length-take b.base (content old.now), inside) in
        let there : drop b.base (content mid.now) ≡ spelled rs ++ tail =
        ap (λ (l : List ℕ). drop b.base l) (ap content written ∙ written_inside b.base body (content old.now) inside) ∙ drop_at (take b.base (content old.now)) (body ++ tail) b.base front ∙ ap (λ (l : List ℕ). l ++ tail) is in
        subst (EndsAt rs b.len) (sym there) (spelled_ends rs tail b.len (long ∙ ap length is) (omega (arith, ap length is, short)))

    pub header_long : 18 ≤ length (content mid.now)
    header_long = omega (arith, mid_stands.lies.behind, mid_stands.lies.ends.inside, length-drop a.base (content mid.now))

    -- and its base
    pub slot_crash : (new : Timeline) → AnyCrash old mid (IsTorn (content old.now) b.base (length body)) → AnyCrash mid new (IsTorn (content mid.now) (slot_at b.second) 8) → AnyCrash old new (λ (c : List ℕ). records_of c ≡ ps)
    slot_crash new front back = joined old mid new (λ (c : List ℕ). records_of c ≡ ps) (area_crash front)
        (weaker mid new _ (λ (c : List ℕ). records_of c ≡ ps) (λ c torn. stands_records ps a c (slot_torn ps a b.second (content mid.now) c mid_stands slots torn)) back)

    -- the area of before is still selected
    pub still_stands : (new : Timeline) → new.now ≡ at_rest (changed (Written (slot_at b.second) (to_be_bytes w64 b.base)) (content mid.now)) → Stands ps a (content new.now)
    still_stands new done =
        let torn = done_torn (content mid.now) (slot_at b.second) (to_be_bytes w64 b.base) (omega (arith, slot_low b.second, header_long)) in
        subst (Stands ps a) (sym (ap content done)) (slot_torn ps a b.second (content mid.now) (changed (Written (slot_at b.second) (to_be_bytes w64 b.base)) (content mid.now)) mid_stands slots torn)

    pub both_lie : (new : Timeline) → length body < 2 ^ 64 → b.base < 2 ^ 64 → new.now ≡ at_rest (changed (Written (slot_at b.second) (to_be_bytes w64 b.base)) (content mid.now)) → BothLie ps a rs b (content new.now)
    both_lie new short low done =
        let last = changed (Written (slot_at b.second) (to_be_bytes w64 b.base)) (content mid.now) in
        let torn = done_torn (content mid.now) (slot_at b.second) (to_be_bytes w64 b.base) (omega (arith, slot_low b.second, header_long)) in
        let here = slot_torn ps a b.second (content mid.now) last mid_stands slots torn in
        let both : BothLie ps a rs b last = record {
          ready = here.ready;
          slots = slots;
          here = here.lies;
          there = slot_done rs b (content mid.now) header_long (free_behind a b.base (length body) mid_stands.lies.behind free) low (mid_ends short);
        } in
        subst (BothLie ps a rs b) (sym (ap content done)) both

-- ---- it is selected

both_on : (ps : List (List ℕ)) (a : Area) (rs : List (List ℕ)) (b : Area) (old c : List ℕ) → BothLie ps a rs b old → IsTorn old 1 1 c → BothLie ps a rs b c
both_on ps a rs b old c both torn = record {
  ready = same_at 1 0 c old torn.before (omega arith) ∙ both.ready;
  slots = both.slots;
  here = lies_behind ps a old c both.here (bases a.second) back;
  there = lies_behind rs b old c both.there (bases b.second) back;
}
  where
    back : drop 18 c ≡ drop 18 old
    back = dropped_on 2 18 c old torn.after (omega arith)

    bases : (s : Bool) → base_in s c ≡ base_in s old
    bases true = ap (λ (l : List ℕ). number (take 8 l)) (dropped_on 2 10 c old torn.after (omega arith))
    bases false = ap (λ (l : List ℕ). number (take 8 l)) torn.after

pub selects_here : (ps : List (List ℕ)) (a : Area) (rs : List (List ℕ)) (b : Area) (c : List ℕ) → BothLie ps a rs b c → second_selected c ≡ a.second → Stands ps a c
selects_here ps a rs b c both is = record { ready = both.ready; selected = is; lies = both.here }

pub selects_there : (ps : List (List ℕ)) (a : Area) (rs : List (List ℕ)) (b : Area) (c : List ℕ) → BothLie ps a rs b c → second_selected c ≡ b.second → Stands rs b c
selects_there ps a rs b c both is = record { ready = both.ready; selected = is; lies = both.there }

one_of : (s t u : Bool) → u ≡ not t → (s ≡ t) ⊎ (s ≡ u)
one_of true true u is = inl refl
one_of true false u is = inr (sym is)
one_of false true u is = inr (sym is)
one_of false false u is = inl refl

pub select_torn : (ps : List (List ℕ)) (a : Area) (rs : List (List ℕ)) (b : Area) (old c : List ℕ) → BothLie ps a rs b old → IsTorn old 1 1 c → (records_of c ≡ ps) ⊎ (records_of c ≡ rs)
select_torn ps a rs b old c both torn =
    let now = both_on ps a rs b old c both torn in
    elim (one_of (second_selected c) a.second b.second both.slots) [
      | inl here ↦ inl (stands_records ps a c (selects_here ps a rs b c now here))
      | inr there ↦ inr (stands_records rs b c (selects_there ps a rs b c now there))
    ]

pub both_long : (ps : List (List ℕ)) (a : Area) (rs : List (List ℕ)) (b : Area) (old : List ℕ) → BothLie ps a rs b old → 18 ≤ length old
both_long ps a rs b old both = omega (arith, both.here.behind, both.here.ends.inside, length-drop a.base old)

pub select_done : (ps : List (List ℕ)) (a : Area) (rs : List (List ℕ)) (b : Area) (x : ℕ) (old : List ℕ) → BothLie ps a rs b old → (x == 1) ≡ b.second → Stands rs b (changed (Written 1 (x ∷ [])) old)
select_done ps a rs b x old both is =
    let new = changed (Written 1 (x ∷ [])) old in
    let le : 1 ≤ length old = omega (arith, both_long ps a rs b old both) in
    let front : length (take 1 old) ≡ 1 = omega (arith, length-take 1 old, le) in
    let there : get_or new 1 0 ≡ x = ap (λ (l : List ℕ). get_or l 1 0) (written_inside 1 (x ∷ []) old le) ∙ get_or_at (take 1 old) x (drop 2 old) 0 1 front in
    selects_there ps a rs b new (both_on ps a rs b old new both (done_torn old 1 (x ∷ []) le)) (ap (λ (n : ℕ). n == 1) there ∙ is)

-- ---- what lies behind it is cut

pub cut_stands : (rs : List (List ℕ)) (b : Area) (old c : List ℕ) → Stands rs b old → IsCut old (b.base + b.len + 1) c → Stands rs b c
cut_stands rs b old c stands cut =
    stands_on rs rs b b old c stands refl refl (heads (b.base + b.len + 1) c old cut.before (omega (arith, stands.lies.behind)))
    (ends_keeps rs b.len (drop b.base c) (drop b.base old) (same_part (b.base + b.len + 1) b.base (b.len + 1) c old cut.before (omega arith)) stands.lies.ends)

pub cut_done : (old : List ℕ) (n : ℕ) → IsCut old n (take n old)
cut_done old n = record { no_shorter = omega (arith, length-take n old); no_longer = omega (arith, length-take n old); before = again }
  where
    again : take n (take n old) ≡ take n old
    again = take-take n n old (omega arith)

-- one record more is spelled
pub spelled_more : (bytes rest p : List ℕ) → (((bytes ++ 1 ∷ []) ++ to_be_bytes w64 (length p)) ++ p) ++ rest ≡ bytes ++ (1 ∷ (to_be_bytes w64 (length p) ++ (p ++ rest)))
spelled_more bytes rest p =
    let be = to_be_bytes w64 (length p) in
    append_assoc ((bytes ++ 1 ∷ []) ++ be) p rest ∙ append_assoc (bytes ++ 1 ∷ []) be (p ++ rest) ∙ append_assoc bytes (1 ∷ []) (be ++ (p ++ rest))
