-- Areas, and what a write leaves of them.
use Rattle.std.proofs.Common.{◌≡◌, ◌≢◌, inl, inr, ℕ, ◌+◌, ◌-◌, ◌<◌, ◌≤◌, ◌&&◌, ◌==◌, nat_lt, Bool, true, false, if◌then◌else◌, List, [], ◌++◌, length, get_or, take, drop, refl, sym, ◌∙◌, ap, subst, arith, length-take, length-drop}
use Rattle.std.proofs.lemmas.List.{take-take, drop-drop, drop-take, drop-append-le, get_or-drop}
use Rattle.std.proofs.lemmas.Bool.{cases_eq, cases_lt, eq-eqb, ne_eqb, lt-ltb, le-ltb, and_from, and_left, and_right}
use Rattle.disk_model.specs.Torn.{IsTorn}
use Rattle.disk_model.specs.Disk.{Written, changed}
use Rattle.disk_model.proofs.Images.{written_inside}
use Rattle.journal_core.specs.Records.{number, first_record}
use Rattle.journal_core.specs.Records as area
use Rattle.journal_core.specs.Layout.{EndsAt}
use Rattle.journal_core.proofs.Walk.{same_part, same_at, ends_records, whole_keeps}
use Rattle.journal_core.proofs.Adding.{behind}
use Rattle.journal_pair.specs.declared.area.Area.{Area}
use Rattle.journal_pair.specs.Records.{second_selected, slot_at, base_in, base_of, is_ready, records_of}
use Rattle.journal_pair.specs.Layout.{Lies, Stands, Selects, IsFree}

-- ---- whether a disk is ready, and its records

pub selected_base : (second : Bool) (base : ℕ) (bytes : List ℕ) → Selects second base bytes → base_of bytes ≡ base
selected_base second base bytes sel = ap (λ (s : Bool). base_in s bytes) sel.selected ∙ sel.base_is

pub selects_ready : (second : Bool) (base : ℕ) (bytes : List ℕ) → Selects second base bytes → is_ready bytes ≡ true
unfolding is_ready
selects_ready second base bytes sel =
    let is = selected_base second base bytes sel in
    and_from (get_or bytes 0 0 == 1) (nat_lt 17 (base_of bytes) && nat_lt (base_of bytes) (length bytes)) (eq-eqb (get_or bytes 0 0) 1 sel.ready)
    (and_from (nat_lt 17 (base_of bytes)) (nat_lt (base_of bytes) (length bytes)) (lt-ltb 17 (base_of bytes) (omega (arith, is, sel.behind))) (lt-ltb (base_of bytes) (length bytes) (omega (arith, is, sel.inside))))

pub selects_records : (second : Bool) (base : ℕ) (bytes : List ℕ) → Selects second base bytes → records_of bytes ≡ area.records_of (drop base bytes)
unfolding records_of
selects_records second base bytes sel =
    ap (λ (t : Bool). if t then area.records_of (drop (base_of bytes) bytes) else []) (selects_ready second base bytes sel)
    ∙ ap (λ (n : ℕ). area.records_of (drop n bytes)) (selected_base second base bytes sel)

pub unready_records : (bytes : List ℕ) → is_ready bytes ≡ false → records_of bytes ≡ []
unfolding records_of
unready_records bytes is = ap (λ (t : Bool). if t then area.records_of (drop (base_of bytes) bytes) else []) is

-- byte 0 doesn't say so
pub closed_unready : (bytes : List ℕ) → get_or bytes 0 0 ≢ 1 → is_ready bytes ≡ false
unfolding is_ready
closed_unready bytes shut = and_left (get_or bytes 0 0 == 1) (nat_lt 17 (base_of bytes) && nat_lt (base_of bytes) (length bytes)) (ne_eqb (get_or bytes 0 0) 1 shut)

-- the base lies in the header
pub low_unready : (bytes : List ℕ) → base_of bytes < 18 → is_ready bytes ≡ false
unfolding is_ready
low_unready bytes low =
    and_right (get_or bytes 0 0 == 1) (nat_lt 17 (base_of bytes) && nat_lt (base_of bytes) (length bytes))
    (and_left (nat_lt 17 (base_of bytes)) (nat_lt (base_of bytes) (length bytes)) (le-ltb 17 (base_of bytes) (omega (arith, low))))

-- or past the end
pub past_unready : (bytes : List ℕ) → length bytes ≤ base_of bytes → is_ready bytes ≡ false
unfolding is_ready
past_unready bytes past =
    and_right (get_or bytes 0 0 == 1) (nat_lt 17 (base_of bytes) && nat_lt (base_of bytes) (length bytes))
    (and_right (nat_lt 17 (base_of bytes)) (nat_lt (base_of bytes) (length bytes)) (le-ltb (base_of bytes) (length bytes) past))

pub short_unready : (bytes : List ℕ) → length bytes ≤ 18 → is_ready bytes ≡ false
short_unready bytes short = elim (cases_lt (base_of bytes) 18) [
  | inl low ↦ low_unready bytes low
  | inr high ↦ past_unready bytes (omega (arith, short, high))
]

-- a disk of no bytes has no records
pub no_bytes : records_of [] ≡ []
no_bytes = unready_records [] (short_unready [] (omega arith))

-- but for byte 0 both are the same
pub still_unready : (old c : List ℕ) → get_or old 0 0 ≡ 1 → is_ready old ≡ false → drop 1 c ≡ drop 1 old → length c ≡ length old → is_ready c ≡ false
still_unready old c first unready same long = elim (cases_eq (get_or c 0 0) 1) [
  | inr shut ↦ closed_unready c shut
  | inl opened ↦ elim (cases_lt (base_of c) 18) [
    | inl low ↦ low_unready c low
    | inr high ↦ elim (cases_lt (base_of c) (length c)) [
      | inr past ↦ past_unready c past
      | inl inside ↦
          let which : second_selected c ≡ second_selected old = ap (λ (n : ℕ). n == 1) (sym (get_or-drop 1 c 0 0) ∙ ap (λ (l : List ℕ). get_or l 0 0) same ∙ get_or-drop 1 old 0 0) in
          let bases : (s : Bool) → base_in s c ≡ base_in s old = λ s. ap (λ (l : List ℕ). number (take 8 l)) (behind_first s) in
          let base : base_of c ≡ base_of old = bases (second_selected c) ∙ ap (λ (s : Bool). base_in s old) which in
          let ready = selects_ready (second_selected old) (base_of old) old (record {
            ready = first;
            selected = refl;
            base_is = refl;
            behind = omega (arith, base, high);
            inside = omega (arith, base, inside, long);
          }) in
          cc (ready, unready)
    ]
  ]
]
  where
    behind_first : (s : Bool) → drop (slot_at s) c ≡ drop (slot_at s) old
    behind_first true = sym (drop-drop 9 1 c) ∙ ap (λ (l : List ℕ). drop 9 l) same ∙ drop-drop 9 1 old
    behind_first false = sym (drop-drop 1 1 c) ∙ ap (λ (l : List ℕ). drop 1 l) same ∙ drop-drop 1 1 old

-- ---- an area that stands

pub stands_selects : (ps : List (List ℕ)) (a : Area) (bytes : List ℕ) → Stands ps a bytes → Selects a.second a.base bytes
stands_selects ps a bytes stands = record {
  ready = stands.ready;
  selected = stands.selected;
  base_is = stands.lies.base;
  behind = stands.lies.behind;
  inside = omega (arith, stands.lies.ends.inside, length-drop a.base bytes);
}

pub stands_records : (ps : List (List ℕ)) (a : Area) (bytes : List ℕ) → Stands ps a bytes → records_of bytes ≡ ps
stands_records ps a bytes stands = selects_records a.second a.base bytes (stands_selects ps a bytes stands) ∙ ends_records ps a.len (drop a.base bytes) stands.lies.ends

-- what begins alike has the same header
pub base_same : (second : Bool) (a b : List ℕ) → take 18 a ≡ take 18 b → base_in second a ≡ base_in second b
base_same true a b same = ap number (same_part 18 10 8 a b same (omega arith))
base_same false a b same = ap number (same_part 18 2 8 a b same (omega arith))

pub lies_on : (ps qs : List (List ℕ)) (a b : Area) (old c : List ℕ) → Lies ps a old → b.second ≡ a.second → b.base ≡ a.base → take 18 c ≡ take 18 old → EndsAt qs b.len (drop b.base c) → Lies qs b c
lies_on ps qs a b old c lies slot base same ends = record {
  base = base_same b.second c old same ∙ ap (λ (s : Bool). base_in s old) slot ∙ lies.base ∙ sym base;
  behind = omega (arith, lies.behind, base);
  ends = ends;
}

pub stands_on : (ps qs : List (List ℕ)) (a b : Area) (old c : List ℕ) → Stands ps a old → b.second ≡ a.second → b.base ≡ a.base → take 18 c ≡ take 18 old → EndsAt qs b.len (drop b.base c) → Stands qs b c
stands_on ps qs a b old c stands slot base same ends = record {
  ready = same_at 18 0 c old same (omega arith) ∙ stands.ready;
  selected = ap (λ (n : ℕ). n == 1) (same_at 18 1 c old same (omega arith)) ∙ stands.selected ∙ sym slot;
  lies = lies_on ps qs a b old c stands.lies slot base same ends;
}

pub heads : (at : ℕ) (c old : List ℕ) → take at c ≡ take at old → 18 ≤ at → take 18 c ≡ take 18 old
heads at c old same le = sym (take-take 18 at c le) ∙ ap (λ (l : List ℕ). take 18 l) same ∙ take-take 18 at old le

-- ---- a write behind a base

pub torn_behind : (base k n : ℕ) (old c : List ℕ) → IsTorn old (base + k) n c → IsTorn (drop base old) k n (drop base c)
torn_behind base k n old c torn =
    let there : base + (k + n) ≡ base + k + n = omega arith in
    record {
      no_shorter = omega (arith, torn.no_shorter, length-drop base old, length-drop base c);
      no_longer = omega (arith, torn.no_longer, length-drop base old, length-drop base c);
      before = same_part (base + k) base k c old torn.before (omega arith);
      after = drop-drop (k + n) base c ∙ ap (λ (i : ℕ). drop i c) there ∙ torn.after ∙ ap (λ (i : ℕ). drop i old) (sym there) ∙ sym (drop-drop (k + n) base old);
    }

pub changed_behind : (base k : ℕ) (body old : List ℕ) → base + k ≤ length old → drop base (changed (Written (base + k) body) old) ≡ changed (Written k body) (drop base old)
changed_behind base k body old le =
    let n = length body in
    let front = take (base + k) old in
    let long : base ≤ length front = omega (arith, length-take (base + k) old, le) in
    let there : base + k + n ≡ base + (k + n) = omega arith in
    ap (λ (l : List ℕ). drop base l) (written_inside (base + k) body old le)
    ∙ drop-append-le base front (body ++ drop (base + k + n) old) long
    ∙ ap (λ (l : List ℕ). l ++ (body ++ drop (base + k + n) old)) (drop-take base k old)
    ∙ ap (λ (i : ℕ). take k (drop base old) ++ (body ++ drop i old)) there
    ∙ ap (λ (l : List ℕ). take k (drop base old) ++ (body ++ l)) (sym (drop-drop (k + n) base old))
    ∙ sym (written_inside k body (drop base old) (omega (arith, length-drop base old, le)))

-- the same front, up to the gate behind the records
pub ends_keeps : (ps : List (List ℕ)) (e : ℕ) (a b : List ℕ) → take (e + 1) a ≡ take (e + 1) b → EndsAt ps e b → EndsAt ps e a
ends_keeps ps e a b same ends =
    let long : e < length a = omega (arith, ap length same, length-take (e + 1) a, length-take (e + 1) b, ends.inside) in
    let fronts : take e a ≡ take e b = sym (take-take e (e + 1) a (omega arith)) ∙ ap (λ (l : List ℕ). take e l) same ∙ take-take e (e + 1) b (omega arith) in
    record {
      whole = whole_keeps ps e a b fronts long ends.whole;
      inside = long;
      closed = λ is. ends.closed (sym (same_at (e + 1) e a b same (omega arith)) ∙ is);
    }

-- what is written right behind an area, or between the header and it, leaves it alone
pub stands_beside : (ps : List (List ℕ)) (a : Area) (at n : ℕ) (old c : List ℕ) → Stands ps a old → IsFree a at n → IsTorn old at n c → Stands ps a c
stands_beside ps a at n old c stands (inl before) torn =
    let last : at + n ≤ a.base = omega (arith, before.0, before.1) in
    let there : at + n + (a.base - (at + n)) ≡ a.base = omega (arith, last) in
    let same : drop a.base c ≡ drop a.base old =
    ap (λ (i : ℕ). drop i c) (sym there) ∙ sym (drop-drop (a.base - (at + n)) (at + n) c) ∙ ap (λ (l : List ℕ). drop (a.base - (at + n)) l) torn.after
    ∙ drop-drop (a.base - (at + n)) (at + n) old ∙ ap (λ (i : ℕ). drop i old) there in
    stands_on ps ps a a old c stands refl refl (heads at c old torn.before (omega (arith, before.0))) (subst (EndsAt ps a.len) (sym same) stands.lies.ends)
stands_beside ps a at n old c stands (inr behind_it) torn =
    let moved : IsTorn old (a.base + (a.len + 1)) n c = subst (λ (i : ℕ). IsTorn old i n c) behind_it torn in
    stands_on ps ps a a old c stands refl refl (heads at c old torn.before (omega (arith, behind_it, stands.lies.behind)))
    (behind ps a.len n (drop a.base old) (drop a.base c) stands.lies.ends (torn_behind a.base (a.len + 1) n old c moved))
