-- What two reads tell of a header, and a disk that is made ready.
use Rattle.std.proofs.Common.{◌≡◌, ◌≢◌, inl, inr, ℕ, ◌+◌, ◌<◌, ◌≤◌, ◌==◌, Bool, false, List, [], ◌∷◌, ◌++◌, length, get_or, take, drop, refl, sym, ◌∙◌, ap, subst, arith, length-take}
use Rattle.std.proofs.lemmas.List.{get_or-take, take_all, drop_all, drop_more}
use Rattle.std.proofs.lemmas.Bool.{cases_eq}
use Rattle.std.specs.Int.{w64, from_be_bytes}
use Rattle.disk_model.specs.Torn.{IsTorn}
use Rattle.disk_model.specs.Disk.{Written, changed, Timeline, content, at_rest}
use Rattle.disk_model.specs.Crash.{AnyCrash}
use Rattle.disk_model.specs.CrashLaws.{joined, weaker}
use Rattle.disk_model.proofs.Images.{written_inside}
use Rattle.journal_core.specs.Records.{number}
use Rattle.journal_core.proofs.Walk.{same_at}
use Rattle.journal_pair.specs.Cut.{IsCut}
use Rattle.journal_pair.specs.Records.{second_selected, slot_at, base_in, base_of, is_ready, records_of}
use Rattle.journal_pair.specs.Layout.{Stands, Selects, first_area}
use Rattle.journal_pair.proofs.Areas.{low_unready, past_unready, closed_unready, short_unready, still_unready, unready_records, stands_records}

module _ (file front buf : List ℕ) (base : ℕ) (here : front ≡ take 2 file) (there : buf ≡ take 8 (drop (slot_at (get_or front 1 0 == 1)) file)) (is : base ≡ from_be_bytes w64 buf) where
  first_read : get_or file 0 0 ≡ get_or front 0 0
  first_read = sym (ap (λ (l : List ℕ). get_or l 0 0) here ∙ get_or-take 2 file 0 0 (omega arith))

  which_read : second_selected file ≡ (get_or front 1 0 == 1)
  which_read = ap (λ (n : ℕ). n == 1) (sym (ap (λ (l : List ℕ). get_or l 1 0) here ∙ get_or-take 2 file 1 0 (omega arith)))

  base_read : base_in (get_or front 1 0 == 1) file ≡ base
  unfolding number
  base_read = sym (is ∙ ap (from_be_bytes w64) there)

  all_read : base_of file ≡ base
  all_read = ap (λ (s : Bool). base_in s file) which_read ∙ base_read

  pub header_closed : get_or front 0 0 ≢ 1 → is_ready file ≡ false
  header_closed shut = closed_unready file (λ opened. shut (sym first_read ∙ opened))

  pub header_low : base < 18 → is_ready file ≡ false
  header_low low = low_unready file (omega (arith, all_read, low))

  pub header_past : length file ≤ base → is_ready file ≡ false
  header_past past = past_unready file (omega (arith, all_read, past))

  pub header_selects : get_or front 0 0 ≡ 1 → 18 ≤ base → base < length file → Selects (get_or front 1 0 == 1) base file
  header_selects first behind inside = record {
    ready = first_read ∙ first;
    selected = which_read;
    base_is = base_read;
    behind = behind;
    inside = inside;
  }

-- ---- a disk that isn't ready

-- the first byte is written
pub first_torn : (old c : List ℕ) → is_ready old ≡ false → (1 ≤ length old → get_or old 0 0 ≡ 1) → IsTorn old 0 1 c → is_ready c ≡ false
first_torn [] c unready said torn = short_unready c (omega (arith, torn.no_longer))
first_torn (x ∷ xs) c unready said torn = still_unready (x ∷ xs) c (said (omega arith)) unready torn.after (omega (arith, torn.no_shorter, torn.no_longer))

pub first_written : (old : List ℕ) → (1 ≤ length (changed (Written 0 (0 ∷ [])) old)) × (get_or (changed (Written 0 (0 ∷ [])) old) 0 0 ≢ 1)
first_written old =
    let is = written_inside 0 (0 ∷ []) old (omega arith) in
    (omega (arith, ap length is), λ one. omega (arith, ap (λ (l : List ℕ). get_or l 0 0) is, one))

-- a cut to the first byte
pub cut_unready : (old c : List ℕ) → 1 ≤ length old → get_or old 0 0 ≢ 1 → IsCut old 1 c → is_ready c ≡ false
cut_unready old c begun shut cut = closed_unready c (λ one. shut (sym (same_at 1 0 c old cut.before (omega arith)) ∙ one))

pub cut_first : (old : List ℕ) → 1 ≤ length old → (length (take 1 old) ≡ 1) × (get_or (take 1 old) 0 0 ≡ get_or old 0 0)
cut_first old begun = (omega (arith, length-take 1 old, begun), get_or-take 1 old 0 0 (omega arith))

-- what is written behind the first byte
abbrev pub empty : List ℕ
empty = 0 ∷ 0 ∷ 0 ∷ 0 ∷ 0 ∷ 0 ∷ 0 ∷ 0 ∷ 18 ∷ 0 ∷ 0 ∷ 0 ∷ 0 ∷ 0 ∷ 0 ∷ 0 ∷ 18 ∷ 0 ∷ []

-- the rest is written
pub rest_torn : (old c : List ℕ) → length old ≡ 1 → get_or old 0 0 ≢ 1 → IsTorn old 1 18 c → is_ready c ≡ false
rest_torn old c alone shut torn = closed_unready c (λ one. shut (sym (same_at 1 0 c old torn.before (omega arith)) ∙ one))

pub rest_written : (old : List ℕ) → length old ≡ 1 → changed (Written 1 empty) old ≡ get_or old 0 0 ∷ empty
rest_written old alone =
    let one : take 1 old ≡ get_or old 0 0 ∷ [] = take_all 1 old (omega (arith, alone)) ∙ drop_more old 0 0 (omega (arith, alone)) ∙ ap (λ (l : List ℕ). get_or old 0 0 ∷ l) (drop_all 1 old (omega (arith, alone))) in
    let none : drop (1 + length empty) old ≡ [] = drop_all (1 + length empty) old (omega (arith, alone)) in
    written_inside 1 empty old (omega (arith, alone)) ∙ ap (λ (l : List ℕ). l ++ (empty ++ drop (1 + length empty) old)) one ∙ ap (λ (l : List ℕ). get_or old 0 0 ∷ (empty ++ l)) none

-- it is ready then
pub empty_stands : Stands [] first_area (1 ∷ empty)
unfolding number
empty_stands = record {
  ready = refl;
  selected = refl;
  lies = record {
    base = refl;
    behind = omega arith;
    ends = record { whole = refl; inside = omega arith; closed = λ is. omega (arith, is) };
  };
}

pub empty_records : (x : ℕ) → records_of (x ∷ empty) ≡ []
empty_records x = elim (cases_eq x 1) [
  | inl one ↦ ap (λ (n : ℕ). records_of (n ∷ empty)) one ∙ stands_records [] first_area (1 ∷ empty) empty_stands
  | inr shut ↦ unready_records (x ∷ empty) (closed_unready (x ∷ empty) shut)
]

pub ready_torn : (x : ℕ) (c : List ℕ) → IsTorn (x ∷ empty) 0 1 c → records_of c ≡ []
ready_torn x [] torn = absurd (omega (arith, torn.no_shorter))
ready_torn x (y ∷ ys) torn = ap (λ (l : List ℕ). records_of (y ∷ l)) torn.after ∙ empty_records y

pub ready_written : (x : ℕ) → changed (Written 0 (1 ∷ [])) (x ∷ empty) ≡ 1 ∷ empty
ready_written x = refl

-- ---- from moment to moment

-- a disk that isn't ready has no records
pub unready_leaves : (old new : Timeline) → AnyCrash old new (λ (b : List ℕ). is_ready b ≡ false) → AnyCrash old new (λ (b : List ℕ). records_of b ≡ [])
unready_leaves old new run = weaker old new (λ (b : List ℕ). is_ready b ≡ false) (λ (b : List ℕ). records_of b ≡ []) unready_records run

-- the first byte stands alone, and the rest is written, and then the first byte
module _ (old mid : Timeline) (alone : length (content old.now) ≡ 1) (shut : get_or (content old.now) 0 0 ≢ 1) where
  pub rest_crash : AnyCrash old mid (IsTorn (content old.now) 1 18) → AnyCrash old mid (λ (b : List ℕ). records_of b ≡ [])
  rest_crash run = weaker old mid _ (λ (b : List ℕ). records_of b ≡ []) (λ c torn. unready_records c (rest_torn (content old.now) c alone shut torn)) run

  module _ (done : mid.now ≡ at_rest (changed (Written 1 empty) (content old.now))) where
    pub rest_is : content mid.now ≡ get_or (content old.now) 0 0 ∷ empty
    rest_is = ap content done ∙ rest_written (content old.now) alone

    pub ready_crash : (new : Timeline) → AnyCrash old mid (IsTorn (content old.now) 1 18) → AnyCrash mid new (IsTorn (content mid.now) 0 1) → AnyCrash old new (λ (b : List ℕ). records_of b ≡ [])
    ready_crash new front back =
        let here : AnyCrash mid new (IsTorn (get_or (content old.now) 0 0 ∷ empty) 0 1) = subst (λ (l : List ℕ). AnyCrash mid new (IsTorn l 0 1)) rest_is back in
        joined old mid new (λ (b : List ℕ). records_of b ≡ []) (rest_crash front) (weaker mid new _ (λ (b : List ℕ). records_of b ≡ []) (λ c torn. ready_torn (get_or (content old.now) 0 0) c torn) here)

    pub ready_stands : (new : Timeline) → new.now ≡ at_rest (changed (Written 0 (1 ∷ [])) (content mid.now)) → Stands [] first_area (content new.now)
    ready_stands new made =
        let is : content new.now ≡ 1 ∷ empty = ap content made ∙ ap (λ (l : List ℕ). changed (Written 0 (1 ∷ [])) l) rest_is ∙ ready_written (get_or (content old.now) 0 0) in
        subst (Stands [] first_area) (sym is) empty_stands
