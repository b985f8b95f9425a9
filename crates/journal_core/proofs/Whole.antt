-- A journal whose fields are open: what it keeps, and what its callers see.
use Rattle.std.proofs.Common.{◌≡◌, ◌⊎◌, inl, inr, ℕ, ◌+◌, ◌^◌, ◌<◌, ◌≤◌, List, [], ◌∷◌, ◌++◌, Bool, true, false, Option, Some, None, length, refl, sym, ◌∙◌, ap, subst, arith, length-append, length-take, take}
use Rattle.std.proofs.lemmas.List.{take_at, take_all}
use Rattle.disk_model.specs.Disk.{Moment, Timeline, DiskView, content, reads, at_rest, OneStep}
use Rattle.disk_model.specs.Crash.{IsImage, Leaves, AnyCrash}
use Rattle.disk_model.specs.CrashLaws.{stays, one_step, joined, weaker}
use Rattle.disk_model.proofs.Tear.{rest_is, synced_is}
use Rattle.journal_core.specs.Records.{records_of}
use Rattle.journal_core.specs.Layout.{EndsAt, BeforeOrWith}
use Rattle.journal_core.specs.Journal.{View, WithOrWithout, MayFind, Survives}
use Rattle.journal_core.specs.Kept.{first_records, Keeps, IsKept}
use Rattle.journal_core.proofs.Walk.{whole_count, ends_records}
use Rattle.journal_core.proofs.Reading.{now_has}

true_false : {P : Type 0} → true ≡ false → P
true_false is = cc is

-- the disk has these records, and nothing pending
pub kept_rest : (ps : List (List ℕ)) (torn : Option (List ℕ)) (end : ℕ) (shut : Bool) {stopped : Bool} (line : Timeline) → end + 1 < 2 ^ 64 → EndsAt ps end (content line.now) → line.now.changes ≡ [] → (shut ≡ false → torn ≡ None) → stopped ≡ false → Keeps ps torn end shut stopped line
kept_rest ps torn end shut line fits ends synced whole running = record {
  fits = fits;
  few = whole_count ps end (content line.now) ends.whole;
  settled = λ _. ends;
  synced = λ _. synced;
  whole = whole;
  running = λ _. running;
  left = λ c image. inl (ap records_of (synced_is line.now synced c image) ∙ ends_records ps end (content line.now) ends);
}

-- it is shut
pub kept_shut : (ps : List (List ℕ)) (torn : Option (List ℕ)) (end : ℕ) {stopped : Bool} (line : Timeline) → end + 1 < 2 ^ 64 → length ps ≤ end → Leaves line.now (λ c. WithOrWithout ps torn (records_of c)) → Keeps ps torn end true stopped line
kept_shut ps torn end line fits few left = record {
  fits = fits;
  few = few;
  settled = λ is. true_false is;
  synced = λ is. true_false is;
  whole = λ is. true_false is;
  running = λ is. true_false is;
  left = left;
}

-- by an append whose record may be there
pub kept_torn : (ps : List (List ℕ)) (payload : List ℕ) (end : ℕ) {stopped : Bool} (line new : Timeline) → end + 1 < 2 ^ 64 → length ps ≤ end → AnyCrash line new (BeforeOrWith ps payload) → Keeps ps (Some payload) end true stopped new
kept_torn ps payload end line new fits few run = kept_shut ps (Some payload) end new fits few (λ c image. elim (run.last c image) [
  | inl without ↦ inl without
  | inr with ↦ inr (payload, refl, with)
])

module _ (ps : List (List ℕ)) (torn : Option (List ℕ)) (end : ℕ) (shut : Bool) where
  -- the disk has the records
  pub has : (line : Timeline) {stopped : Bool} → Keeps ps torn end shut stopped line → shut ≡ false → records_of (content line.now) ≡ ps
  has line kept isnt = ends_records ps end (content line.now) (kept.settled isnt)

  pub survives : (disk : DiskView) → Keeps ps torn end shut disk.stopped disk.timeline → Survives (record { records = ps; torn = torn; shut = shut; disk = disk })
  survives disk kept = record {
    whole = kept.whole;
    synced = kept.synced;
    exact = λ isnt c image. ap records_of (synced_is disk.timeline.now (kept.synced isnt) c image) ∙ has disk.timeline kept isnt;
    running = kept.running;
    left = kept.left;
  }

  -- a record was added, or memory was refused
  module _ (line new : Timeline) {stopped after : Bool} (kept : Keeps ps torn end shut stopped line) (isnt : shut ≡ false) (synced : new.now.changes ≡ []) (running : after ≡ false) where
    pub kept_ok : (payload : List ℕ) → end + (9 + length payload) < 2 ^ 48 → EndsAt (records_of (content line.now) ++ payload ∷ []) (end + (9 + length payload)) (content new.now) → Keeps (ps ++ payload ∷ []) torn (end + (9 + length payload)) shut after new
    kept_ok payload fits ends =
        let same : records_of (content line.now) ++ payload ∷ [] ≡ ps ++ payload ∷ [] = ap (λ (qs : List (List ℕ)). qs ++ payload ∷ []) (has line kept isnt) in
        kept_rest (ps ++ payload ∷ []) torn (end + (9 + length payload)) shut new (omega (arith, fits)) (subst (λ (qs : List (List ℕ)). EndsAt qs (end + (9 + length payload)) (content new.now)) same ends) synced kept.whole running

    pub kept_memory : EndsAt (records_of (content line.now)) end (content new.now) → Keeps ps torn end shut after new
    kept_memory ends = kept_rest ps torn end shut new kept.fits (subst (λ (qs : List (List ℕ)). EndsAt qs end (content new.now)) (has line kept isnt) ends) synced kept.whole running

  -- an append from here
  abbrev Added : View → List ℕ → List ℕ → Type 0
  Added v payload c = MayFind v (records_of c) ⊎ (records_of c ≡ v.records ++ payload ∷ [])

  pub added : (disk : DiskView) (v : View) (payload : List ℕ) (new : Timeline) → record { records = ps; torn = torn; shut = shut; disk = disk } ≡ v → AnyCrash disk.timeline new (BeforeOrWith ps payload) → AnyCrash v.disk.timeline new (Added v payload)
  added disk v payload new is run =
      let here : View = record { records = ps; torn = torn; shut = shut; disk = disk } in
      let weak : AnyCrash disk.timeline new (Added here payload) = weaker disk.timeline new (BeforeOrWith ps payload) (Added here payload) (λ c. elim [ inl without ↦ inl (inl without) | inr with ↦ inr with ]) run in
      subst (λ (w : View). AnyCrash w.disk.timeline new (Added w payload)) is weak

  -- nothing was done to the disk
  pub unadded : (disk : DiskView) (v : View) (payload : List ℕ) (new : Timeline) → Keeps ps torn end shut disk.stopped disk.timeline → record { records = ps; torn = torn; shut = shut; disk = disk } ≡ v → new ≡ disk.timeline → AnyCrash v.disk.timeline new (Added v payload)
  unadded disk v payload new kept is same =
      let here : View = record { records = ps; torn = torn; shut = shut; disk = disk } in
      let still : AnyCrash disk.timeline new (Added here payload) = stays disk.timeline new (Added here payload) same (λ c image. inl (kept.left c image)) in
      subst (λ (w : View). AnyCrash w.disk.timeline new (Added w payload)) is still

  -- as callers see it
  pub seen : (disk : DiskView) (v : View) (new : Timeline) → record { records = ps; torn = torn; shut = shut; disk = disk } ≡ v → AnyCrash disk.timeline new (λ c. WithOrWithout ps torn (records_of c)) → AnyCrash v.disk.timeline new (λ c. MayFind v (records_of c))
  seen disk v new is run = subst (λ (w : View). AnyCrash w.disk.timeline new (λ c. MayFind w (records_of c))) is run

  -- the disk was reopened
  module _ (line mid : Timeline) {stopped : Bool} (kept : Keeps ps torn end shut stopped line) (rest : mid.now ≡ at_rest (content mid.now)) (image : IsImage line.now (content mid.now)) where
    abbrev Held : List ℕ → Type 0
    Held c = WithOrWithout ps torn (records_of c)

    pub found : Held (content mid.now)
    found = kept.left (content mid.now) image

    same_held : (c : List ℕ) → records_of c ≡ records_of (content mid.now) → Held c
    same_held c is = subst (WithOrWithout ps torn) (sym is) found

    pub reopened : OneStep line (at_rest (content mid.now)) mid → AnyCrash line mid Held
    reopened time = one_step line (at_rest (content mid.now)) mid Held time kept.left (λ c i. same_held c (ap records_of (rest_is (content mid.now) c i)))

    -- and scanned
    pub scanned : (new : Timeline) → OneStep line (at_rest (content mid.now)) mid → AnyCrash mid new (λ c. records_of c ≡ records_of (content mid.now)) → AnyCrash line new Held
    scanned new time run = joined line mid new Held (reopened time) (weaker mid new _ Held same_held run)

    pub same_content : shut ≡ false → content mid.now ≡ content line.now
    same_content isnt = synced_is line.now (kept.synced isnt) (content mid.now) image

    pub kept_scanned : (new : Timeline) {after : Bool} → AnyCrash mid new (λ c. records_of c ≡ records_of (content mid.now)) → Keeps ps torn end true after new
    kept_scanned new run = kept_shut ps torn end new kept.fits kept.few (λ c i. same_held c (run.last c i))

    pub kept_reopened : (new : Timeline) {after : Bool} → new ≡ mid → after ≡ false → Keeps ps torn end shut after new
    kept_reopened new {after} same running =
        let held : Keeps ps torn end shut after mid = record {
          fits = kept.fits;
          few = kept.few;
          settled = λ isnt. subst (λ (bytes : List ℕ). EndsAt ps end bytes) (sym (same_content isnt)) (kept.settled isnt);
          synced = λ _. ap (λ (m : Moment). m.changes) rest;
          whole = kept.whole;
          running = λ _. running;
          left = λ c i. same_held c (ap records_of (rest_is (content mid.now) c (subst (λ (m : Moment). IsImage m c) rest i)));
        } in
        subst (λ (l : Timeline). Keeps ps torn end shut after l) (sym same) held

-- ---- the records are the first on the disk

taken : (ps rs : List (List ℕ)) (torn : Option (List ℕ)) (count : ℕ) → length ps ≡ count → WithOrWithout ps torn rs → take count rs ≡ ps
taken ps rs torn count long (inl without) = ap (λ (l : List (List ℕ)). take count l) without ∙ take_all count ps (omega (arith, long))
taken ps rs torn count long (inr with) = ap (λ (l : List (List ℕ)). take count l) with.2 ∙ take_at ps (with.0 ∷ []) count long

enough : (ps rs : List (List ℕ)) (torn : Option (List ℕ)) (count : ℕ) → length ps ≡ count → WithOrWithout ps torn rs → count ≤ length rs
enough ps rs torn count long (inl without) = omega (arith, long, ap length without)
enough ps rs torn count long (inr with) = omega (arith, long, ap length with.2, length-append ps (with.0 ∷ []))

module _ (ps : List (List ℕ)) (torn : Option (List ℕ)) (end : ℕ) (shut : Bool) {stopped : Bool} (line : Timeline) (keeps : Keeps ps torn end shut stopped line) (count : ℕ) (long : length ps ≡ count) where
  pub shows : first_records count (content line.now) ≡ ps
  shows = taken ps (records_of (content line.now)) torn count long (now_has line.now _ keeps.left)

  pub kept : IsKept count torn end shut stopped line
  kept = record {
    there = enough ps (records_of (content line.now)) torn count long (now_has line.now _ keeps.left);
    all = λ isnt. sym long ∙ ap length (sym (has ps torn end shut line keeps isnt));
    keeps = subst (λ (qs : List (List ℕ)). Keeps qs torn end shut stopped line) (sym shows) keeps;
  }

pub shown_count : (count : ℕ) (torn : Option (List ℕ)) (end : ℕ) (shut : Bool) {stopped : Bool} (line : Timeline) → IsKept count torn end shut stopped line → length (first_records count (content line.now)) ≡ count
shown_count count torn end shut line k = omega (arith, length-take count (records_of (content line.now)), k.there)

-- ---- a journal over these fields, as callers see it

abbrev pub viewed : ℕ → Option (List ℕ) → Bool → DiskView → View
viewed count torn shut disk = record { records = first_records count (reads disk); torn = torn; shut = shut; disk = disk }

pub kept_survives : (count : ℕ) (torn : Option (List ℕ)) (end : ℕ) (shut : Bool) (disk : DiskView) → IsKept count torn end shut disk.stopped disk.timeline → Survives (viewed count torn shut disk)
kept_survives count torn end shut disk k = survives (first_records count (reads disk)) torn end shut disk k.keeps

-- it was appended to
module _ (count : ℕ) (torn : Option (List ℕ)) (end : ℕ) (shut : Bool) (disk : DiskView) (k : IsKept count torn end shut disk.stopped disk.timeline) (isnt : shut ≡ false) (payload : List ℕ) where
  abbrev ps : List (List ℕ)
  ps = first_records count (reads disk)

  long : length ps ≡ count
  long = shown_count count torn end shut disk.timeline k

  module _ (new : DiskView) (run : AnyCrash disk.timeline new.timeline (BeforeOrWith (records_of (reads disk)) payload)) where
    here : AnyCrash disk.timeline new.timeline (BeforeOrWith ps payload)
    here = subst (λ (qs : List (List ℕ)). AnyCrash disk.timeline new.timeline (BeforeOrWith qs payload)) (has ps torn end shut disk.timeline k.keeps isnt) run

    pub append_crash : (v : View) → viewed count torn shut disk ≡ v → AnyCrash v.disk.timeline new.timeline (λ c. MayFind v (records_of c) ⊎ (records_of c ≡ v.records ++ payload ∷ []))
    append_crash v is = added ps torn end shut disk v payload new.timeline is here

    pub append_torn : IsKept count (Some payload) end true new.stopped new.timeline
    append_torn = kept ps (Some payload) end true new.timeline (kept_torn ps payload end disk.timeline new.timeline k.keeps.fits k.keeps.few here) count long

  module _ (new : DiskView) (synced : new.timeline.now.changes ≡ []) (running : new.stopped ≡ false) where
    module _ (fits : end + (9 + length payload) < 2 ^ 48) (ends : EndsAt (records_of (reads disk) ++ payload ∷ []) (end + (9 + length payload)) (reads new)) where
      more : length (ps ++ payload ∷ []) ≡ count + 1
      more = omega (arith, length-append ps (payload ∷ []), long)

      grown : Keeps (ps ++ payload ∷ []) torn (end + (9 + length payload)) shut new.stopped new.timeline
      grown = kept_ok ps torn end shut disk.timeline new.timeline k.keeps isnt synced running payload fits ends

      pub append_kept : IsKept (count + 1) torn (end + (9 + length payload)) shut new.stopped new.timeline
      append_kept = kept (ps ++ payload ∷ []) torn (end + (9 + length payload)) shut new.timeline grown (count + 1) more

      pub append_shows : first_records (count + 1) (reads new) ≡ ps ++ payload ∷ []
      append_shows = shows (ps ++ payload ∷ []) torn (end + (9 + length payload)) shut new.timeline grown (count + 1) more

    pub append_memory : EndsAt (records_of (reads disk)) end (reads new) → IsKept count torn end shut new.stopped new.timeline
    append_memory ends = kept ps torn end shut new.timeline (kept_memory ps torn end shut disk.timeline new.timeline k.keeps isnt synced running ends) count long

-- its disk was opened again, or was refused that
module _ (count : ℕ) (torn : Option (List ℕ)) (end : ℕ) (shut : Bool) (disk : DiskView) (k : IsKept count torn end shut disk.stopped disk.timeline) where
  abbrev rs : List (List ℕ)
  rs = first_records count (reads disk)

  rs_long : length rs ≡ count
  rs_long = shown_count count torn end shut disk.timeline k

  -- the same moments
  pub still_kept : (stopped : Bool) (line : Timeline) → line ≡ disk.timeline → IsKept count torn end true stopped line
  still_kept stopped line same = subst (λ (l : Timeline). IsKept count torn end true stopped l) (sym same) (kept rs torn end true disk.timeline (kept_shut rs torn end disk.timeline k.keeps.fits k.keeps.few k.keeps.left) count rs_long)

  module _ (mid : Timeline) (rest : mid.now ≡ at_rest (content mid.now)) (image : IsImage disk.timeline.now (content mid.now)) where
    -- what it finds
    pub reopen_finds : WithOrWithout rs torn (records_of (content mid.now))
    reopen_finds = found rs torn end shut disk.timeline mid k.keeps rest image

    pub reopen_crash : (v : View) (new : Timeline) → viewed count torn shut disk ≡ v → OneStep disk.timeline (at_rest (content mid.now)) mid → AnyCrash mid new (λ c. records_of c ≡ records_of (content mid.now)) → AnyCrash v.disk.timeline new (λ c. MayFind v (records_of c))
    reopen_crash v new is time run = seen rs torn end shut disk v new is (scanned rs torn end shut disk.timeline mid k.keeps rest image new time run)

    -- it was refused memory, or failed in the scan
    pub reopen_memory : (stopped : Bool) (new : Timeline) → new ≡ mid → stopped ≡ false → IsKept count torn end shut stopped new
    reopen_memory stopped new same running = kept rs torn end shut new (kept_reopened rs torn end shut disk.timeline mid k.keeps rest image new same running) count rs_long

    pub reopen_failed : (stopped : Bool) (new : Timeline) → AnyCrash mid new (λ c. records_of c ≡ records_of (content mid.now)) → IsKept count torn end true stopped new
    reopen_failed stopped new run = kept rs torn end true new (kept_scanned rs torn end shut disk.timeline mid k.keeps rest image new run) count rs_long

    -- and finds all of it
    pub reopen_ok : (v : View) (n : ℕ) (bytes : List ℕ) → viewed count torn shut disk ≡ v → n ≡ length (records_of (content mid.now)) → records_of bytes ≡ records_of (content mid.now) → MayFind v (first_records n bytes)
    reopen_ok v n bytes is all same =
        let whole : first_records n bytes ≡ records_of (content mid.now) = ap (λ (l : List (List ℕ)). take n l) same ∙ take_all n (records_of (content mid.now)) (omega (arith, all)) in
        subst (λ (w : View). MayFind w (first_records n bytes)) is (subst (WithOrWithout rs torn) (sym whole) reopen_finds)

-- it has all the records on the disk
pub kept_all : (count : ℕ) (end : ℕ) (disk : DiskView) → end + 1 < 2 ^ 64 → count ≡ length (records_of (reads disk)) → EndsAt (records_of (reads disk)) end (reads disk) → disk.timeline.now.changes ≡ [] → disk.stopped ≡ false → IsKept count None end false disk.stopped disk.timeline
kept_all count end disk fits all ends synced running = kept (records_of (reads disk)) None end false disk.timeline (kept_rest (records_of (reads disk)) None end false disk.timeline fits ends synced (λ _. refl) running) count (sym all)
