-- A journal over two areas whose fields are open: what it keeps, and what its callers see.
use Rattle.std.proofs.Common.{◌≡◌, ◌⊎◌, inl, inr, ℕ, ◌+◌, ◌^◌, ◌<◌, ◌≤◌, List, [], ◌∷◌, ◌++◌, length, take, drop, Vec, Bool, true, false, Option, Some, None, refl, sym, ◌∙◌, ap, subst, arith, length-append}
use Rattle.std.proofs.lemmas.List.{take_at, take_all}
use Rattle.std.specs.declared.alloc.Global.{Global}
use Rattle.disk_model.specs.Disk.{Moment, Timeline, DiskView, content, reads, at_rest, OneStep}
use Rattle.disk_model.specs.Crash.{IsImage, Leaves, AnyCrash}
use Rattle.disk_model.specs.CrashLaws.{stays, one_step, joined, weaker}
use Rattle.disk_model.proofs.Tear.{rest_is, synced_is}
use Rattle.journal_pair.specs.declared.area.Area.{Area}
use Rattle.journal_pair.specs.Records.{is_ready, records_of}
use Rattle.journal_pair.specs.Layout.{Stands}
use Rattle.journal_pair.specs.Journal.{View, EitherOf, MayFind, Survives}
use Rattle.journal_pair.specs.Kept.{other_of, left_of, records_in, Keeps, IsKept}
use Rattle.journal_pair.specs.declared.torn.Torn.{Torn}
use Rattle.journal_pair.specs.declared.torn.Torn.TheVariants as torn
use Rattle.journal_core.specs.Records.{payloads}
use Rattle.journal_core.specs.Records as area
use Rattle.journal_core.proofs.Reading.{now_has}
use Rattle.journal_pair.proofs.Areas.{stands_selects, selects_ready, selects_records, stands_records}

true_false : {P : Type 0} → true ≡ false → P
true_false is = cc is

-- what it may leave, callers are told
told : (ps : List (List ℕ)) (t : Option Torn) (found : List (List ℕ)) → EitherOf ps (left_of ps t) found → EitherOf ps (other_of ps t) found
told ps None found either = either
told ps (Some (torn.Added p)) found either = either
told ps (Some (torn.Unwritten given)) found (inl without) = inl without
told ps (Some (torn.Unwritten given)) found (inr with) = absurd (none with)
  where
    none : None ≡ Some found → ⊥
    none e = absurd (cc)
told ps (Some (torn.Given before given)) found either = either

-- the disk has these records, and nothing pending
pub kept_rest : (ps : List (List ℕ)) (t : Option Torn) (a : Area) (shut : Bool) {stopped : Bool} (line : Timeline) → a.base + a.len + 1 < 2 ^ 64 → Stands ps a (content line.now) → line.now.changes ≡ [] → (shut ≡ false → t ≡ None) → stopped ≡ false → Keeps ps t a shut stopped line
kept_rest ps t a shut line fits stands synced whole running = record {
  fits = fits;
  settled = λ _. stands;
  synced = λ _. synced;
  whole = whole;
  running = λ _. running;
  left = λ c image. inl (ap records_of (synced_is line.now synced c image) ∙ stands_records ps a (content line.now) stands);
}

-- it is shut
pub kept_shut : (ps : List (List ℕ)) (t : Option Torn) (a : Area) {stopped : Bool} (line : Timeline) → a.base + a.len + 1 < 2 ^ 64 → Leaves line.now (λ c. EitherOf ps (left_of ps t) (records_of c)) → Keeps ps t a true stopped line
kept_shut ps t a line fits left = record {
  fits = fits;
  settled = λ is. true_false is;
  synced = λ is. true_false is;
  whole = λ is. true_false is;
  running = λ is. true_false is;
  left = left;
}

-- what was asked for: these records, or the given ones
abbrev pub Either : List (List ℕ) → List (List ℕ) → List ℕ → Type 0
Either ps given c = (records_of c ≡ ps) ⊎ (records_of c ≡ given)

-- by a call whose records may be there
pub kept_torn : (ps given : List (List ℕ)) (t : Option Torn) (a : Area) {stopped : Bool} (line new : Timeline) → left_of ps t ≡ Some given → a.base + a.len + 1 < 2 ^ 64 → AnyCrash line new (Either ps given) → Keeps ps t a true stopped new
kept_torn ps given t a line new is fits run = kept_shut ps t a new fits (λ c image. elim (run.last c image) [
  | inl without ↦ inl without
  | inr with ↦ inr (is ∙ ap (λ (rs : List (List ℕ)). Some rs) (sym with))
])

module _ (ps : List (List ℕ)) (t : Option Torn) (a : Area) (shut : Bool) where
  -- the disk has the records
  pub has : (line : Timeline) {stopped : Bool} → Keeps ps t a shut stopped line → shut ≡ false → records_of (content line.now) ≡ ps
  has line kept isnt = stands_records ps a (content line.now) (kept.settled isnt)

  pub stands_now : (line : Timeline) {stopped : Bool} → Keeps ps t a shut stopped line → shut ≡ false → Stands (records_of (content line.now)) a (content line.now)
  stands_now line kept isnt = subst (λ (qs : List (List ℕ)). Stands qs a (content line.now)) (sym (has line kept isnt)) (kept.settled isnt)

  pub survives : (disk : DiskView) → Keeps ps t a shut disk.stopped disk.timeline → Survives (record { records = ps; other = other_of ps t; shut = shut; disk = disk })
  survives disk kept = record {
    whole = λ isnt. ap (other_of ps) (kept.whole isnt);
    synced = kept.synced;
    exact = λ isnt c image. ap records_of (synced_is disk.timeline.now (kept.synced isnt) c image) ∙ has disk.timeline kept isnt;
    running = kept.running;
    left = λ c image. told ps t (records_of c) (kept.left c image);
  }

  -- memory was refused
  pub kept_memory : (line new : Timeline) {stopped after : Bool} → Keeps ps t a shut stopped line → shut ≡ false → new.now.changes ≡ [] → after ≡ false → Stands (records_of (content line.now)) a (content new.now) → Keeps ps t a shut after new
  kept_memory line new kept isnt synced running stands =
      kept_rest ps t a shut new kept.fits (subst (λ (qs : List (List ℕ)). Stands qs a (content new.now)) (has line kept isnt) stands) synced kept.whole running

  -- what a call from here may leave
  abbrev Left : View → List (List ℕ) → List ℕ → Type 0
  Left v given c = MayFind v (records_of c) ⊎ (records_of c ≡ given)

  pub went : (disk : DiskView) (v : View) (given : List (List ℕ)) (new : Timeline) → record { records = ps; other = other_of ps t; shut = shut; disk = disk } ≡ v → AnyCrash disk.timeline new (Either ps given) → AnyCrash v.disk.timeline new (Left v given)
  went disk v given new is run =
      let here : View = record { records = ps; other = other_of ps t; shut = shut; disk = disk } in
      let weak : AnyCrash disk.timeline new (Left here given) = weaker disk.timeline new (Either ps given) (Left here given) (λ c. elim [ inl without ↦ inl (inl without) | inr with ↦ inr with ]) run in
      subst (λ (w : View). AnyCrash w.disk.timeline new (Left w given)) is weak

  -- nothing was done to the disk
  pub stayed : (disk : DiskView) (v : View) (given : List (List ℕ)) (new : Timeline) → Keeps ps t a shut disk.stopped disk.timeline → record { records = ps; other = other_of ps t; shut = shut; disk = disk } ≡ v → new ≡ disk.timeline → AnyCrash v.disk.timeline new (Left v given)
  stayed disk v given new kept is same =
      let here : View = record { records = ps; other = other_of ps t; shut = shut; disk = disk } in
      let still : AnyCrash disk.timeline new (Left here given) = stays disk.timeline new (Left here given) same (λ c image. inl (told ps t (records_of c) (kept.left c image))) in
      subst (λ (w : View). AnyCrash w.disk.timeline new (Left w given)) is still

  -- as callers see it
  pub seen : (disk : DiskView) (v : View) (new : Timeline) → record { records = ps; other = other_of ps t; shut = shut; disk = disk } ≡ v → AnyCrash disk.timeline new (λ c. EitherOf ps (left_of ps t) (records_of c)) → AnyCrash v.disk.timeline new (λ c. MayFind v (records_of c))
  seen disk v new is run =
      subst (λ (w : View). AnyCrash w.disk.timeline new (λ c. MayFind w (records_of c))) is (weaker disk.timeline new _ (λ c. EitherOf ps (other_of ps t) (records_of c)) (λ c. told ps t (records_of c)) run)

  -- the disk was reopened
  module _ (line mid : Timeline) {stopped : Bool} (kept : Keeps ps t a shut stopped line) (rest : mid.now ≡ at_rest (content mid.now)) (image : IsImage line.now (content mid.now)) where
    abbrev Held : List ℕ → Type 0
    Held c = EitherOf ps (left_of ps t) (records_of c)

    pub found : Held (content mid.now)
    found = kept.left (content mid.now) image

    same_held : (c : List ℕ) → records_of c ≡ records_of (content mid.now) → Held c
    same_held c is = subst (EitherOf ps (left_of ps t)) (sym is) found

    pub reopened : OneStep line (at_rest (content mid.now)) mid → AnyCrash line mid Held
    reopened time = one_step line (at_rest (content mid.now)) mid Held time kept.left (λ c i. same_held c (ap records_of (rest_is (content mid.now) c i)))

    -- and its records were looked for
    pub looked : (new : Timeline) → OneStep line (at_rest (content mid.now)) mid → AnyCrash mid new (λ c. records_of c ≡ records_of (content mid.now)) → AnyCrash line new Held
    looked new time run = joined line mid new Held (reopened time) (weaker mid new _ Held same_held run)

    pub same_content : shut ≡ false → content mid.now ≡ content line.now
    same_content isnt = synced_is line.now (kept.synced isnt) (content mid.now) image

    pub kept_looked : (new : Timeline) {after : Bool} → AnyCrash mid new (λ c. records_of c ≡ records_of (content mid.now)) → Keeps ps t a true after new
    kept_looked new run = kept_shut ps t a new kept.fits (λ c i. same_held c (run.last c i))

    -- memory was refused
    pub kept_reopened : (new : Timeline) {after : Bool} → (is_ready (content mid.now) ≡ true → new ≡ mid) → after ≡ false → AnyCrash mid new (λ c. records_of c ≡ records_of (content mid.now)) → Keeps ps t a shut after new
    kept_reopened new {after} same running run =
        let here : shut ≡ false → new ≡ mid = λ isnt.
        let stands : Stands ps a (content mid.now) = subst (Stands ps a) (sym (same_content isnt)) (kept.settled isnt) in
        same (selects_ready a.second a.base (content mid.now) (stands_selects ps a (content mid.now) stands)) in
        let there : shut ≡ false → content new.now ≡ content line.now = λ isnt. ap (λ (l : Timeline). content l.now) (here isnt) ∙ same_content isnt in
        record {
          fits = kept.fits;
          settled = λ isnt. subst (λ (bytes : List ℕ). Stands ps a bytes) (sym (there isnt)) (kept.settled isnt);
          synced = λ isnt. ap (λ (l : Timeline). l.now.changes) (here isnt) ∙ ap (λ (m : Moment). m.changes) rest;
          whole = kept.whole;
          running = λ _. running;
          left = λ c i. same_held c (run.last c i);
        }

-- ---- the records are those that it keeps

-- those that a compaction took along are these
abbrev pub Took : List (List ℕ) → Option Torn → Type 0
Took ps None = Unit {0}
Took ps (Some (torn.Added p)) = Unit {0}
Took ps (Some (torn.Unwritten given)) = Unit {0}
Took ps (Some (torn.Given before given)) = payloads before.items ≡ ps

took_kept : (count : ℕ) (t : Option Torn) (bytes : List ℕ) → Took (records_in count t bytes) t
took_kept count None bytes = tt
took_kept count (Some (torn.Added p)) bytes = tt
took_kept count (Some (torn.Unwritten given)) bytes = tt
took_kept count (Some (torn.Given before given)) bytes = refl

took_none : (ps : List (List ℕ)) (t : Option Torn) → t ≡ None → Took ps t
took_none ps t is = subst (λ (u : Option Torn). Took ps u) (sym is) tt

first : (ps rs : List (List ℕ)) (count : ℕ) → length ps ≡ count → rs ≡ ps → take count rs ≡ ps
first ps rs count long is = ap (λ (l : List (List ℕ)). take count l) is ∙ take_all count ps (omega (arith, long))

shown : (ps : List (List ℕ)) (t : Option Torn) (count : ℕ) (bytes : List ℕ) → length ps ≡ count → Took ps t → EitherOf ps (left_of ps t) (records_of bytes) → records_in count t bytes ≡ ps
shown ps None count bytes long took (inl is) = first ps (records_of bytes) count long is
shown ps None count bytes long took (inr with) = absurd (none with)
  where
    none : None ≡ Some (records_of bytes) → ⊥
    none e = absurd (cc)
shown ps (Some (torn.Added p)) count bytes long took (inl is) = first ps (records_of bytes) count long is
shown ps (Some (torn.Added p)) count bytes long took (inr with) =
    let same : records_of bytes ≡ ps ++ p.items ∷ [] = the_same (ps ++ p.items ∷ []) (records_of bytes) with in
    ap (λ (l : List (List ℕ)). take count l) same ∙ take_at ps (p.items ∷ []) count long
  where
    the_same : (x y : List (List ℕ)) → Some x ≡ Some y → y ≡ x
    the_same x y e = cc
shown ps (Some (torn.Unwritten given)) count bytes long took (inl is) = first ps (records_of bytes) count long is
shown ps (Some (torn.Unwritten given)) count bytes long took (inr with) = absurd (none with)
  where
    none : None ≡ Some (records_of bytes) → ⊥
    none e = absurd (cc)
shown ps (Some (torn.Given before given)) count bytes long took either = took

module _ (ps : List (List ℕ)) (t : Option Torn) (a : Area) (shut : Bool) {stopped : Bool} (line : Timeline) (keeps : Keeps ps t a shut stopped line) (count : ℕ) (long : length ps ≡ count) (took : Took ps t) where
  pub shows : records_in count t (content line.now) ≡ ps
  shows = shown ps t count (content line.now) long took (now_has line.now _ keeps.left)

  pub kept : IsKept count t a shut stopped line
  kept = record {
    counted = ap length shows ∙ long;
    keeps = subst (λ (qs : List (List ℕ)). Keeps qs t a shut stopped line) (sym shows) keeps;
  }

-- ---- a journal over these fields, as callers see it

abbrev pub viewed : ℕ → Option Torn → Bool → DiskView → View
viewed count t shut disk = record { records = records_in count t (reads disk); other = other_of (records_in count t (reads disk)) t; shut = shut; disk = disk }

pub kept_survives : (count : ℕ) (t : Option Torn) (a : Area) (shut : Bool) (disk : DiskView) → IsKept count t a shut disk.stopped disk.timeline → Survives (viewed count t shut disk)
kept_survives count t a shut disk k = survives (records_in count t (reads disk)) t a shut disk k.keeps

-- it isn't shut, and is changed
module _ (count : ℕ) (t : Option Torn) (a : Area) (shut : Bool) (disk : DiskView) (k : IsKept count t a shut disk.stopped disk.timeline) (isnt : shut ≡ false) where
  abbrev ps : List (List ℕ)
  ps = records_in count t (reads disk)

  pub now_stands : Stands (records_of (reads disk)) a (reads disk)
  now_stands = stands_now ps t a shut disk.timeline k.keeps isnt

  pub all_is : records_of (reads disk) ≡ ps
  all_is = has ps t a shut disk.timeline k.keeps isnt

  module _ (new : DiskView) (synced : new.timeline.now.changes ≡ []) (running : new.stopped ≡ false) where
    -- it has these records then
    module _ (rs : List (List ℕ)) (b : Area) (n : ℕ) (fits : b.base + b.len + 1 < 2 ^ 64) (stands : Stands rs b (reads new)) (long : length rs ≡ n) where
      holds : Keeps rs t b shut new.stopped new.timeline
      holds = kept_rest rs t b shut new.timeline fits stands synced k.keeps.whole running

      pub kept_new : IsKept n t b shut new.stopped new.timeline
      kept_new = kept rs t b shut new.timeline holds n long (took_none rs t (k.keeps.whole isnt))

      pub shows_new : records_in n t (reads new) ≡ rs
      shows_new = shows rs t b shut new.timeline holds n long (took_none rs t (k.keeps.whole isnt))

    -- memory was refused
    module _ (stands : Stands (records_of (reads disk)) a (reads new)) where
      still : Keeps ps t a shut new.stopped new.timeline
      still = kept_memory ps t a shut disk.timeline new.timeline k.keeps isnt synced running stands

      pub kept_still : IsKept count t a shut new.stopped new.timeline
      kept_still = kept ps t a shut new.timeline still count k.counted (took_kept count t (reads disk))

      pub shows_still : records_in count t (reads new) ≡ ps
      shows_still = shows ps t a shut new.timeline still count k.counted (took_kept count t (reads disk))

  -- it failed in a call whose records may be there
  module _ (new : DiskView) (given : List (List ℕ)) (run : AnyCrash disk.timeline new.timeline (Either (records_of (reads disk)) given)) where
    run_here : AnyCrash disk.timeline new.timeline (Either ps given)
    run_here = subst (λ (qs : List (List ℕ)). AnyCrash disk.timeline new.timeline (Either qs given)) all_is run

    pub crash_here : (v : View) → viewed count t shut disk ≡ v → AnyCrash v.disk.timeline new.timeline (λ c. MayFind v (records_of c) ⊎ (records_of c ≡ given))
    crash_here v is = went ps t a shut disk v given new.timeline is run_here

    module _ (u : Option Torn) (is : left_of ps u ≡ Some given) (took : Took ps u) where
      torn_here : Keeps ps u a true new.stopped new.timeline
      torn_here = kept_torn ps given u a disk.timeline new.timeline is k.keeps.fits run_here

      pub kept_failed : IsKept count u a true new.stopped new.timeline
      kept_failed = kept ps u a true new.timeline torn_here count k.counted took

      pub shows_failed : records_in count u (reads new) ≡ ps
      shows_failed = shows ps u a true new.timeline torn_here count k.counted took

  -- a record was added
  module _ (new : DiskView) (payload : List ℕ) where
    pub long_more : length (records_of (reads disk) ++ payload ∷ []) ≡ count + 1
    long_more = omega (arith, length-append (records_of (reads disk)) (payload ∷ []), k.counted, ap length all_is)

    pub more_is : records_of (reads disk) ++ payload ∷ [] ≡ ps ++ payload ∷ []
    more_is = ap (λ (qs : List (List ℕ)). qs ++ payload ∷ []) all_is

    module _ (run : AnyCrash disk.timeline new.timeline (Either (records_of (reads disk)) (records_of (reads disk) ++ payload ∷ []))) where
      run_more : AnyCrash disk.timeline new.timeline (Either (records_of (reads disk)) (ps ++ payload ∷ []))
      run_more = subst (λ (qs : List (List ℕ)). AnyCrash disk.timeline new.timeline (Either (records_of (reads disk)) qs)) more_is run

      pub append_crash : (v : View) → viewed count t shut disk ≡ v → AnyCrash v.disk.timeline new.timeline (λ c. MayFind v (records_of c) ⊎ (records_of c ≡ v.records ++ payload ∷ []))
      append_crash v is =
          subst (λ (qs : List (List ℕ)). AnyCrash v.disk.timeline new.timeline (λ c. MayFind v (records_of c) ⊎ (records_of c ≡ qs ++ payload ∷ []))) (ap (λ (w : View). w.records) is)
          (crash_here new (ps ++ payload ∷ []) run_more v is)

      module _ (kept_one : Vec ℕ Global) (copied : kept_one.items ≡ payload) where
        with_it : left_of ps (Some (torn.Added kept_one)) ≡ Some (ps ++ payload ∷ [])
        with_it = ap (λ (p : List ℕ). Some (ps ++ p ∷ [])) copied

        pub kept_added : IsKept count (Some (torn.Added kept_one)) a true new.stopped new.timeline
        kept_added = kept_failed new (ps ++ payload ∷ []) run_more (Some (torn.Added kept_one)) with_it tt

        pub shows_added : records_in count (Some (torn.Added kept_one)) (reads new) ≡ ps
        shows_added = shows_failed new (ps ++ payload ∷ []) run_more (Some (torn.Added kept_one)) with_it tt

  -- it failed before anything was written
  module _ (new : DiskView) (same : new.timeline ≡ disk.timeline) (given : Vec (Vec ℕ Global) Global) where
    unwritten_here : Keeps ps (Some (torn.Unwritten given)) a true new.stopped new.timeline
    unwritten_here = kept_shut ps (Some (torn.Unwritten given)) a new.timeline k.keeps.fits
        (subst (λ (l : Timeline). Leaves l.now (λ c. EitherOf ps None (records_of c))) (sym same) (λ c image. inl (ap records_of (synced_is disk.timeline.now (k.keeps.synced isnt) c image) ∙ all_is)))

    pub kept_unwritten : IsKept count (Some (torn.Unwritten given)) a true new.stopped new.timeline
    kept_unwritten = kept ps (Some (torn.Unwritten given)) a true new.timeline unwritten_here count k.counted tt

    pub shows_unwritten : records_in count (Some (torn.Unwritten given)) (reads new) ≡ ps
    shows_unwritten = shows ps (Some (torn.Unwritten given)) a true new.timeline unwritten_here count k.counted tt

-- its disk was opened again, or was refused that
module _ (count : ℕ) (t : Option Torn) (a : Area) (shut : Bool) (disk : DiskView) (k : IsKept count t a shut disk.stopped disk.timeline) where
  abbrev rs : List (List ℕ)
  rs = records_in count t (reads disk)

  -- nothing was done to the disk
  pub stayed_here : (v : View) (given : List (List ℕ)) (new : Timeline) → viewed count t shut disk ≡ v → new ≡ disk.timeline → AnyCrash v.disk.timeline new (λ c. MayFind v (records_of c) ⊎ (records_of c ≡ given))
  stayed_here v given new is same = stayed rs t a shut disk v given new k.keeps is same

  -- the same moments
  pub kept_same : (stopped : Bool) (line : Timeline) → line ≡ disk.timeline → IsKept count t a true stopped line
  kept_same stopped line same =
      subst (λ (l : Timeline). IsKept count t a true stopped l) (sym same) (kept rs t a true disk.timeline (kept_shut rs t a disk.timeline k.keeps.fits k.keeps.left) count k.counted (took_kept count t (reads disk)))

  module _ (mid : Timeline) (rest : mid.now ≡ at_rest (content mid.now)) (image : IsImage disk.timeline.now (content mid.now)) where
    -- what it finds
    reopen_finds : EitherOf rs (left_of rs t) (records_of (content mid.now))
    reopen_finds = found rs t a shut disk.timeline mid k.keeps rest image

    module _ (new : DiskView) (run : AnyCrash mid new.timeline (λ c. records_of c ≡ records_of (content mid.now))) where
      pub reopen_crash : (v : View) → viewed count t shut disk ≡ v → OneStep disk.timeline (at_rest (content mid.now)) mid → AnyCrash v.disk.timeline new.timeline (λ c. MayFind v (records_of c))
      reopen_crash v is time = seen rs t a shut disk v new.timeline is (looked rs t a shut disk.timeline mid k.keeps rest image new.timeline time run)

      -- it failed as its records were looked for
      failing : Keeps rs t a true new.stopped new.timeline
      failing = kept_looked rs t a shut disk.timeline mid k.keeps rest image new.timeline run

      pub kept_missed : IsKept count t a true new.stopped new.timeline
      kept_missed = kept rs t a true new.timeline failing count k.counted (took_kept count t (reads disk))

      pub shows_missed : records_in count t (reads new) ≡ rs
      shows_missed = shows rs t a true new.timeline failing count k.counted (took_kept count t (reads disk))

      -- or memory was refused
      module _ (same : is_ready (content mid.now) ≡ true → new.timeline ≡ mid) (running : new.stopped ≡ false) where
        refused : Keeps rs t a shut new.stopped new.timeline
        refused = kept_reopened rs t a shut disk.timeline mid k.keeps rest image new.timeline same running run

        pub kept_refused : IsKept count t a shut new.stopped new.timeline
        kept_refused = kept rs t a shut new.timeline refused count k.counted (took_kept count t (reads disk))

    -- and finds all of it
    pub reopen_ok : (v : View) (qs : List (List ℕ)) → viewed count t shut disk ≡ v → qs ≡ records_of (content mid.now) → MayFind v qs
    reopen_ok v qs is same = subst (λ (w : View). MayFind w qs) is (told rs t qs (subst (EitherOf rs (left_of rs t)) (sym same) reopen_finds))

-- it was opened, and has all the records on the disk
module _ (n : ℕ) (a : Area) (qs : List (List ℕ)) (disk : DiskView) (fits : a.base + a.len + 1 < 2 ^ 64) (stands : Stands qs a (reads disk)) (synced : disk.timeline.now.changes ≡ []) (running : disk.stopped ≡ false) (long : n ≡ length qs) where
  opened : Keeps qs None a false disk.stopped disk.timeline
  opened = kept_rest qs None a false disk.timeline fits stands synced (λ _. refl) running

  pub kept_opened : IsKept n None a false disk.stopped disk.timeline
  kept_opened = kept qs None a false disk.timeline opened n (sym long) tt

  pub shows_opened : records_in n None (reads disk) ≡ qs
  shows_opened = shows qs None a false disk.timeline opened n (sym long) tt
