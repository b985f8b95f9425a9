-- What keeps a value, from call to call, and what a crash leaves of it.
use Rattle.std.specs.Prelude.{◌||◌}
use Rattle.std.proofs.Common.{◌≡◌, ◌⊎◌, inl, inr, ℕ, ◌+◌, Bool, true, false, ltb, List, [], ◌∷◌, ◌++◌, length, Option, Some, None, refl, sym, ◌∙◌, ap, subst, arith, length-append}
use Rattle.std.specs.Option.{ForSome}
use Rattle.std.proofs.lemmas.Bool.{lt-ltb, le-ltb}
use Rattle.disk_model.specs.Disk.{DiskView}
use Rattle.disk_model.specs.Armed.{TakesRecord}
use Rattle.disk_model.specs.CrashLaws.{stays, weaker, joined}
use Rattle.journal_pair.specs.Records.{records_of}
use Rattle.journal_pair.specs.Journal as pair
use Rattle.kept_value.specs.View.{Kind, View, calm, reopened_by, MayFind, BeforeOrAfter, AddsOne}
use Rattle.kept_value.specs.Keeping.{IsKept}

true_false : {P : Type 0} → true ≡ false → P
true_false is = cc is

none_some : {A P : Type 0} {x : A} → None ≡ Some x → P
none_some e = absurd (cc)

pub for_none : {A : Type 0} (o : Option A) (P : A → Type 0) → o ≡ None → ForSome o P
for_none o P is = λ x e. none_some (sym is ∙ e)

pub for_some : {A : Type 0} (o : Option A) (P : A → Type 0) (x : A) → o ≡ Some x → P x → ForSome o P
for_some o P x is holds = λ y e. let same : x ≡ y = the_same x y (sym is ∙ e) in subst P same holds
  where
    the_same : {A : Type 0} (x y : A) → Some x ≡ Some y → x ≡ y
    the_same x y e = cc

module _ {C : Type 0} (K : Kind C) (s : K.State) (v : View C) (k : IsKept K s v) where
  pub may_find : (found : List (List ℕ)) → pair.MayFind v.journal found → MayFind K s v found
  may_find found (inl same) = (v.stands, (λ e. e), ap K.spelled same ∙ k.spelled)
  may_find found (inr other) = (true, (λ e. refl), k.other found other)

  -- a crash leaves what a reopening may find
  pub kept_left : pair.LeavesRecords v.journal.disk (MayFind K s v)
  kept_left = λ image is. may_find (records_of image) (k.survives.left image is)

  -- what a reopening finds
  pub reopening : (new : DiskView) → pair.AnyCrashLeaves v.journal.disk new (pair.MayFind v.journal) → pair.AnyCrashLeaves v.journal.disk new (MayFind K s v)
  reopening new run = weaker v.journal.disk.timeline new.timeline (λ c. pair.MayFind v.journal (records_of c)) (λ c. MayFind K s v (records_of c)) (λ c. may_find (records_of c)) run

  -- nothing was done to its disk
  pub left_still : (new : DiskView) → new.timeline ≡ v.journal.disk.timeline → pair.AnyCrashLeaves v.journal.disk new (MayFind K s v)
  left_still new same = stays v.journal.disk.timeline new.timeline (λ c. MayFind K s v (records_of c)) same kept_left

  -- ---- it isn't shut
  module _ (up : v.journal.shut ≡ false) where
    pub spelled_now : K.spelled v.journal.records ≡ Some s
    spelled_now = k.spelled ∙ ap (λ (a : Option C). Some (reopened_by K s a v.stands)) (k.whole up)

    found_now : (found : List (List ℕ)) → pair.MayFind v.journal found → K.spelled found ≡ Some s
    found_now found (inl same) = ap K.spelled same ∙ spelled_now
    found_now found (inr other) = none_some (sym (k.survives.whole up) ∙ other)

    -- a crash inside the adding of a record
    pub adding : (c : C) (bytes : List ℕ) (new : DiskView) → K.spelled (v.journal.records ++ bytes ∷ []) ≡ Some (K.changed s c) →
        pair.AnyCrashLeaves v.journal.disk new (λ found. pair.MayFind v.journal found ⊎ (found ≡ v.journal.records ++ bytes ∷ [])) → pair.AnyCrashLeaves v.journal.disk new (BeforeOrAfter K s c)
    adding c bytes new next run =
        weaker v.journal.disk.timeline new.timeline _ (λ b. BeforeOrAfter K s c (records_of b))
        (λ b. elim [ inl before ↦ inl (found_now (records_of b) before) | inr with ↦ inr (ap K.spelled with ∙ next) ]) run

    -- the disk failed as a record was added
    pub kept_torn : (c : C) (bytes : List ℕ) (j : pair.View) → K.spelled (v.journal.records ++ bytes ∷ []) ≡ Some (K.changed s c) → K.CanChange s c →
        j ≡ record v.journal { other = Some (v.journal.records ++ bytes ∷ []); shut = true; disk = j.disk } → pair.Survives j → IsKept K s (record { journal = j; asked = Some c; stands = v.stands })
    kept_torn c bytes j next can is survives =
        let other : j.other ≡ Some (v.journal.records ++ bytes ∷ []) = ap (λ (w : pair.View). w.other) is in
        let same : j.records ≡ v.journal.records = ap (λ (w : pair.View). w.records) is in
        let down : j.shut ≡ true = ap (λ (w : pair.View). w.shut) is in
        record {
          spelled = ap K.spelled same ∙ spelled_now ∙ sym (ap (λ (b : Bool). Some (reopened_by K s (Some c) b)) (k.settled up));
          other = for_some j.other _ (v.journal.records ++ bytes ∷ []) other next;
          longer = λ _. for_some j.other (λ rs. length rs ≡ length j.records + 1) (v.journal.records ++ bytes ∷ []) other (omega (arith, length-append v.journal.records (bytes ∷ []), ap length same));
          can = for_some (Some c) (K.CanChange s) c refl can;
          whole = λ e. true_false (sym down ∙ e);
          settled = λ e. true_false (sym down ∙ e);
          survives = survives;
        }

  -- memory was refused
  pub kept_refused : (now : K.State) (j : pair.View) → now ≡ s → j ≡ record v.journal { disk = j.disk } → pair.Survives j → IsKept K now (record v { journal = j })
  kept_refused now j state is survives = subst (λ (x : K.State). IsKept K x (record v { journal = j })) (sym state) here
    where
      here : IsKept K s (record v { journal = j })
      here = record {
        spelled = ap (λ (w : pair.View). K.spelled w.records) is ∙ k.spelled;
        other = λ rs e. k.other rs (sym (ap (λ (w : pair.View). w.other) is) ∙ e);
        longer = λ st rs e. k.longer st rs (sym (ap (λ (w : pair.View). w.other) is) ∙ e) ∙ ap (λ (w : pair.View). length w.records + 1) (sym is);
        can = k.can;
        whole = λ e. k.whole (sym (ap (λ (w : pair.View). w.shut) is) ∙ e);
        settled = λ e. k.settled (sym (ap (λ (w : pair.View). w.shut) is) ∙ e);
        survives = survives;
      }

  -- a reopening failed
  pub kept_closed : (now : K.State) (j : pair.View) → now ≡ s → j ≡ record v.journal { shut = true; disk = j.disk } → pair.Survives j → IsKept K now (record v { journal = j })
  kept_closed now j state is survives = subst (λ (x : K.State). IsKept K x (record v { journal = j })) (sym state) here
    where
      down : j.shut ≡ true
      down = ap (λ (w : pair.View). w.shut) is

      here : IsKept K s (record v { journal = j })
      here = record {
        spelled = ap (λ (w : pair.View). K.spelled w.records) is ∙ k.spelled;
        other = λ rs e. k.other rs (sym (ap (λ (w : pair.View). w.other) is) ∙ e);
        longer = λ st rs e. k.longer st rs (sym (ap (λ (w : pair.View). w.other) is) ∙ e) ∙ ap (λ (w : pair.View). length w.records + 1) (sym is);
        can = k.can;
        whole = λ e. true_false (sym down ∙ e);
        settled = λ e. true_false (sym down ∙ e);
        survives = survives;
      }

  -- ---- a reopening succeeded
  module _ (rs : List (List ℕ)) (found : pair.MayFind v.journal rs) (before now : ℕ) (was : before ≡ length v.journal.records) (counts : now ≡ length rs) where
    pub done_stands : v.stands ≡ true → (v.stands || ltb before now) ≡ true
    done_stands st = ap (λ (b : Bool). b || ltb before now) st

    pub finds : K.spelled rs ≡ Some (reopened_by K s v.asked (v.stands || ltb before now))
    finds = by_case v.stands refl found
      where
        by_case : (b : Bool) → v.stands ≡ b → pair.MayFind v.journal rs → K.spelled rs ≡ Some (reopened_by K s v.asked (v.stands || ltb before now))
        by_case true st (inl same) = ap K.spelled same ∙ k.spelled ∙ ap (λ (t : Bool). Some (reopened_by K s v.asked t)) (st ∙ sym (done_stands st))
        by_case true st (inr other) = k.other rs other ∙ ap (λ (t : Bool). Some (reopened_by K s v.asked t)) (sym (done_stands st))
        by_case false st (inl same) =
            let less : ltb before now ≡ false = le-ltb before now (omega (arith, was, counts, ap length same)) in
            ap K.spelled same ∙ k.spelled ∙ ap (λ (t : Bool). Some (reopened_by K s v.asked t)) (st ∙ sym (ap (λ (b : Bool). b || ltb before now) st ∙ less))
        by_case false st (inr other) =
            let more : ltb before now ≡ true = lt-ltb before now (omega (arith, was, counts, k.longer st rs other)) in
            k.other rs other ∙ ap (λ (t : Bool). Some (reopened_by K s v.asked t)) (sym (ap (λ (b : Bool). b || ltb before now) st ∙ more))

    module _ (mid now_is : K.State) (asked : Option C) (done : Bool) (same : mid ≡ s) (took : asked ≡ v.asked) (told : done ≡ (v.stands || ltb before now)) (settles : now_is ≡ reopened_by K mid asked done) where
      settled_is : now_is ≡ reopened_by K s v.asked (v.stands || ltb before now)
      settled_is =
          settles ∙ ap (λ (t : K.State). reopened_by K t asked done) same ∙ ap (λ (a : Option C). reopened_by K s a done) took ∙ ap (λ (d : Bool). reopened_by K s v.asked d) told

      pub found_again : (d : Bool) × (v.stands ≡ true → d ≡ true) × (now_is ≡ reopened_by K s v.asked d)
      found_again = ((v.stands || ltb before now), done_stands, settled_is)

      pub spelled_again : K.spelled rs ≡ Some now_is
      spelled_again = finds ∙ ap (λ (t : K.State). Some t) (sym settled_is)

-- its records spell it, and nothing is left open
pub kept_calm : {C : Type 0} (K : Kind C) (s : K.State) (j : pair.View) → K.spelled j.records ≡ Some s → j.other ≡ None → pair.Survives j → IsKept K s (calm j)
kept_calm K s j spelled none survives = record {
  spelled = spelled;
  other = for_none j.other _ none;
  longer = λ _. for_none j.other _ none;
  can = for_none None (K.CanChange s) refl;
  whole = λ _. refl;
  settled = λ _. refl;
  survives = survives;
}

-- the disk failed as the journal was compacted
pub kept_stands : {C : Type 0} (K : Kind C) (s : K.State) (c : C) (j : pair.View) → K.spelled j.records ≡ Some (K.changed s c) → ForSome j.other (λ rs. K.spelled rs ≡ Some (K.changed s c)) → K.CanChange s c → j.shut ≡ true → pair.Survives j →
    IsKept K s (record { journal = j; asked = Some c; stands = true })
kept_stands K s c j spelled other can down survives = record {
  spelled = spelled;
  other = other;
  longer = λ e. true_false e;
  can = for_some (Some c) (K.CanChange s) c refl can;
  whole = λ e. true_false (sym down ∙ e);
  settled = λ e. true_false (sym down ∙ e);
  survives = survives;
}

-- ---- a journal that isn't shut, whose records spell something
module _ {C : Type 0} (K : Kind C) (x : K.State) (j : pair.View) (up : j.shut ≡ false) (survives : pair.Survives j) (spelled : K.spelled j.records ≡ Some x) where
  pub nothing_other : ForSome j.other (λ rs. K.spelled rs ≡ Some x)
  nothing_other = for_none j.other _ (survives.whole up)

  found_so : (found : List (List ℕ)) → pair.MayFind j found → K.spelled found ≡ Some x
  found_so found (inl same) = ap K.spelled same ∙ spelled
  found_so found (inr other) = none_some (sym (survives.whole up) ∙ other)

  -- nothing was done to it
  pub still_left : (new : DiskView) → new.timeline ≡ j.disk.timeline → pair.AnyCrashLeaves j.disk new (λ found. K.spelled found ≡ Some x)
  still_left new same = stays j.disk.timeline new.timeline (λ c. K.spelled (records_of c) ≡ Some x) same (λ c image. found_so (records_of c) (survives.left c image))

  -- records that spell the same were put in the place of all
  module _ (given : List (List ℕ)) (next : K.spelled given ≡ Some x) where
    pub compacting : (new : DiskView) → pair.AnyCrashLeaves j.disk new (λ found. pair.MayFind j found ⊎ (found ≡ given)) → pair.AnyCrashLeaves j.disk new (λ found. K.spelled found ≡ Some x)
    compacting new run =
        weaker j.disk.timeline new.timeline _ (λ c. K.spelled (records_of c) ≡ Some x) (λ c. elim [ inl before ↦ found_so (records_of c) before | inr after ↦ ap K.spelled after ∙ next ]) run

    pub other_given : (new : pair.View) → new.other ≡ Some given → ForSome new.other (λ rs. K.spelled rs ≡ Some x)
    other_given new is = for_some new.other (λ rs. K.spelled rs ≡ Some x) given is next

-- what was kept before a change, or after it, where one call follows another
module _ {C : Type 0} (K : Kind C) (s : K.State) (c : C) where
  pub after_left : (old mid new : DiskView) → pair.AnyCrashLeaves old mid (BeforeOrAfter K s c) → pair.AnyCrashLeaves mid new (λ found. K.spelled found ≡ Some (K.changed s c)) → pair.AnyCrashLeaves old new (BeforeOrAfter K s c)
  after_left old mid new front back =
      joined old.timeline mid.timeline new.timeline (λ b. BeforeOrAfter K s c (records_of b)) front (weaker mid.timeline new.timeline _ (λ b. BeforeOrAfter K s c (records_of b)) (λ b after. inr after) back)

  -- nothing was done
  pub before_left : (v : View C) (new : DiskView) → IsKept K s v → v.journal.shut ≡ false → new.timeline ≡ v.journal.disk.timeline → pair.AnyCrashLeaves v.journal.disk new (BeforeOrAfter K s c)
  before_left v new k up same =
      weaker v.journal.disk.timeline new.timeline (λ b. K.spelled (records_of b) ≡ Some s) (λ b. BeforeOrAfter K s c (records_of b)) (λ b before. inl before)
      (still_left K s v.journal up k.survives (spelled_now K s v k up) new same)

  -- of the same state
  pub left_as : (now : K.State) (old new : DiskView) → now ≡ s → pair.AnyCrashLeaves old new (λ found. K.spelled found ≡ Some (K.changed now c)) → pair.AnyCrashLeaves old new (λ found. K.spelled found ≡ Some (K.changed s c))
  left_as now old new is run = subst (λ (t : K.State). pair.AnyCrashLeaves old new (λ found. K.spelled found ≡ Some (K.changed t c))) is run

-- another journal
pub still_calm : {C : Type 0} (v : View C) (j : pair.View) → v ≡ calm v.journal → record v { journal = j } ≡ calm j
still_calm {C = C} v j is = ap (λ (w : View C). record w { journal = j }) is

-- seen from inside
pub calm_inside : {C : Type 0} (v w : View C) → v ≡ w → w ≡ calm w.journal → v ≡ calm v.journal
calm_inside {C = C} v w is calmly = is ∙ calmly ∙ ap (λ (u : View C). calm u.journal) (sym is)

-- a change was made
pub kept_made : {C : Type 0} (K : Kind C) (s now : K.State) (c : C) (j : pair.View) (v : View C) → now ≡ K.changed s c → v ≡ calm j → K.spelled j.records ≡ Some (K.changed s c) → j.shut ≡ false → pair.Survives j → IsKept K now v
kept_made {C = C} K s now c j v made is spelled up survives =
    subst (λ (w : View C). IsKept K now w) (sym is) (subst (λ (t : K.State). IsKept K t (calm j)) (sym made) (kept_calm K (K.changed s c) j spelled (survives.whole up) survives))

-- it was opened again
pub kept_again : {C : Type 0} (K : Kind C) (now : K.State) (rs : List (List ℕ)) (j : pair.View) (v : View C) → v ≡ calm j → j.records ≡ rs → K.spelled rs ≡ Some now → j.other ≡ None → pair.Survives j → IsKept K now v
kept_again {C = C} K now rs j v is records spelled none survives = subst (λ (w : View C). IsKept K now w) (sym is) (kept_calm K now j (ap K.spelled records ∙ spelled) none survives)

-- one record more
pub adds_one : (old mid new : pair.View) (bytes : List ℕ) → mid.records ≡ old.records ++ bytes ∷ [] → TakesRecord 0 old.disk.armed mid.disk.armed → new ≡ mid → AddsOne old new
adds_one old mid new bytes is taken same = subst (λ (w : pair.View). AddsOne old w) (sym same) (record { records = ap length is ∙ length-append old.records (bytes ∷ []); taken = taken })

-- ---- what keeps a value, from inside

abbrev pub inside : {C : Type 0} → pair.View → Option C → Bool → View C
inside j asked stands = record { journal = j; asked = asked; stands = stands }

pub kept_inside : {C : Type 0} (K : Kind C) (s : K.State) (v w : View C) → v ≡ w → IsKept K s w → IsKept K s v
kept_inside {C = C} K s v w is k = subst (λ (u : View C). IsKept K s u) (sym is) k

pub up_inside : {C : Type 0} (v w : View C) → v ≡ w → w.journal.shut ≡ false → v.journal.shut ≡ false
up_inside {C = C} v w is up = ap (λ (u : View C). u.journal.shut) is ∙ up

pub left_inside : {C : Type 0} (K : Kind C) (s : K.State) (v w : View C) (new : DiskView) → v ≡ w → pair.AnyCrashLeaves v.journal.disk new (MayFind K s v) → pair.AnyCrashLeaves w.journal.disk new (MayFind K s w)
left_inside {C = C} K s v w new is run = subst (λ (u : View C). pair.AnyCrashLeaves u.journal.disk new (MayFind K s u)) is run

pub during_inside : {C : Type 0} (K : Kind C) (s : K.State) (c : C) (v w : View C) (new : DiskView) → v ≡ w → pair.AnyCrashLeaves v.journal.disk new (BeforeOrAfter K s c) → pair.AnyCrashLeaves w.journal.disk new (BeforeOrAfter K s c)
during_inside {C = C} K s c v w new is run = subst (λ (u : View C). pair.AnyCrashLeaves u.journal.disk new (BeforeOrAfter K s c)) is run

pub found_inside : {C : Type 0} (K : Kind C) (s now : K.State) (v w : View C) → v ≡ w → (d : Bool) × (v.stands ≡ true → d ≡ true) × (now ≡ reopened_by K s v.asked d) → (d : Bool) × (w.stands ≡ true → d ≡ true) × (now ≡ reopened_by K s w.asked d)
found_inside {C = C} K s now v w is found = subst (λ (u : View C). (d : Bool) × (u.stands ≡ true → d ≡ true) × (now ≡ reopened_by K s u.asked d)) is found

pub calm_now : {C : Type 0} (K : Kind C) (s : K.State) (v : View C) → IsKept K s v → v.journal.shut ≡ false → (j : pair.View) → inside j v.asked v.stands ≡ calm j
calm_now {C = C} K s v k up j = ap (λ (a : Option C). inside j a v.stands) (k.whole up) ∙ ap (λ (b : Bool). inside {C = C} j None b) (k.settled up)

pub taken_calm : {C : Type 0} (j : pair.View) (asked : Option C) → asked ≡ None → inside j asked false ≡ calm j
taken_calm {C = C} j asked none = ap (λ (a : Option C). inside j a false) none

pub kept_as : {C : Type 0} (K : Kind C) (s now : K.State) (v : View C) → now ≡ s → IsKept K s v → IsKept K now v
kept_as K s now v is k = subst (λ (t : K.State). IsKept K t v) (sym is) k

pub can_as : {C : Type 0} (K : Kind C) (s now : K.State) (c : C) → now ≡ s → K.CanChange s c → K.CanChange now c
can_as K s now c is can = subst (λ (t : K.State). K.CanChange t c) (sym is) can
