-- What is kept and what the records spell stay together, and what a crash leaves of them.
use Rattle.std.proofs.Common.{◌≡◌, ℕ, ◌+◌, ◌≤◌, ◌<◌, ◌⊎◌, inl, inr, Bool, true, false, cond, leb, List, [], ◌∷◌, ◌++◌, length, take, slice_index_or, Option, Some, None, Result, Err, refl, sym, ap, subst, ◌∙◌, arith, Vec, Global}
use Rattle.std.specs.Prelude.{nat_lt, IsSome, IsErrOf}
use Rattle.std.proofs.lemmas.Bool.{leb-true, le-ltb}
use Rattle.std.proofs.lemmas.List.{take_more}
use Rattle.disk_model.specs.Disk.{DiskView, reads, IsSynced}
use Rattle.disk_model.specs.Crash.{AnyCrash}
use Rattle.disk_model.specs.CrashLaws.{stays, weaker}
use Rattle.disk_model.proofs.Tear.{synced_is}
use Rattle.journal_core.specs.Records.{payloads}
use Rattle.journal_core.proofs.Reading.{now_has}
use Rattle.journal_pair.specs.Records.{records_of}
use Rattle.journal_core.specs.declared.fault.Fault.{Fault}
use Rattle.journal_core.specs.declared.fault.Fault.TheVariants as fault
use Rattle.journal_pair.specs.Journal.{LeavesRecords}
use Rattle.journal_pair.specs.Journal as pair
use Rattle.kept_value.specs.View as value
use Rattle.kept_value.specs.Keeping as keeping
use Rattle.kept_value.proofs.Laws.{kept_left, spelled_now}
use Rattle.store_records.specs.declared.change.Commit.{Commit}
use Rattle.store_records.specs.Changing.{applied}
use Rattle.store_records.specs.Format.{SpellsCommit}
use Rattle.store_records.specs.Reading.{commit_of}
use Rattle.store_records.specs.Spelled.{Saved, nothing_saved, committed, saved_next, saved_after, saved_of, IsFirstBad}
use Rattle.store_records.proofs.Following.{saved_of-more, record_follows, commit_follows}
use Rattle.delos_types.specs.Spaces.{SpaceMap}
use Rattle.local_store.specs.declared.asked.Asked.{Asked}
use Rattle.local_store.specs.declared.base.Base.{Base}
use Rattle.local_store.specs.Slots.{Entries, AreFit}
use Rattle.local_store.specs.View.{View, saved_in, reopened_by, MayFind, MayFindDuring, Survives, CountsWrites, most_records}
use Rattle.local_store.specs.Keeping.{saved_with, saved_by, commit_of_asked, asked_of, base_kind, view_of, IsKept}

-- ---- a space as a value that is kept

-- the record of a transaction is the next
pub spells_next : (s : Saved) (c : Commit) (bytes : List ℕ) → s.cursor ≤ c.cursor → SpellsCommit bytes c → (records : List (List ℕ)) → saved_of records ≡ Some s → saved_of (records ++ bytes ∷ []) ≡ Some (committed s c)
spells_next s c bytes le spelled records is = saved_of-more records bytes ∙ ap (λ (o : Option Saved). saved_after o bytes) is ∙ record_follows s c bytes le spelled

-- a record more, that is none of a store's, whose cursor falls, or that follows
took : (s : Saved) (bytes : List ℕ) (records : List (List ℕ)) (read : Option Commit) → saved_of records ≡ Some s → read ≡ commit_of bytes → saved_of (records ++ bytes ∷ []) ≡ saved_next s read
took s bytes records read spelled is = saved_of-more records bytes ∙ ap (λ (o : Option Saved). saved_after o bytes) spelled ∙ ap (saved_next s) (sym is)

pub took_none : (s : Saved) (bytes : List ℕ) (records : List (List ℕ)) (read : Option Commit) → saved_of records ≡ Some s → read ≡ commit_of bytes → read ≡ None → saved_of (records ++ bytes ∷ []) ≡ None
took_none s bytes records read spelled is none = took s bytes records read spelled is ∙ ap (saved_next s) none

leb_of_less : (m n : ℕ) → n < m → leb m n ≡ false
leb_of_less m n less = refuse (leb m n) refl
  where
    refuse : (b : Bool) → leb m n ≡ b → leb m n ≡ false
    refuse true e = let le : m ≤ n = leb-true m n e in absurd (omega (arith, le, less))
    refuse false e = e

pub took_falling : (s : Saved) (bytes : List ℕ) (records : List (List ℕ)) (read : Option Commit) (c : Commit) → saved_of records ≡ Some s → read ≡ commit_of bytes → read ≡ Some c → c.cursor < s.cursor → saved_of (records ++ bytes ∷ []) ≡ None
took_falling s bytes records read c spelled is some less =
    took s bytes records read spelled is ∙ ap (saved_next s) some ∙ ap (λ t. cond t (Some (committed s c)) None) (leb_of_less s.cursor c.cursor less)

pub took_next : (s new : Saved) (bytes : List ℕ) (records : List (List ℕ)) (read : Option Commit) (c : Commit) → saved_of records ≡ Some s → read ≡ commit_of bytes → read ≡ Some c → s.cursor ≤ c.cursor → new ≡ committed s c → saved_of (records ++ bytes ∷ []) ≡ Some new
took_next s new bytes records read c spelled is some le made = took s bytes records read spelled is ∙ ap (saved_next s) some ∙ commit_follows s c le ∙ ap Some (sym made)

-- the records that it is compacted to
pub one_payload : (none all : List (Vec ℕ Global)) (last : Vec ℕ Global) → none ≡ [] → all ≡ none ++ last ∷ [] → payloads all ≡ last.items ∷ []
one_payload none all last empty is = ap payloads (is ∙ ap (λ (vs : List (Vec ℕ Global)). vs ++ last ∷ []) empty)

pub spells_whole : (whole : Commit) (bytes : List ℕ) (m : SpaceMap) → SpellsCommit bytes whole → applied nothing_saved.contents whole.changes ≡ m → saved_of (bytes ∷ []) ≡ Some (record { cursor = whole.cursor; contents = m })
spells_whole whole bytes m spelled made = record_follows nothing_saved whole bytes (omega arith) spelled ∙ ap (λ (x : SpaceMap). Some (record { cursor = whole.cursor; contents = x })) made

-- the first bad record
pub bad_of : (records : List (List ℕ)) (index : ℕ) → value.IsFirstBad base_kind records index → IsFirstBad records index
bad_of records index bad = record {
  within = bad.within;
  before = bad.before;
  good = bad.good;
  bad = ap (λ (o : Option Saved). saved_after o (slice_index_or records index [])) (sym bad.good)
      ∙ sym (saved_of-more (take index records) (slice_index_or records index [])) ∙ ap saved_of (sym (take_more records index [] bad.within)) ∙ bad.bad;
}

pub none_bad : {P : Type 0} (records : List (List ℕ)) (index : ℕ) → records ≡ [] → value.IsFirstBad base_kind records index → P
none_bad records index none bad = absurd (omega (arith, bad.within, ap length none))

-- ---- what a reopening may find

pub shows_by : (s : Saved) (asked : Option Asked) (done : Bool) → value.reopened_by base_kind s asked done ≡ reopened_by s done (asked_of asked)
shows_by s None done = refl
shows_by s (Some a) true = refl
shows_by s (Some a) false = refl

shows_before : (s : Saved) (asked : Option Commit) → s ≡ reopened_by s false asked
shows_before s None = refl
shows_before s (Some c) = refl

some_asked : (asked : Option Asked) → IsSome asked → IsSome (asked_of asked)
some_asked None is = is
some_asked (Some a) is = refl

module _ (b : Base) (k : value.View Asked) where
  pub may_find : (found : List (List ℕ)) → value.MayFind base_kind (saved_by b) k found → MayFind (view_of b k) found
  may_find found m = (m.0, m.2 ∙ ap Some (shows_by (saved_by b) k.asked m.0))

  pub kept_survives : IsKept b k → Survives (view_of b k)
  kept_survives i = record {
    whole = λ up. ap asked_of (i.kept.whole up);
    settled = i.kept.settled;
    standing = λ stands. some_asked k.asked (i.standing stands);
    running = λ up. i.kept.survives.running up;
    left = λ image is. may_find (records_of image) (kept_left base_kind (saved_by b) k i.kept image is);
  }

  -- while it isn't shut a crash leaves just what is kept
  pub kept_durable : IsKept b k → k.journal.shut ≡ false → LeavesRecords k.journal.disk (λ found. saved_of found ≡ Some (saved_by b))
  kept_durable i up = λ image is. ap saved_of (i.kept.survives.exact up image is) ∙ spelled_now base_kind (saved_by b) k i.kept up

  -- of what callers see
  pub seen_survives : (now : View) → IsKept b k → view_of b k ≡ now → Survives now
  seen_survives now i is = subst (λ (v : View). Survives v) is (kept_survives i)

  -- a crash inside a commit
  pub during : (now : View) (s : Saved) (a : Asked) (c : Commit) (new : DiskView) → view_of b k ≡ now → s ≡ saved_by b → commit_of_asked a ≡ c →
      AnyCrash k.journal.disk.timeline new.timeline (λ image. value.BeforeOrAfter base_kind s a (records_of image)) → AnyCrash now.disk.timeline new.timeline (λ image. MayFindDuring now c (records_of image))
  during now s a c new is same asked run =
      subst (λ (v : View). AnyCrash v.disk.timeline new.timeline (λ image. MayFindDuring v c (records_of image))) is
      (weaker k.journal.disk.timeline new.timeline (λ image. value.BeforeOrAfter base_kind s a (records_of image)) (λ image. MayFindDuring (view_of b k) c (records_of image))
      (λ image. elim [
        | inl before ↦ inl (false, before ∙ ap Some (same ∙ shows_before (saved_by b) (asked_of k.asked)))
        | inr after ↦ inr (after ∙ ap (λ (x : Saved). Some (committed x (commit_of_asked a))) same ∙ ap (λ (x : Commit). Some (committed (saved_by b) x)) asked)
      ]) run)

  -- and inside a reopening
  pub crash_reopening : (now : View) (s : Saved) (new : DiskView) → view_of b k ≡ now → s ≡ saved_by b → AnyCrash k.journal.disk.timeline new.timeline (λ image. value.MayFind base_kind s k (records_of image)) →
      AnyCrash now.disk.timeline new.timeline (λ image. MayFind now (records_of image))
  crash_reopening now s new is same run =
      subst (λ (v : View). AnyCrash v.disk.timeline new.timeline (λ image. MayFind v (records_of image))) is
      (weaker k.journal.disk.timeline new.timeline (λ image. value.MayFind base_kind s k (records_of image)) (λ image. MayFind (view_of b k) (records_of image))
      (λ image m. may_find (records_of image) (subst (λ (x : Saved). value.MayFind base_kind x k (records_of image)) same m)) run)

-- what stays is as it was
pub stays_during : (v : View) (c : Commit) (new : DiskView) → new.timeline ≡ v.disk.timeline → Survives v → AnyCrash v.disk.timeline new.timeline (λ image. MayFindDuring v c (records_of image))
stays_during v c new same s = stays v.disk.timeline new.timeline (λ image. MayFindDuring v c (records_of image)) same (λ image is. inl (s.left image is))

pub stays_reopening : (v : View) (new : DiskView) → new.timeline ≡ v.disk.timeline → Survives v → AnyCrash v.disk.timeline new.timeline (λ image. MayFind v (records_of image))
stays_reopening v new same s = stays v.disk.timeline new.timeline (λ image. MayFind v (records_of image)) same s.left

-- ---- from base to base

-- the value of a handle that is shared no more: the one of before, or a copy
abbrev pub IsMade : Base → Base → Type 0
IsMade base made = (made ≡ base) ⊎ ((made.slots.entries ≡ base.slots.entries) × (made.cursor ≡ base.cursor))

pub same_saved : (base made : Base) → IsMade base made → saved_by made ≡ saved_by base
same_saved base made (inl same) = ap saved_by same
same_saved base made (inr same) =
    ap (λ (es : Entries). saved_with es made.cursor) same.0 ∙ ap (λ (n : ℕ). saved_with base.slots.entries n) same.1

pub made_fit : (base made : Base) → IsMade base made → AreFit base.slots.entries → AreFit made.slots.entries
made_fit base made (inl same) fit = subst (λ (b : Base). AreFit b.slots.entries) (sym same) fit
made_fit base made (inr same) fit = subst AreFit (sym same.0) fit

pub made_kept : (base made : Base) (k : value.View Asked) → IsMade base made → IsKept base k → keeping.IsKept base_kind (saved_by made) k
made_kept base made k is i = subst (λ (s : Saved). keeping.IsKept base_kind s k) (sym (same_saved base made is)) i.kept

-- where the record of a transaction stands there is one
abbrev pub IsStanding : value.View Asked → Type 0
IsStanding k = k.stands ≡ true → IsSome k.asked

pub standing_calm : (k : value.View Asked) → k ≡ value.calm k.journal → IsStanding k
standing_calm k calm stands = absurd (apart (sym (ap (λ (x : value.View Asked). x.stands) calm) ∙ stands))
  where
    apart : false ≡ true → ⊥
    apart e = cc

pub standing_asked : (k : value.View Asked) (a : Asked) → k.asked ≡ Some a → IsStanding k
standing_asked k a is stands = subst (λ (o : Option Asked). IsSome o) (sym is) refl

pub standing_same : (k new : value.View Asked) (j : pair.View) → new ≡ record k { journal = j } → IsStanding k → IsStanding new
standing_same k new j same standing stands =
    subst (λ (o : Option Asked). IsSome o) (sym (ap (λ (x : value.View Asked). x.asked) same)) (standing (sym (ap (λ (x : value.View Asked). x.stands) same) ∙ stands))

-- a reopening is refused for want of memory, or by the disk
pub by_fault : {P : Type 0} (r : Result (Unit {0}) Fault) (e : Fault) → r ≡ Err e → (IsErrOf r fault.Memory → P) → (IsErrOf r fault.Disk → P) → P
by_fault r fault.Memory is memory failed = memory is
by_fault r fault.Disk is memory failed = failed is

-- what is kept then
pub kept_now : (last b : Base) (k : value.View Asked) → last ≡ b → AreFit b.slots.entries → IsStanding k → keeping.IsKept base_kind (saved_by b) k → IsKept last k
kept_now last b k end fit standing kept = subst (λ (x : Base). IsKept x k) (sym end) (record { fit = fit; standing = standing; kept = kept })

-- what callers see then
pub seen_with : (last b : Base) (k : value.View Asked) (s : Saved) (asked : Option Commit) (stands down : Bool) → last ≡ b → saved_by b ≡ s → asked_of k.asked ≡ asked → k.stands ≡ stands → k.journal.shut ≡ down →
    view_of last k ≡ record { cursor = s.cursor; contents = s.contents; asked = asked; stands = stands; down = down; disk = k.journal.disk }
seen_with last b k s asked stands down end saved is standing shut =
    ap (λ (x : Base). view_of x k) end
    ∙ ap (λ (x : Saved). record { cursor = x.cursor; contents = x.contents; asked = asked_of k.asked; stands = k.stands; down = k.journal.shut; disk = k.journal.disk }) saved
    ∙ ap (λ (o : Option Commit). record { cursor = s.cursor; contents = s.contents; asked = o; stands = k.stands; down = k.journal.shut; disk = k.journal.disk }) is
    ∙ ap (λ (t : Bool). record { cursor = s.cursor; contents = s.contents; asked = asked; stands = t; down = k.journal.shut; disk = k.journal.disk }) standing
    ∙ ap (λ (d : Bool). record { cursor = s.cursor; contents = s.contents; asked = asked; stands = stands; down = d; disk = k.journal.disk }) shut

-- what callers saw before
pub seen_before : (base made : Base) (k : value.View Asked) (now : View) → IsMade base made → view_of base k ≡ now → saved_by made ≡ saved_in now
seen_before base made k now is seen = same_saved base made is ∙ ap saved_in seen

-- ---- the writes that an armed disk counts

-- all records are on the disk
all_there : (s : Saved) (k : value.View Asked) → keeping.IsKept base_kind s k → k.journal.shut ≡ false → length (records_of (reads k.journal.disk)) ≡ length k.journal.records
all_there s k kept running = ap length (now_has k.journal.disk.timeline.now _ (kept.survives.exact running))

pub counts_writes : (s : Saved) (k new : value.View Asked) → keeping.IsKept base_kind s k → k.journal.shut ≡ false →
    (nat_lt most_records (length k.journal.records + 1) ≡ false → value.AddsOne k.journal new.journal) → value.TakesWrite 4 k.journal.disk new.journal.disk → CountsWrites k.journal.disk new.journal.disk
counts_writes s k new kept running one writes = record {
  two = λ few.
      let all = all_there s k kept running in
      (one (le-ltb most_records (length k.journal.records + 1) (omega (arith, few, all)))).taken;
  six = writes.taken;
}

pub counts_records : (b : Base) (k : value.View Asked) (now : View) → IsKept b k → view_of b k ≡ now → (n : ℕ) → n ≡ length k.journal.records → now.down ≡ false → n ≡ length (records_of (reads now.disk))
counts_records b k now i is n counted up =
    let running : k.journal.shut ≡ false = ap (λ (v : View). v.down) is ∙ up in
    counted ∙ sym (all_there (saved_by b) k i.kept running) ∙ ap (λ (v : View). length (records_of (reads v.disk))) is

-- ---- a disk without records

some_same : (x y : Saved) → Some x ≡ Some y → x ≡ y
some_same x y e = cc

-- what is opened on it is the empty space
pub opened_empty : (records : List (List ℕ)) (s : Saved) (k : value.View Asked) → records ≡ [] → saved_of records ≡ Some s → keeping.IsKept base_kind s k → keeping.IsKept base_kind nothing_saved k
opened_empty records s k none spelled kept =
    let same : s ≡ nothing_saved = some_same s nothing_saved (sym spelled ∙ ap saved_of none) in
    subst (λ (x : Saved). keeping.IsKept base_kind x k) same kept

-- a crash leaves none
pub none_left : (old new : DiskView) (records : List (List ℕ)) → records ≡ [] → AnyCrash old.timeline new.timeline (λ image. records_of image ≡ records) → AnyCrash old.timeline new.timeline (λ image. records_of image ≡ [])
none_left old new records none run = subst (λ (rs : List (List ℕ)). AnyCrash old.timeline new.timeline (λ image. records_of image ≡ rs)) none run

-- nothing was done on it
pub none_stay : (v : DiskView) → IsSynced v → records_of (reads v) ≡ [] → AnyCrash v.timeline v.timeline (λ image. records_of image ≡ [])
none_stay v synced none = stays v.timeline v.timeline (λ image. records_of image ≡ []) refl (λ image is. ap records_of (synced_is v.timeline.now synced image is) ∙ none)
