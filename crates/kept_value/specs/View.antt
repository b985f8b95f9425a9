-- A value that a journal keeps, as its callers see it, and what a crash leaves of it.
use Rattle.std.specs.Prelude.{◌≡◌, ◌⊎◌, ℕ, ◌+◌, ◌<◌, Bool, true, false, if◌then◌else◌, List, length, take, Option, Some, None}
use Rattle.disk_model.specs.Disk.{DiskView}
use Rattle.disk_model.specs.Armed.{Spends, TakesRecord}
use Rattle.journal_pair.specs.Journal as pair

-- How a value is kept: what it may be, what a list of records spells, which changes may be made, what follows them, and
-- after which of them a journal of so many records is compacted.
pub record Kind (C : Type 0) : Type 1 where
  pub State : Type 0
  pub spelled : List (List ℕ) → Option State
  pub CanChange : State → C → Type 0
  pub changed : State → C → State
  pub compacts : C → ℕ → Bool

-- The journal; the change in which the disk failed; and whether the record of that change stands, so that each reopening
-- finds it done.
pub record View (C : Type 0) : Type 0 where
  pub journal : pair.View
  pub asked : Option C
  pub stands : Bool

-- nothing failed
abbrev pub calm : {C : Type 0} → pair.View → View C
calm j = record { journal = j; asked = None; stands = false }

-- what is kept after a reopening: with the change in which the disk failed, or without
abbrev pub reopened_by : {C : Type 0} (K : Kind C) → K.State → Option C → Bool → K.State
reopened_by K s None done = s
reopened_by K s (Some c) done = if done then K.changed s c else s

-- these records spell what a reopening may find
abbrev pub MayFind : {C : Type 0} (K : Kind C) → K.State → View C → List (List ℕ) → Type 0
MayFind K s v found = (done : Bool) × (v.stands ≡ true → done ≡ true) × (K.spelled found ≡ Some (reopened_by K s v.asked done))

-- what a crash inside a change may leave: what was kept before it, or after it
abbrev pub BeforeOrAfter : {C : Type 0} (K : Kind C) → K.State → C → List (List ℕ) → Type 0
BeforeOrAfter K s c found = (K.spelled found ≡ Some s) ⊎ (K.spelled found ≡ Some (K.changed s c))

-- one record more, by its two writes alone
pub record AddsOne (old new : pair.View) : Type 0 where
  pub records : length new.records ≡ length old.records + 1
  pub taken : TakesRecord 0 old.disk.armed new.disk.armed

-- No fault was counted, it wasn't reopened, and at most so many writes were taken of the count that it is armed with: it
-- is armed or not as it was.
pub record Spares (most : ℕ) (old new : DiskView) : Type 0 where
  pub faults : new.faults ≡ old.faults
  pub word : new.word ≡ old.word
  pub spends : Spends most old.armed new.armed

-- A record was written, with at most so many writes more: no fault was counted, it wasn't reopened, and none of the writes
-- was the armed one.
pub record TakesWrite (more : ℕ) (old new : DiskView) : Type 0 where
  pub faults : new.faults ≡ old.faults
  pub word : new.word ≡ old.word
  pub taken : TakesRecord more old.armed new.armed

-- a disk that was to be reopened by this word was, or is as it was reopened before
abbrev pub Tries : ℕ → DiskView → DiskView → Type 0
Tries word old new = (new.word ≡ word) ⊎ (new.word ≡ old.word)

-- the records before this one spell something, and with it nothing
pub record IsFirstBad {C : Type 0} (K : Kind C) (records : List (List ℕ)) (index : ℕ) : Type 0 where
  pub within : index < length records
  pub before : K.State
  pub good : K.spelled (take index records) ≡ Some before
  pub bad : K.spelled (take (index + 1) records) ≡ None
