-- A journal over two areas as its callers see it, and what a crash leaves of it.
use Rattle.std.specs.Prelude.{◌≡◌, ◌⊎◌, ℕ, Bool, false, Option, Some, None, List}
use Rattle.disk_model.specs.Disk.{DiskView, IsSynced}
use Rattle.disk_model.specs.Crash.{Leaves, AnyCrash}
use Rattle.journal_pair.specs.Records.{records_of}

-- The records; those of the call in which the disk failed, which a crash may leave in their place; whether the journal is
-- shut, and takes no more records; and its disk.
pub record View : Type 0 where
  pub records : List (List ℕ)
  pub other : Option (List (List ℕ))
  pub shut : Bool
  pub disk : DiskView

-- these records, or the others in their place, and never a mixture
abbrev pub EitherOf : List (List ℕ) → Option (List (List ℕ)) → List (List ℕ) → Type 0
EitherOf rs other found = (found ≡ rs) ⊎ (other ≡ Some found)

-- what a reopening may find
abbrev pub MayFind : View → List (List ℕ) → Type 0
MayFind j found = EitherOf j.records j.other found

-- a crash now leaves a disk whose records have P
abbrev pub LeavesRecords : DiskView → (List (List ℕ) → Type 0) → Type 0
LeavesRecords v P = Leaves v.timeline.now (λ bytes. P (records_of bytes))

-- so does a crash at any moment from `old` to `new`
abbrev pub AnyCrashLeaves : DiskView → DiskView → (List (List ℕ) → Type 0) → Type 0
AnyCrashLeaves old new P = AnyCrash old.timeline new.timeline (λ bytes. P (records_of bytes))

-- What outlasts a crash. While the journal isn't shut its disk isn't stopped, nothing is torn or pending, and a crash
-- leaves just its records; in any case it leaves them or the others.
pub record Survives (j : View) : Type 0 where
  pub whole : j.shut ≡ false → j.other ≡ None
  pub synced : j.shut ≡ false → IsSynced j.disk
  pub exact : j.shut ≡ false → LeavesRecords j.disk (λ found. found ≡ j.records)
  pub running : j.shut ≡ false → j.disk.stopped ≡ false
  pub left : LeavesRecords j.disk (MayFind j)
