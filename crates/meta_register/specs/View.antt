-- A register as its callers see it, and what a crash leaves of it.
use Rattle.std.specs.Prelude.{◌≡◌, ◌⊎◌, ℕ, ◌+◌, ◌-◌, ◌^◌, ◌<◌, min, Bool, if◌then◌else◌, List, length, Some}
use Rattle.delos_types.specs.declared.chain.Chain.{Chain}
use Rattle.disk_model.specs.Disk.{DiskView, reads}
use Rattle.disk_model.specs.Armed.{TakesRecord}
use Rattle.journal_pair.specs.Records.{records_of}
use Rattle.journal_pair.specs.Journal.{LeavesRecords}
use Rattle.register_api.specs.View.{RegisterView, bumped}
use Rattle.register_api.specs.Calls.{reopened}
use Rattle.meta_register.specs.declared.standing.Standing.{Standing}
use Rattle.meta_register.specs.Records.{standing_of}

-- What every register shows; how often it answered that it was down; and its disk. The register's word is that of the disk,
-- and so is its count of writes while it is up.
pub record View : Type 0 where
  pub register : RegisterView
  pub downs : ℕ
  pub disk : DiskView

abbrev pub standing_in_view : RegisterView → Standing
standing_in_view v = record { version = v.version; chain = v.chain }

-- these records spell what a reopening may find
abbrev pub MayFind : RegisterView → List (List ℕ) → Type 0
MayFind v found = (kept : Bool) × (standing_of found ≡ Some (standing_in_view (reopened v kept v.asked)))

-- A crash leaves what a reopening may find. While it is up that is just what stands.
abbrev pub Survives : View → Type 0
Survives v = LeavesRecords v.disk (MayFind v.register)

-- the faults of a disk and the answers that it was down, in a word of 64 bits that stands still at its end
abbrev pub counted : ℕ → ℕ → ℕ
counted faults downs = min (faults + downs) (2 ^ 64 - 1)

-- what a crash inside a write may leave: what one before it may leave, or the chain under the next version
abbrev pub MayFindDuring : RegisterView → Chain → List (List ℕ) → Type 0
MayFindDuring v chain found = MayFind v found ⊎ (standing_of found ≡ Some (record { version = v.version + 1; chain = chain }))

-- how often it has answered that it was down, after a read or a write
abbrev pub downs_after : View → ℕ
downs_after v = if v.register.down then bumped v.downs else v.downs

-- a write after which there are more records compacts them to the last one
abbrev pub most_records : ℕ
most_records = 64

-- A good write is the two writes of a record, and where it compacts at most four more. The disk doesn't fail.
pub record CountsWrites (old new : DiskView) : Type 0 where
  pub two : length (records_of (reads old)) < most_records → TakesRecord 0 old.armed new.armed
  pub six : TakesRecord 4 old.armed new.armed
  pub no_fault : new.faults ≡ old.faults
