-- A store and a transaction as their callers see them, and what a crash leaves of a store.
use Rattle.std.specs.Prelude.{◌≡◌, ◌⊎◌, ℕ, ◌<◌, Bool, true, false, if◌then◌else◌, List, length, Option, Some, None, IsSome, refl}
use Rattle.std.specs.Coded.{Coded, code_by, coded×, coded_ℕ, coded_list, coded_option, coded_bool}
use Rattle.delos_types.specs.Spaces.{SpaceMap}
use Rattle.disk_model.specs.Disk.{DiskView, reads}
use Rattle.disk_model.specs.Armed.{TakesRecord}
use Rattle.journal_pair.specs.Records.{records_of}
use Rattle.journal_pair.specs.Journal.{LeavesRecords}
use Rattle.store_records.specs.declared.change.Change.{Change}
use Rattle.store_records.specs.declared.change.Commit.{Commit}
use Rattle.store_records.specs.Changing.{applied}
use Rattle.store_records.specs.Spelled.{Saved, committed, saved_of}
use Rattle.local_store.specs.Codes.{space_code, change_code, commit_code, disk_code}

-- ---- a transaction

-- the space of the store at its beginning, and what it changes there, one after another
pub record TxnView : Type 0 where
  pub base : SpaceMap
  pub changes : List Change

-- what it has as a space
abbrev pub contents_of : TxnView → SpaceMap
contents_of t = applied t.base t.changes

-- the transaction with this cursor
abbrev pub txn_commit : ℕ → TxnView → Commit
txn_commit cursor t = record { cursor = cursor; changes = t.changes }

abbrev pub txn_code : Coded TxnView
txn_code =
    code_by (SpaceMap × List Change) (coded× space_code (coded_list change_code)) (λ t. (t.base, t.changes)) (λ p. record { base = p.0; changes = p.1 }) (λ _. refl)

-- ---- a store

-- Its cursor and its space; the transaction in which the disk failed, which a crash may keep; whether the record of that
-- stands, so that a reopening finds it; whether it is down, and commits nothing more; and its disk.
pub record View : Type 0 where
  pub cursor : ℕ
  pub contents : SpaceMap
  pub asked : Option Commit
  pub stands : Bool
  pub down : Bool
  pub disk : DiskView

abbrev pub view_code : Coded View
view_code =
    code_by (ℕ × (SpaceMap × (Option Commit × (Bool × (Bool × DiskView))))) (coded× coded_ℕ (coded× space_code (coded× (coded_option commit_code) (coded× coded_bool (coded× coded_bool disk_code)))))
    (λ v. (v.cursor, (v.contents, (v.asked, (v.stands, (v.down, v.disk)))))) (λ p. record { cursor = p.0; contents = p.1.0; asked = p.1.1.0; stands = p.1.1.1.0; down = p.1.1.1.1.0; disk = p.1.1.1.1.1 }) (λ _. refl)

-- what it keeps
abbrev pub saved_in : View → Saved
saved_in v = record { cursor = v.cursor; contents = v.contents }

-- what it keeps after a reopening: the transaction in which the disk failed is kept whole, or not at all
abbrev pub reopened_by : Saved → Bool → Option Commit → Saved
reopened_by s kept None = s
reopened_by s kept (Some c) = if kept then committed s c else s

abbrev pub reopened : View → Bool → Saved
reopened v kept = reopened_by (saved_in v) kept v.asked

-- the store that keeps this and is up
abbrev pub up_with : Saved → DiskView → View
up_with s disk = record { cursor = s.cursor; contents = s.contents; asked = None; stands = false; down = false; disk = disk }

-- these records spell what a reopening may find
abbrev pub MayFind : View → List (List ℕ) → Type 0
MayFind v found = (kept : Bool) × (saved_of found ≡ Some (reopened v kept))

-- What a crash inside a commit may leave: what one before it may leave, or the transaction, whole and with its cursor.
abbrev pub MayFindDuring : View → Commit → List (List ℕ) → Type 0
MayFindDuring v c found = MayFind v found ⊎ (saved_of found ≡ Some (committed (saved_in v) c))

-- A crash leaves what a reopening may find. While the store is up that is just what it keeps, and its disk isn't stopped.
pub record Survives (v : View) : Type 0 where
  pub whole : v.down ≡ false → v.asked ≡ None
  pub settled : v.down ≡ false → v.stands ≡ false
  pub standing : v.stands ≡ true → IsSome v.asked
  pub running : v.down ≡ false → v.disk.stopped ≡ false
  pub left : LeavesRecords v.disk (MayFind v)

-- a transaction after which there are more records compacts them to one
abbrev pub most_records : ℕ
most_records = 256

-- A commit is the two writes of a record, and where it compacts at most four more.
pub record CountsWrites (old new : DiskView) : Type 0 where
  pub two : length (records_of (reads old)) < most_records → TakesRecord 0 old.armed new.armed
  pub six : TakesRecord 4 old.armed new.armed
