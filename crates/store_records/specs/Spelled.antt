-- Which cursor and space a list of records spells. A record follows where it is a transaction's and its cursor doesn't
-- fall.
use Rattle.std.specs.Prelude.{◌≡◌, ℕ, ◌<◌, nat_le, if◌then◌else◌, List, [], length, take, fold, slice_index_or, Option, Some, None}
use Rattle.std.specs.FinMap as map
use Rattle.delos_types.specs.Spaces.{SpaceMap}
use Rattle.store_records.specs.declared.change.Commit.{Commit}
use Rattle.store_records.specs.Changing.{applied}
use Rattle.store_records.specs.Reading.{commit_of}

-- what a store keeps: a space, and the cursor that stands with it
pub record Saved : Type 0 where
  pub cursor : ℕ
  pub contents : SpaceMap

-- what a store keeps to which nothing was committed
abbrev pub nothing_saved : Saved
nothing_saved = record { cursor = 0; contents = map.empty }

-- what it keeps after a transaction
abbrev pub committed : Saved → Commit → Saved
committed s c = record { cursor = c.cursor; contents = applied s.contents c.changes }

abbrev pub saved_next : Saved → Option Commit → Option Saved
saved_next s None = None
saved_next s (Some c) = if nat_le s.cursor c.cursor then Some (committed s c) else None

abbrev pub saved_after : Option Saved → List ℕ → Option Saved
saved_after None bytes = None
saved_after (Some s) bytes = saved_next s (commit_of bytes)

-- what the records spell, one after another
abbrev pub saved_of : List (List ℕ) → Option Saved
saved_of records = fold saved_after (Some nothing_saved) records

-- the records before this one spell something, and this one is none of a store's or its cursor falls
pub record IsFirstBad (records : List (List ℕ)) (index : ℕ) : Type 0 where
  pub within : index < length records
  pub before : Saved
  pub good : saved_of (take index records) ≡ Some before
  pub bad : saved_after (Some before) (slice_index_or records index []) ≡ None
