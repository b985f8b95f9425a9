-- What a journal keeps in memory beside its disk.
use Rattle.std.specs.Prelude.{◌≡◌, ℕ, ◌+◌, ◌^◌, ◌<◌, ◌≤◌, Bool, false, Option, None, List, [], length, take}
use Rattle.disk_model.specs.Disk.{Timeline, content}
use Rattle.disk_model.specs.Crash.{Leaves}
use Rattle.journal_core.specs.Records.{records_of}
use Rattle.journal_core.specs.Layout.{EndsAt}
use Rattle.journal_core.specs.Journal.{WithOrWithout}

-- the first records in the bytes, so many
abbrev pub first_records : ℕ → List ℕ → List (List ℕ)
first_records count bytes = take count (records_of bytes)

-- Unless it is shut the disk runs, has these records, which end there, and nothing pending. A crash leaves them, with the
-- torn one or without.
pub record Keeps (ps : List (List ℕ)) (torn : Option (List ℕ)) (end : ℕ) (shut stopped : Bool) (line : Timeline) : Type 0 where
  pub fits : end + 1 < 2 ^ 64
  pub few : length ps ≤ end
  pub settled : shut ≡ false → EndsAt ps end (content line.now)
  pub synced : shut ≡ false → line.now.changes ≡ []
  pub whole : shut ≡ false → torn ≡ None
  pub running : shut ≡ false → stopped ≡ false
  pub left : Leaves line.now (λ bytes. WithOrWithout ps torn (records_of bytes))

-- The records are the first on the disk, so many. All, unless it is shut.
pub record IsKept (count : ℕ) (torn : Option (List ℕ)) (end : ℕ) (shut stopped : Bool) (line : Timeline) : Type 0 where
  pub there : count ≤ length (records_of (content line.now))
  pub all : shut ≡ false → count ≡ length (records_of (content line.now))
  pub keeps : Keeps (first_records count (content line.now)) torn end shut stopped line
