-- What a journal over two areas keeps in memory beside its disk.
use Rattle.std.specs.Prelude.{◌≡◌, ℕ, ◌+◌, ◌^◌, ◌<◌, Bool, false, Option, None, Some, List, [], ◌∷◌, ◌++◌, length, take}
use Rattle.disk_model.specs.Disk.{Timeline, content}
use Rattle.disk_model.specs.Crash.{Leaves}
use Rattle.journal_core.specs.Records.{payloads}
use Rattle.journal_pair.specs.Records.{records_of}
use Rattle.journal_pair.specs.Layout.{Stands}
use Rattle.journal_pair.specs.Journal.{EitherOf}
use Rattle.journal_pair.specs.declared.area.Area.{Area}
use Rattle.journal_pair.specs.declared.torn.Torn.{Torn}
use Rattle.journal_pair.specs.declared.torn.Torn.TheVariants as torn

-- what callers are told that a crash may leave in the place of these records
abbrev pub other_of : List (List ℕ) → Option Torn → Option (List (List ℕ))
other_of ps None = None
other_of ps (Some (torn.Added p)) = Some (ps ++ p.items ∷ [])
other_of ps (Some (torn.Unwritten given)) = Some (payloads given.items)
other_of ps (Some (torn.Given before given)) = Some (payloads given.items)

-- what it may leave: nothing of what wasn't begun to be written
abbrev pub left_of : List (List ℕ) → Option Torn → Option (List (List ℕ))
left_of ps None = None
left_of ps (Some (torn.Added p)) = Some (ps ++ p.items ∷ [])
left_of ps (Some (torn.Unwritten given)) = None
left_of ps (Some (torn.Given before given)) = Some (payloads given.items)

-- The records: the first on the disk, so many, or those that a compaction took along before it failed.
abbrev pub records_in : ℕ → Option Torn → List ℕ → List (List ℕ)
records_in count None bytes = take count (records_of bytes)
records_in count (Some (torn.Added p)) bytes = take count (records_of bytes)
records_in count (Some (torn.Unwritten given)) bytes = take count (records_of bytes)
records_in count (Some (torn.Given before given)) bytes = payloads before.items

-- Unless it is shut the disk runs, the area stands on it with these records, and nothing is pending. A crash leaves them,
-- or the others.
pub record Keeps (ps : List (List ℕ)) (t : Option Torn) (a : Area) (shut stopped : Bool) (line : Timeline) : Type 0 where
  pub fits : a.base + a.len + 1 < 2 ^ 64
  pub settled : shut ≡ false → Stands ps a (content line.now)
  pub synced : shut ≡ false → line.now.changes ≡ []
  pub whole : shut ≡ false → t ≡ None
  pub running : shut ≡ false → stopped ≡ false
  pub left : Leaves line.now (λ bytes. EitherOf ps (left_of ps t) (records_of bytes))

-- It keeps its records, so many.
pub record IsKept (count : ℕ) (t : Option Torn) (a : Area) (shut stopped : Bool) (line : Timeline) : Type 0 where
  pub counted : length (records_in count t (content line.now)) ≡ count
  pub keeps : Keeps (records_in count t (content line.now)) t a shut stopped line
