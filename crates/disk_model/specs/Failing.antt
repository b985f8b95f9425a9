-- A disk in memory some of whose calls fail.
use Rattle.std.specs.Prelude.{ℕ, ◌+◌, ◌-◌, ◌^◌, min, List, Contains}
use Rattle.disk_model.specs.Disk.{DiskView}

-- The disk inside, the numbers of the calls that fail, how many calls were made, and how many of them failed so. Calls
-- are numbered from 1 on; `len`, `arm`, `stopped` and `faults` aren't counted.
pub record FailView : Type 0 where
  pub disk : DiskView
  pub failing : List ℕ
  pub calls : ℕ
  pub failed : ℕ

-- as callers of a disk see it: the faults of both kinds
abbrev pub shown : FailView → DiskView
shown v = record v.disk { faults = min (2 ^ 64 - 1) (v.disk.faults + v.failed) }

-- the number of the next call
abbrev pub next_call : FailView → ℕ
next_call v = min (2 ^ 64 - 1) (v.calls + 1)

-- the next call fails by its number
abbrev pub IsListed : FailView → Type 0
IsListed v = Contains v.failing (next_call v)

-- a call that failed by its number
abbrev pub refused : FailView → FailView
refused v = record v { calls = next_call v; failed = min (2 ^ 64 - 1) (v.failed + 1) }
