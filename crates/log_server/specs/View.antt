-- A log server as its callers see it, and what a crash leaves of it.
use Rattle.std.specs.Prelude.{◌≡◌, ℕ, Bool, true, List, Some}
use Rattle.disk_model.specs.Disk.{DiskView}
use Rattle.journal_pair.specs.Journal.{LeavesRecords}
use Rattle.quorum_cell.specs.Servers.{Server, restarted}
use Rattle.server_records.specs.Spelled.{server_of}
use Rattle.kept_value.specs.View as kept

-- what it holds, whether it is up, the write inside which it stopped; its disk; whether the record of that write stands, so that
-- each restart finds it done; and how many stops and restarts of it were asked for
pub record View : Type 0 where
  pub server : Server
  pub disk : DiskView
  pub stands : Bool
  pub stops : ℕ
  pub restarts : ℕ

-- the disk counted no fault and wasn't reopened, and is armed or not as it was: at most so many writes were taken of its count
abbrev pub Spares : ℕ → DiskView → DiskView → Type 0
Spares most old new = kept.Spares most old new

-- a record was written to it, with at most so many writes more, and nothing else happened to it
abbrev pub TakesWrite : ℕ → DiskView → DiskView → Type 0
TakesWrite more old new = kept.TakesWrite more old new

-- it was to be reopened by this word, and was, or is as it was reopened before
abbrev pub Tries : ℕ → DiskView → DiskView → Type 0
Tries word old new = kept.Tries word old new

-- these records spell what a restart may find: the server, with the write inside which it stopped or without; with it where its record stands
abbrev pub MayFind : View → List (List ℕ) → Type 0
MayFind v found = (kept : Bool) × (v.stands ≡ true → kept ≡ true) × (server_of found ≡ Some (restarted v.server kept v.server.torn))

-- A crash leaves what a restart may find. While it is up that is just what it holds.
abbrev pub Survives : View → Type 0
Survives v = LeavesRecords v.disk (MayFind v)
