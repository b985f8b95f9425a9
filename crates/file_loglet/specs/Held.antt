-- The server of a file loglet: what the records of its journal spell, and its disk.
use Rattle.std.specs.Prelude.{◌≡◌, ◌⊎◌, ℕ, ◌^◌, ◌≤◌, ◌<◌, Bool, true, false, not, Option, Some, None, option_map, unwrap_or, List, Result, Ok, Err}
use Rattle.std.specs.declared.alloc.AllocError.{AllocError}
use Rattle.disk_model.specs.Disk.{DiskView, bumped}
use Rattle.disk_model.specs.Armed.{Spends, TakesRecord}
use Rattle.journal_core.specs.Journal.{View, Survives}
use Rattle.journal_core.specs.declared.fault.Fault.{Fault}
use Rattle.journal_core.specs.declared.fault.Fault.TheVariants.{Disk, Memory}
use Rattle.quorum_cell.specs.declared.message.Ask.{Ask}
use Rattle.quorum_cell.specs.declared.message.Ask.TheVariants.{Store, Seal, Tail, Trim}
use Rattle.quorum_cell.specs.Servers.{Server, length_of, writes, wrote, restarted}
use Rattle.server_records.specs.declared.record.Record.{Record}
use Rattle.server_records.specs.declared.record.Record.TheVariants.{Stored, Sealed, Trimmed, Compacted}
use Rattle.server_records.specs.Reading.{record_of}
use Rattle.server_records.specs.Spelled.{empty_server, server_of}
use Rattle.file_loglet.specs.declared.extent.Change.{Change}
use Rattle.file_loglet.specs.declared.extent.Change.TheVariants.{Storing, Sealing, Trimming}
use Rattle.file_loglet.specs.declared.extent.Extent.{Extent}
use Rattle.file_loglet.specs.Extents.{extent_of}

-- A server that is up holds what its records spell. One that is down stopped inside a write, which a restart finds done
-- or not.
pub record Held : Type 0 where
  pub server : Server
  pub disk : DiskView

-- the request for which a record is written; for what a compaction begins with there is none
abbrev pub ask_by : Option Record → Ask
ask_by None = Tail
ask_by (Some (Stored p e)) = Store p e
ask_by (Some Sealed) = Seal
ask_by (Some (Trimmed n)) = Trim n
ask_by (Some (Compacted base sealed_at)) = Tail

abbrev pub ask_of : List ℕ → Ask
ask_of bytes = ask_by (record_of bytes)

-- the server that the records spell
abbrev pub spelled : List (List ℕ) → Server
spelled records = unwrap_or (server_of records) empty_server

abbrev pub held_by : View → Held
held_by j = record { server = record (spelled j.records) { up = not j.shut; torn = option_map ask_of j.torn }; disk = j.disk }

-- the request changes the server in this way
abbrev pub Changes : Server → Ask → Change → Type 0
Changes s (Store p e) Storing = length_of s < 2 ^ 32
Changes s Seal Sealing = Unit {0}
Changes s (Trim n) (Trimming m) = (n ≡ m) × (n ≤ length_of s)
Changes s ask change = ⊥

-- the record in whose write the disk failed, and the change that it is
abbrev pub Tears : Server → Option (List ℕ) → Option Change → Type 0
Tears s None None = Unit {0}
Tears s (Some bytes) (Some change) = (writes s (ask_of bytes) ≡ true) × Changes s (ask_of bytes) change
Tears s _ _ = ⊥

-- what is kept in memory beside the journal
pub record IsHeldBy (j : View) (extent : Extent) (torn : Option Change) : Type 0 where
  pub is : server_of j.records ≡ Some (spelled j.records)
  pub alone : ((spelled j.records).up ≡ true) × ((spelled j.records).torn ≡ None)
  pub extent_is : extent ≡ extent_of (spelled j.records)
  pub small : extent.length ≤ 2 ^ 32
  pub tears : Tears (spelled j.records) j.torn torn
  pub survives : Survives j

-- nothing failed on the disk, and it wasn't reopened
pub record IsCalm (old new : DiskView) : Type 0 where
  pub faults : new.faults ≡ old.faults
  pub word : new.word ≡ old.word

-- it failed once, and wasn't reopened
pub record Fails (old new : DiskView) : Type 0 where
  pub faults : new.faults ≡ bumped old.faults
  pub word : new.word ≡ old.word

-- A server that is up writes a record for this request: two writes of its disk. Where that fails it is down, and without
-- memory one of them may have been made.
abbrev pub Writes : {U : Type 0} → Held → Ask → Result U Fault → Held → Type 0
Writes old ask (Ok u) new = (new.server ≡ wrote old.server ask) × IsCalm old.disk new.disk × TakesRecord 0 old.disk.armed new.disk.armed
Writes old ask (Err Disk) new = (new.server ≡ record old.server { up = false; torn = Some ask }) × Fails old.disk new.disk
Writes old ask (Err Memory) new = (new.server ≡ old.server) × IsCalm old.disk new.disk × Spends 1 old.disk.armed new.disk.armed

-- a server that was down came up, its disk reopened by this word, with its torn write done or not, and no write of its disk is to stop
pub record ComesUp (word : ℕ) (old new : Held) : Type 0 where
  pub was : old.server.up ≡ false
  pub kept : Bool
  pub server : new.server ≡ restarted old.server kept old.server.torn
  pub faults : new.disk.faults ≡ old.disk.faults
  pub disarmed : new.disk.armed ≡ 0
  pub reopened : new.disk.word ≡ word

-- a server that was down stays so, for want of memory, its disk reopened by this word
pub record IsReopened (word : ℕ) (old new : Held) : Type 0 where
  pub was : old.server.up ≡ false
  pub server : new.server ≡ old.server
  pub faults : new.disk.faults ≡ old.disk.faults
  pub reopened : new.disk.word ≡ word

-- a server that was down stays so: its disk failed once, as it was reopened by this word or after
pub record StaysDown (word : ℕ) (old new : Held) : Type 0 where
  pub was : old.server.up ≡ false
  pub server : new.server ≡ old.server
  pub faults : new.disk.faults ≡ bumped old.disk.faults
  pub tried : (new.disk.word ≡ word) ⊎ (new.disk.word ≡ old.disk.word)

-- a restart by this word of a server that is down
abbrev pub Restores : {U : Type 0} → ℕ → Held → Result U Fault → Held → Type 0
Restores word old (Ok u) new = ComesUp word old new
Restores word old (Err Disk) new = StaysDown word old new
Restores word old (Err Memory) new = IsReopened word old new

-- A restart by this word: one that is up stays as it is. One that is down comes up; or its disk failed, or memory was wanting.
abbrev pub Brings : ℕ → Held → Result Bool AllocError → Held → Type 0
Brings word old (Ok true) new = ((old.server.up ≡ true) × (new ≡ old)) ⊎ ComesUp word old new
Brings word old (Ok false) new = StaysDown word old new
Brings word old (Err u) new = IsReopened word old new
