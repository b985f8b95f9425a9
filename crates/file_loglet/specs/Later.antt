-- How the server of a file loglet goes on, and what that takes of its disk.
use Rattle.std.specs.Prelude.{◌≡◌, ◌⊎◌, ℕ, ◌+◌, ◌-◌, ◌*◌, nat_lt, if◌then◌else◌, true, false, Result, Ok, Err}
use Rattle.journal_core.specs.declared.fault.Fault.{Fault}
use Rattle.journal_core.specs.declared.fault.Fault.TheVariants.{Disk, Memory}
use Rattle.quorum_cell.specs.Servers.{Server, length_of, is_sealed}
use Rattle.disk_model.specs.Armed.{Spends}
use Rattle.file_loglet.specs.Held.{Held, IsCalm, Fails}

-- how many records were written: of entries, of the seal, of a trim
abbrev pub records_between : Server → Server → ℕ
records_between old new =
    (length_of new - length_of old)
    + ((if is_sealed old then 0 else if is_sealed new then 1 else 0)
    + (if nat_lt old.base new.base then 1 else 0))

-- the two writes of each of so many records were taken of the count of an armed disk, and not the last
pub record TakesRecords (records old new : ℕ) : Type 0 where
  pub taken : new ≡ old - 2 * records
  pub still : nat_lt 0 new ≡ nat_lt 0 old

-- those writes were taken, and with them one at most of a record that wasn't written whole
abbrev pub MaySpend : ℕ → ℕ → ℕ → Type 0
MaySpend records old new = (mid : ℕ) × TakesRecords records old mid × Spends 1 mid new

-- a server that was up went on: where its disk failed it is down
abbrev pub GoesOn : {U : Type 0} → Held → Result U Fault → Held → Type 0
GoesOn old (Ok u) new = (new.server.up ≡ true) × IsCalm old.disk new.disk × TakesRecords (records_between old.server new.server) old.disk.armed new.disk.armed
GoesOn old (Err Disk) new = (new.server.up ≡ false) × Fails old.disk new.disk
GoesOn old (Err Memory) new = (new.server.up ≡ true) × IsCalm old.disk new.disk × MaySpend (records_between old.server new.server) old.disk.armed new.disk.armed × (is_sealed new.server ≡ is_sealed old.server)

-- nothing failed, and the records that were written are counted; or the disk of a server that was up failed, and it is down
abbrev pub Wore : Held → Held → Type 0
Wore old new =
    ((new.server.up ≡ old.server.up) × IsCalm old.disk new.disk × TakesRecords (records_between old.server new.server) old.disk.armed new.disk.armed)
    ⊎ ((old.server.up ≡ true) × (new.server.up ≡ false) × Fails old.disk new.disk)

-- nothing failed, and memory was wanting
abbrev pub Stuck : Held → Held → Type 0
Stuck old new = (new.server.up ≡ old.server.up) × IsCalm old.disk new.disk × MaySpend (records_between old.server new.server) old.disk.armed new.disk.armed

-- what is seen of a call for an operation
abbrev pub Wears : {U E : Type 0} → Held → Result U E → Held → Type 0
Wears old (Ok u) new = Wore old new
Wears old (Err e) new = Stuck old new
