-- Which log server a list of records spells. A record follows where the server would write it. The first may be what a compaction
-- begins with: the entries from its base on follow.
use Rattle.std.specs.Prelude.{ℕ, not, ◌==◌, nat_lt, Bool, true, false, if◌then◌else◌, List, [], ◌∷◌, fold, Option, Some, None}
use Rattle.quorum_cell.specs.declared.message.Ask.{Ask}
use Rattle.quorum_cell.specs.declared.message.Ask.TheVariants.{Store, Seal, Tail, Repair, Read, Trim}
use Rattle.quorum_cell.specs.Servers.{Server, length_of, is_sealed, wrote}
use Rattle.server_records.specs.declared.record.Record.{Record}
use Rattle.server_records.specs.declared.record.Record.TheVariants.{Stored, Sealed, Trimmed, Compacted}
use Rattle.server_records.specs.Reading.{record_of}

-- the server that wrote nothing yet
abbrev pub empty_server : Server
empty_server = record { base = 0; entries = []; sealed_at = None; up = true; torn = None }

-- a server that holds this may write that record next, its first or a further one
abbrev pub follows : Bool → Server → Record → Bool
follows first s (Stored p e) = p == length_of s
follows first s Sealed = not (is_sealed s)
follows first s (Trimmed n) = nat_lt s.base n
follows first s (Compacted base sealed_at) = first

-- what it holds then
abbrev pub holding : Server → Record → Server
holding s (Stored p e) = wrote s (Store p e)
holding s Sealed = wrote s Seal
holding s (Trimmed n) = wrote s (Trim n)
holding s (Compacted base sealed_at) = record s { base = base; entries = []; sealed_at = sealed_at }

-- what it holds after one more record, its first or a further one, if that is one of a server's and follows
abbrev pub holding_next : Bool → Server → Option Record → Option Server
holding_next first s None = None
holding_next first s (Some r) = if follows first s r then Some (holding s r) else None

abbrev pub server_after : Option Server → List ℕ → Option Server
server_after None bytes = None
server_after (Some s) bytes = holding_next false s (record_of bytes)

-- the server that the records spell, one after another
abbrev pub server_of : List (List ℕ) → Option Server
server_of [] = Some empty_server
server_of (bytes ∷ others) = fold server_after (holding_next true empty_server (record_of bytes)) others

-- the record that a server writes before it answers this, if it writes any
abbrev pub record_for : Ask → Option Record
record_for (Store p e) = Some (Stored p e)
record_for Seal = Some Sealed
record_for Tail = None
record_for (Repair p e) = Some (Stored p e)
record_for (Read p) = None
record_for (Trim n) = Some (Trimmed n)
