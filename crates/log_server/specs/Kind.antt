-- How a journal keeps a log server.
use Rattle.std.specs.Prelude.{◌≡◌, ℕ, ◌^◌, ◌<◌, ◌≤◌, nat_lt, Bool, true, false, List, Option, None, All}
use Rattle.std.specs.Option.{ForSome}
use Rattle.delos_types.specs.declared.entry.Entry.{Entry}
use Rattle.delos_types.specs.Spelling.{IsSpellable}
use Rattle.quorum_cell.specs.declared.message.Ask.{Ask}
use Rattle.quorum_cell.specs.declared.message.Ask.TheVariants.{Store, Seal, Tail, Repair, Read, Trim}
use Rattle.quorum_cell.specs.Servers.{Server, length_of, writes, wrote}
use Rattle.server_records.specs.declared.record.Record.TheVariants.{Stored, Sealed, Trimmed}
use Rattle.server_records.specs.Format.{SpellsRecord}
use Rattle.server_records.specs.Spelled.{server_of}
use Rattle.kept_value.specs.View.{Kind}

-- some bytes spell the record that a server may write before it answers this
abbrev pub CanSpell : Ask → Type 0
CanSpell (Store p e) = (p < 2 ^ 32) × IsSpellable e
CanSpell Seal = Unit {0}
CanSpell Tail = ⊥
CanSpell (Repair p e) = (p < 2 ^ 32) × IsSpellable e
CanSpell (Read p) = ⊥
CanSpell (Trim n) = n ≤ 2 ^ 32

-- they are its bytes
abbrev pub SpellsChange : Ask → List ℕ → Type 0
SpellsChange (Store p e) bytes = SpellsRecord bytes (Stored p e)
SpellsChange Seal bytes = SpellsRecord bytes Sealed
SpellsChange Tail bytes = ⊥
SpellsChange (Repair p e) bytes = SpellsRecord bytes (Stored p e)
SpellsChange (Read p) bytes = ⊥
SpellsChange (Trim n) bytes = SpellsRecord bytes (Trimmed n)

-- the server writes before it answers this, and some bytes spell the record
pub record CanWrite (s : Server) (ask : Ask) : Type 0 where
  pub wanted : writes s ask ≡ true
  pub small : length_of (wrote s ask) ≤ 2 ^ 32
  pub spellable : CanSpell ask

-- a journal of so many records is compacted after it: only a trim lets go of anything
abbrev pub compacts_after : Ask → ℕ → Bool
compacts_after (Store p e) records = false
compacts_after Seal records = false
compacts_after Tail records = false
compacts_after (Repair p e) records = false
compacts_after (Read p) records = false
compacts_after (Trim n) records = nat_lt 64 records

abbrev pub server_kind : Kind Ask
server_kind = record { State = Server; spelled = server_of; CanChange = CanWrite; changed = wrote; compacts = compacts_after }

-- a server that is up, and holds these entries from the base on
abbrev pub server_at : ℕ → Option ℕ → List Entry → Server
server_at base sealed_at entries = record { base = base; entries = entries; sealed_at = sealed_at; up = true; torn = None }

-- some bytes spell all that it holds
pub record IsSound (s : Server) : Type 0 where
  pub small : length_of s ≤ 2 ^ 32
  pub sealed : ForSome s.sealed_at (λ n. n ≤ 2 ^ 32)
  pub entries : All IsSpellable s.entries
