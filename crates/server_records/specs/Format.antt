-- How the records of a log server are spelled in bytes. Numbers have eight bytes, the highest first.
-- An entry at a position: 1, position, the entry's bytes. A seal: 2. A trim: 3, position. What a compaction begins with: 4, the
-- base, 1 and the length at which it is sealed; or 4, the base, 0 and the number 0.
use Rattle.std.specs.Prelude.{◌≡◌, ℕ, ◌^◌, ◌<◌, ◌≤◌, List, [], ◌∷◌, ◌++◌, Option, Some, None}
use Rattle.std.specs.Option.{ForSome}
use Rattle.delos_types.specs.Numbers.{u64_bytes}
use Rattle.delos_types.specs.Spelling.{IsSpellable}
use Rattle.entry_codec.specs.Format.{entry_bytes}
use Rattle.server_records.specs.declared.record.Record.{Record}
use Rattle.server_records.specs.declared.record.Record.TheVariants.{Stored, Sealed, Trimmed, Compacted}

abbrev pub seal_bytes : Option ℕ → List ℕ
seal_bytes None = 0 ∷ u64_bytes 0
seal_bytes (Some n) = 1 ∷ u64_bytes n

abbrev pub record_bytes : Record → List ℕ
record_bytes (Stored p e) = 1 ∷ (u64_bytes p ++ entry_bytes e)
record_bytes Sealed = 2 ∷ []
record_bytes (Trimmed n) = 3 ∷ u64_bytes n
record_bytes (Compacted base sealed_at) = 4 ∷ (u64_bytes base ++ seal_bytes sealed_at)

-- some bytes spell it
abbrev pub IsSpellableRecord : Record → Type 0
IsSpellableRecord (Stored p e) = (p < 2 ^ 32) × IsSpellable e
IsSpellableRecord Sealed = Unit {0}
IsSpellableRecord (Trimmed n) = n ≤ 2 ^ 32
IsSpellableRecord (Compacted base sealed_at) = (base ≤ 2 ^ 32) × ForSome sealed_at (λ n. n ≤ 2 ^ 32)

-- the bytes are the record's
abbrev pub SpellsRecord : List ℕ → Record → Type 0
SpellsRecord bytes r = (bytes ≡ record_bytes r) × IsSpellableRecord r
