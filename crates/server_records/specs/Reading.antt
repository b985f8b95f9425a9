-- The record that some bytes spell, read from the front.
use Rattle.std.specs.Prelude.{ℕ, ◌==◌, ◌&&◌, nat_lt, nat_le, if◌then◌else◌, List, [], ◌∷◌, length, take, drop, Option, Some, None, option_map}
use Rattle.std.specs.Result.{result_ok}
use Rattle.delos_types.specs.Numbers.{u64_of}
use Rattle.entry_codec.specs.Reading.{entry_read}
use Rattle.server_records.specs.declared.record.Record.{Record}
use Rattle.server_records.specs.declared.record.Record.TheVariants.{Stored, Sealed, Trimmed, Compacted}

-- the number that the first eight bytes spell, and what stands behind them
abbrev pub split_position : List ℕ → Option (ℕ × List ℕ)
split_position bytes = if nat_lt (length bytes) 8 then None else Some (u64_of (take 8 bytes), drop 8 bytes)

abbrev pub stored_by : Option (ℕ × List ℕ) → Option Record
stored_by None = None
stored_by (Some p) = if nat_lt p.0 4294967296 then option_map (Stored p.0) (result_ok (entry_read p.1)) else None

abbrev pub sealed_by : List ℕ → Option Record
sealed_by [] = Some Sealed
sealed_by (b ∷ bs) = None

-- a number that is at most 2^32, and behind which nothing stands
abbrev pub last_position : Option (ℕ × List ℕ) → Option ℕ
last_position None = None
last_position (Some p) = if nat_le p.0 4294967296 && (length p.1 == 0) then Some p.0 else None

abbrev pub trimmed_by : Option (ℕ × List ℕ) → Option Record
trimmed_by split = option_map Trimmed (last_position split)

-- the length at which a server is sealed, of this flag and this number: 1 says that it is, and 0 with the number 0 that it isn't
abbrev pub flagged : ℕ → Option ℕ → Option (Option ℕ)
flagged flag None = None
flagged flag (Some n) = if flag == 1 then Some (Some n) else if (flag == 0) && (n == 0) then Some None else None

abbrev pub seal_by : List ℕ → Option (Option ℕ)
seal_by [] = None
seal_by (flag ∷ bytes) = flagged flag (last_position (split_position bytes))

abbrev pub compacted_by : Option (ℕ × List ℕ) → Option Record
compacted_by None = None
compacted_by (Some p) = if nat_le p.0 4294967296 then option_map (Compacted p.0) (seal_by p.1) else None

-- the record of this tag, whose other bytes these are
abbrev pub record_with : ℕ → List ℕ → Option Record
record_with tag bytes =
    if tag == 1 then stored_by (split_position bytes)
    else if tag == 2 then sealed_by bytes
    else if tag == 3 then trimmed_by (split_position bytes)
    else if tag == 4 then compacted_by (split_position bytes)
    else None

-- the record that the bytes spell, if they spell one
unfoldable pub record_of : List ℕ → Option Record
record_of [] = None
record_of (tag ∷ bytes) = record_with tag bytes
