-- What the bytes of a journal over two areas stand for.
use Rattle.std.specs.Prelude.{ℕ, ◌&&◌, ◌==◌, nat_lt, Bool, if◌then◌else◌, List, [], length, take, drop, slice_index}
use Rattle.journal_core.specs.Records.{number}
use Rattle.journal_core.specs.Records as area

-- byte 1 selects the second slot
abbrev pub second_selected : List ℕ → Bool
second_selected bytes = slice_index bytes 1 == 1

-- where a slot stands
abbrev pub slot_at : Bool → ℕ
slot_at second = if second then 10 else 2

-- the base in a slot: where an area begins
abbrev pub base_in : Bool → List ℕ → ℕ
base_in second bytes = number (take 8 (drop (slot_at second) bytes))

-- the base of the selected area
abbrev pub base_of : List ℕ → ℕ
base_of bytes = base_in (second_selected bytes) bytes

-- byte 0 says so, and the selected area begins behind the 18 bytes of the header, inside the disk
unfoldable pub is_ready : List ℕ → Bool
is_ready bytes = (slice_index bytes 0 == 1) && (nat_lt 17 (base_of bytes) && nat_lt (base_of bytes) (length bytes))

-- The records: those of the journal that the selected area is, where the bytes are ready.
unfoldable pub records_of : List ℕ → List (List ℕ)
records_of bytes = if is_ready bytes then area.records_of (drop (base_of bytes) bytes) else []
