-- What the bytes of a journal stand for.
use Rattle.std.specs.Prelude.{ℕ, zero, suc, ◌+◌, ◌&&◌, ◌==◌, nat_lt, if◌then◌else◌, Option, Some, None, List, [], ◌∷◌, length, take, drop, slice_index, Vec, map}
use Rattle.std.specs.declared.alloc.Global.{Global}
use Rattle.std.specs.Int.{w64, from_be_bytes}

-- the number that eight bytes spell, the greatest first
unfoldable pub number : List ℕ → ℕ
number bytes = from_be_bytes w64 bytes

-- the payload's length, behind the gate
abbrev pub size : List ℕ → ℕ
size bytes = number (take 8 (drop 1 bytes))

-- The payload of the record at the front. There is one where the gate is open, and the record and the next gate
-- lie whole in the bytes.
abbrev pub first_record : List ℕ → Option (List ℕ)
first_record bytes = if (slice_index bytes 0 == 1) && nat_lt (9 + size bytes) (length bytes) then Some (take (size bytes) (drop 9 bytes)) else None

-- at most so many records from the front on
abbrev pub records_within : ℕ → List ℕ → List (List ℕ)
records_within zero bytes = []
records_within (suc n) bytes = elim (first_record bytes) [ None ↦ [] | Some payload ↦ payload ∷ records_within n (drop (9 + length payload) bytes) ]

-- The records: the payloads behind open gates, up to the first gate that counts as closed.
abbrev pub records_of : List ℕ → List (List ℕ)
records_of bytes = records_within (length bytes) bytes

-- the bytes of each
abbrev pub payloads : List (Vec ℕ Global) → List (List ℕ)
payloads vs = map (λ (v : Vec ℕ Global). v.items) vs
