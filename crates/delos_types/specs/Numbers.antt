-- Numbers in bytes: two, four or eight of them, the highest first. Texts behind their length.
use Rattle.std.specs.Prelude.{◌≡◌, ◌≤◌, ◌<◌, ℕ, List, ◌++◌, length, take, drop, slice_index}
use Rattle.std.specs.Int.{w16, w32, w64, to_be_bytes, from_be_bytes}

-- the bytes of a number below 2^16
unfoldable pub u16_bytes : ℕ → List ℕ
u16_bytes n = to_be_bytes w16 n

-- the bytes of a number below 2^32
unfoldable pub u32_bytes : ℕ → List ℕ
u32_bytes n = to_be_bytes w32 n

-- the bytes of a number below 2^64
unfoldable pub u64_bytes : ℕ → List ℕ
u64_bytes n = to_be_bytes w64 n

-- the number that two bytes spell
unfoldable pub u16_of : List ℕ → ℕ
u16_of bytes = from_be_bytes w16 bytes

-- the number that four bytes spell
unfoldable pub u32_of : List ℕ → ℕ
u32_of bytes = from_be_bytes w32 bytes

-- the number that eight bytes spell
unfoldable pub u64_of : List ℕ → ℕ
u64_of bytes = from_be_bytes w64 bytes

-- two bytes of length, and so many bytes
abbrev pub short_text : List ℕ → List ℕ
short_text text = u16_bytes (length text) ++ text

-- four bytes of length, and so many bytes
abbrev pub long_text : List ℕ → List ℕ
long_text text = u32_bytes (length text) ++ text

-- each number of the list is a byte
abbrev pub IsBytes : List ℕ → Type 0
IsBytes bytes = (i : ℕ) → slice_index bytes i < 256

-- the first so many bytes spell the number, and the rest stands after them
pub record Splits (len : ℕ) (number_of : List ℕ → ℕ) (bytes : List ℕ) (number : ℕ) (rest : List ℕ) : Type 0 where
  pub long : len ≤ length bytes
  pub value : number ≡ number_of (take len bytes)
  pub after : rest ≡ drop len bytes
