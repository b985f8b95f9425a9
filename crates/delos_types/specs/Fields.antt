-- Reading bytes field by field, from left to right, until the first fault. A field is its value, and the bytes
-- after it. Where the bytes end inside a field, the fault is the first argument.
use Rattle.std.specs.Prelude.{ℕ, List, [], ◌∷◌, ◌==◌, length, take, drop, Result, Ok, Err, nat_lt, if◌then◌else◌}
use Rattle.delos_types.specs.Numbers.{u16_of, u32_of, u64_of}

infixl 10 ◌>>=◌
abbrev pub ◌>>=◌ : {A B E : Type 0} → Result A E → (A → Result B E) → Result B E
(Ok x) >>= f = f x
(Err e) >>= f = Err e

unfoldable pub u8_field : {E : Type 0} → E → List ℕ → Result (ℕ × List ℕ) E
u8_field short [] = Err short
u8_field short (byte ∷ rest) = Ok (byte, rest)

unfoldable pub u16_field : {E : Type 0} → E → List ℕ → Result (ℕ × List ℕ) E
u16_field short bytes = if nat_lt (length bytes) 2 then Err short else Ok (u16_of (take 2 bytes), drop 2 bytes)

unfoldable pub u32_field : {E : Type 0} → E → List ℕ → Result (ℕ × List ℕ) E
u32_field short bytes = if nat_lt (length bytes) 4 then Err short else Ok (u32_of (take 4 bytes), drop 4 bytes)

unfoldable pub u64_field : {E : Type 0} → E → List ℕ → Result (ℕ × List ℕ) E
u64_field short bytes = if nat_lt (length bytes) 8 then Err short else Ok (u64_of (take 8 bytes), drop 8 bytes)

-- so many bytes
unfoldable pub text_field : {E : Type 0} → E → ℕ → List ℕ → Result (List ℕ × List ℕ) E
text_field short len bytes = if nat_lt (length bytes) len then Err short else Ok (take len bytes, drop len bytes)

-- a text behind two bytes of length
unfoldable pub short_text_field : {E : Type 0} → E → List ℕ → Result (List ℕ × List ℕ) E
short_text_field short bytes = do
  len ← u16_field short bytes
  text_field short len.0 len.1

-- a text behind four bytes of length
unfoldable pub long_text_field : {E : Type 0} → E → List ℕ → Result (List ℕ × List ℕ) E
long_text_field short bytes = do
  len ← u32_field short bytes
  text_field short len.0 len.1

-- the value, where nothing is left over
unfoldable pub ended : {A E : Type 0} → E → List ℕ → A → Result A E
ended long rest value = if length rest == 0 then Ok value else Err long
