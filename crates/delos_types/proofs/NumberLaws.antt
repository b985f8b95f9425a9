-- A number of two, four or eight bytes and its bytes are one to one.
use Rattle.std.proofs.Common.{◌≡◌, ℕ, ◌<◌, ◌^◌, List, length, refl, sym, ap, ◌∙◌, arith}
use Rattle.std.proofs.lemmas.Nat.{be_bytes_2, be_bytes_4, be_bytes_8, from_be_bytes-to_be_bytes_2, from_be_bytes-to_be_bytes_4, from_be_bytes-to_be_bytes_8}
use Rattle.delos_types.specs.Numbers.{IsBytes, u16_bytes, u32_bytes, u64_bytes, u16_of, u32_of, u64_of}

-- two bytes

pub length-u16_bytes : (n : ℕ) → length (u16_bytes n) ≡ 2
unfolding u16_bytes
length-u16_bytes n = refl

pub u16_of-u16_bytes : (n : ℕ) → n < 2 ^ 16 → u16_of (u16_bytes n) ≡ n
unfolding u16_bytes u16_of
u16_of-u16_bytes n lt = from_be_bytes-to_be_bytes_2 n lt

pub u16_bytes-u16_of : (bytes : List ℕ) → length bytes ≡ 2 → IsBytes bytes → u16_bytes (u16_of bytes) ≡ bytes
unfolding u16_bytes u16_of
u16_bytes-u16_of bytes len fits = be_bytes_2 bytes _ len fits refl

pub u16_of-below : (bytes : List ℕ) → IsBytes bytes → u16_of bytes < 2 ^ 16
unfolding u16_of
u16_of-below bytes fits = omega (arith, fits 0, fits 1)

pub u16_bytes-same : (m n : ℕ) → m < 2 ^ 16 → n < 2 ^ 16 → u16_bytes m ≡ u16_bytes n → m ≡ n
u16_bytes-same m n lt lt' e = sym (u16_of-u16_bytes m lt) ∙ ap u16_of e ∙ u16_of-u16_bytes n lt'

-- four bytes

pub length-u32_bytes : (n : ℕ) → length (u32_bytes n) ≡ 4
unfolding u32_bytes
length-u32_bytes n = refl

pub u32_of-u32_bytes : (n : ℕ) → n < 2 ^ 32 → u32_of (u32_bytes n) ≡ n
unfolding u32_bytes u32_of
u32_of-u32_bytes n lt = from_be_bytes-to_be_bytes_4 n lt

pub u32_bytes-u32_of : (bytes : List ℕ) → length bytes ≡ 4 → IsBytes bytes → u32_bytes (u32_of bytes) ≡ bytes
unfolding u32_bytes u32_of
u32_bytes-u32_of bytes len fits = be_bytes_4 bytes _ len fits refl

pub u32_of-below : (bytes : List ℕ) → IsBytes bytes → u32_of bytes < 2 ^ 32
unfolding u32_of
u32_of-below bytes fits = omega (arith, fits 0, fits 1, fits 2, fits 3)

pub u32_bytes-same : (m n : ℕ) → m < 2 ^ 32 → n < 2 ^ 32 → u32_bytes m ≡ u32_bytes n → m ≡ n
u32_bytes-same m n lt lt' e = sym (u32_of-u32_bytes m lt) ∙ ap u32_of e ∙ u32_of-u32_bytes n lt'

-- eight bytes

pub length-u64_bytes : (n : ℕ) → length (u64_bytes n) ≡ 8
unfolding u64_bytes
length-u64_bytes n = refl

pub u64_of-u64_bytes : (n : ℕ) → n < 2 ^ 64 → u64_of (u64_bytes n) ≡ n
unfolding u64_bytes u64_of
u64_of-u64_bytes n lt = from_be_bytes-to_be_bytes_8 n lt

pub u64_bytes-u64_of : (bytes : List ℕ) → length bytes ≡ 8 → IsBytes bytes → u64_bytes (u64_of bytes) ≡ bytes
unfolding u64_bytes u64_of
u64_bytes-u64_of bytes len fits = be_bytes_8 bytes _ len fits refl

pub u64_of-below : (bytes : List ℕ) → IsBytes bytes → u64_of bytes < 2 ^ 64
unfolding u64_of
u64_of-below bytes fits = omega (arith, fits 0, fits 1, fits 2, fits 3, fits 4, fits 5, fits 6, fits 7)

pub u64_bytes-same : (m n : ℕ) → m < 2 ^ 64 → n < 2 ^ 64 → u64_bytes m ≡ u64_bytes n → m ≡ n
u64_bytes-same m n lt lt' e = sym (u64_of-u64_bytes m lt) ∙ ap u64_of e ∙ u64_of-u64_bytes n lt'
