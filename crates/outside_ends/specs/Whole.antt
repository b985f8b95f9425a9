-- Reading up to a limit, and putting a whole text.
use Rattle.std.specs.Prelude.{◌≡◌, ◌≤◌, ◌<◌, ℕ, Bool, true, false, List, ◌++◌, Option, Some, None, Result, Ok, Err, length, take}
use Rattle.outside_ends.specs.declared.whole.ReadError.{ReadError}
use Rattle.outside_ends.specs.declared.whole.ReadError.TheVariants.{Failed}
use Rattle.outside_ends.specs.Sources.{Leaves, LeavesBehind, IsAtEnd}
use Rattle.outside_ends.specs.Sinks.{Gains}

-- reading failed at the source, and not for want of memory
abbrev pub is_source_fault : {T : Type 0} → Result T ReadError → Bool
is_source_fault (Err Failed) = true
is_source_fault _ = false

abbrev pub is_error : {T E : Type 0} → Result T E → Bool
is_error (Ok _) = false
is_error (Err _) = true

-- what one call adds: at least a byte, and no more than there is room for
pub record Adds (room : ℕ) (before after : Option (List ℕ)) (old new : List ℕ) : Type 0 where
  pub chunk : List ℕ
  pub some : 1 ≤ length chunk
  pub most : length chunk ≤ room
  pub added : new ≡ old ++ chunk
  pub off : Leaves before after chunk

-- one call adds bytes, or finds the end
abbrev pub Steps : Bool → ℕ → Option (List ℕ) → Option (List ℕ) → List ℕ → List ℕ → Type 0
Steps true room before after old new = Adds room before after old new
Steps false room before after old new = (new ≡ old) × IsAtEnd before after

-- the bytes are the front of what was left, and all of it where they are fewer than the limit
pub record IsFront (limit : ℕ) (before : List ℕ) (after : Option (List ℕ)) (bytes : List ℕ) : Type 0 where
  pub front : LeavesBehind before after bytes
  pub all : length bytes < limit → before ≡ bytes

abbrev pub ReadsUpTo : ℕ → Option (List ℕ) → Option (List ℕ) → List ℕ → Type 0
ReadsUpTo limit None after bytes = after ≡ None
ReadsUpTo limit (Some before) after bytes = IsFront limit before after bytes

-- some bytes came off what was left, where that is told
abbrev pub LosesFront : Option (List ℕ) → Option (List ℕ) → Type 0
LosesFront before after = (bytes : List ℕ) × Leaves before after bytes

-- a front of the text was put
abbrev pub GainsFront : Option (List ℕ) → Option (List ℕ) → List ℕ → Type 0
GainsFront before after text = (n : ℕ) × (n ≤ length text) × Gains before after (take n text)
