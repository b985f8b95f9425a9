-- How a command is spelled in bytes: its tag (1 byte), and its arguments.
--   1 put: key, value     2 del: key     3 cas: key, old value, new value     4 add: key, amount
-- A key is its length (1 byte) and its bytes, each from 33 to 126; a value is its length (2 bytes) and its bytes;
-- an amount is 8 bytes in two's complement. Numbers are big endian.
use Rattle.std.specs.Prelude.{◌≡◌, ℕ, ◌+◌, ◌<◌, ◌≤◌, ◌^◌, ◌∷◌, ◌++◌, length, Option, MatchOption, FitsSigned}
use Rattle.std.specs.List.{AllByRecursion}
use Rattle.std.specs.Int.{to_be_bytes, cast_unsigned, w16, w64}
use Rattle.delos_types.specs.Spaces.{Text}
use Rattle.table_core.specs.declared.command.Command.{Command}
use Rattle.table_core.specs.declared.command.Command.TheVariants.{Put, Del, Cas, Add}

abbrev pub key_text : Text → Text
key_text key = length key ∷ key

abbrev pub value_text : Text → Text
value_text value = to_be_bytes w16 (length value) ++ value

-- the bytes of a command
abbrev pub command_text : Command → Text
command_text (Put key value) = 1 ∷ (key_text key ++ value_text value)
command_text (Del key) = 2 ∷ key_text key
command_text (Cas key old new) = 3 ∷ (key_text key ++ (value_text old ++ value_text new))
command_text (Add key amount) = 4 ∷ (key_text key ++ to_be_bytes w64 (cast_unsigned w64 amount))

-- how many bytes those are
abbrev pub command_length : Command → ℕ
command_length (Put key value) = 4 + length key + length value
command_length (Del key) = 2 + length key
command_length (Cas key old new) = 6 + length key + length old + length new
command_length (Add key amount) = 10 + length key

-- each byte of a key can be printed, and is no blank
abbrev pub IsKey : Text → Type 0
IsKey key = (length key < 256) × AllByRecursion (λ b. (33 ≤ b) × (b ≤ 126)) key

abbrev pub IsValue : Text → Type 0
IsValue value = length value < 2 ^ 16

-- some bytes spell the command
abbrev pub IsSpellable : Command → Type 0
IsSpellable (Put key value) = IsKey key × IsValue value
IsSpellable (Del key) = IsKey key
IsSpellable (Cas key old new) = IsKey key × IsValue old × IsValue new
IsSpellable (Add key amount) = IsKey key × FitsSigned w64 amount

-- the bytes spell the command
pub record Spells (bytes : Text) (c : Command) : Type 0 where
  pub text : bytes ≡ command_text c
  pub spellable : IsSpellable c

-- what was read is the command that the bytes spell, and none where they spell none
abbrev pub Reads : Text → Option Command → Type 0
Reads bytes read = MatchOption read ((c : Command) → Spells bytes c → ⊥) (Spells bytes)
