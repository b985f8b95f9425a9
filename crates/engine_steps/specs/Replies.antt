-- Replies in bytes: 1 done; 2 absent; 3 another value, its length (2 bytes) and its bytes; 4 a number (8 bytes in two's
-- complement); 5 full; 6 no number. A payload that spells no command has the reply of no bytes.
use Rattle.std.specs.Prelude.{◌%◌, [], ◌∷◌, ◌++◌, length, Option, Some, None}
use Rattle.std.specs.Int.{to_be_bytes, cast_unsigned, w64}
use Rattle.delos_types.specs.Numbers.{u16_bytes}
use Rattle.delos_types.specs.Spaces.{Text}
use Rattle.table_core.specs.declared.command.Reply.{Reply}
use Rattle.table_core.specs.declared.command.Reply.TheVariants.{Done, Absent, Was, Number, Full, NotNumber}

abbrev pub reply_bytes : Reply → Text
reply_bytes Done = 1 ∷ []
reply_bytes Absent = 2 ∷ []
reply_bytes (Was value) = 3 ∷ (u16_bytes (length value % 65536) ++ value)
reply_bytes (Number n) = 4 ∷ to_be_bytes w64 (cast_unsigned w64 n)
reply_bytes Full = 5 ∷ []
reply_bytes NotNumber = 6 ∷ []

abbrev pub reply_text : Option Reply → Text
reply_text None = []
reply_text (Some reply) = reply_bytes reply
