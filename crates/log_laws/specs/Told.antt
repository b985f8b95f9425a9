-- Replies that read back from their texts.
use Rattle.std.specs.Prelude.{◌≡◌, Option, Some, None, FitsSigned}
use Rattle.std.specs.Int.{w64}
use Rattle.delos_types.specs.Spaces.{Text}
use Rattle.table_core.specs.declared.command.Reply.{Reply}
use Rattle.table_core.specs.declared.command.Reply.TheVariants.{Done, Absent, Was, Number, Full, NotNumber}
use Rattle.engine_steps.specs.Replies.{reply_text}

-- A number is one of 64 bits with a sign, as its eight bytes are. A value may have any length: its bytes are all that stand
-- behind the two bytes of its length, which are the length's remainder by 65,536.
abbrev pub IsTold : Option Reply → Type 0
IsTold None = Unit {0}
IsTold (Some Done) = Unit {0}
IsTold (Some Absent) = Unit {0}
IsTold (Some (Was value)) = Unit {0}
IsTold (Some (Number n)) = FitsSigned w64 n
IsTold (Some Full) = Unit {0}
IsTold (Some NotNumber) = Unit {0}

-- where a reply was read, the text is its own
abbrev pub IsTextOf : Text → Option Reply → Type 0
IsTextOf text None = Unit {0}
IsTextOf text (Some reply) = IsTold (Some reply) × (text ≡ reply_text (Some reply))
