-- The reply that some bytes spell, read from the front: first its tag, then what stands behind it.
use Rattle.std.specs.Prelude.{ℕ, ◌%◌, ◌==◌, if◌then◌else◌, [], ◌∷◌, length, Option, Some, None}
use Rattle.std.specs.Int.{from_be_bytes, cast_signed, w16, w64}
use Rattle.delos_types.specs.Spaces.{Text}
use Rattle.table_core.specs.declared.command.Reply.{Reply}
use Rattle.table_core.specs.declared.command.Reply.TheVariants.{Done, Absent, Was, Number, Full, NotNumber}

-- the reply, where nothing stands behind its tag
abbrev pub if_whole : Reply → Text → Option Reply
if_whole reply [] = Some reply
if_whole reply (b ∷ bs) = None

abbrev pub was_of : Text → Option Reply
was_of [] = None
was_of (a ∷ []) = None
was_of (a ∷ b ∷ value) = if from_be_bytes w16 (a ∷ b ∷ []) == (length value % 65536) then Some (Was value) else None

abbrev pub number_of : Text → Option Reply
number_of bytes = if length bytes == 8 then Some (Number (cast_signed w64 (from_be_bytes w64 bytes))) else None

-- the reply of this tag whose other bytes these are
abbrev pub reply_with : ℕ → Text → Option Reply
reply_with tag bytes =
    if tag == 1 then if_whole Done bytes
    else if tag == 2 then if_whole Absent bytes
    else if tag == 3 then was_of bytes
    else if tag == 4 then number_of bytes
    else if tag == 5 then if_whole Full bytes
    else if tag == 6 then if_whole NotNumber bytes
    else None
