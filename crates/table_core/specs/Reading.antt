-- The command that some bytes spell, read from the front.
use Rattle.std.specs.Prelude.{ℕ, ◌&&◌, Bool, nat_le, ◌==◌, if◌then◌else◌, [], ◌∷◌, take, drop, length, Option, Some, None}
use Rattle.std.specs.List.{list_all}
use Rattle.std.specs.Int.{from_be_bytes, cast_signed, w16, w64}
use Rattle.delos_types.specs.Spaces.{Text}
use Rattle.table_core.specs.declared.command.Command.{Command}
use Rattle.table_core.specs.declared.command.Command.TheVariants.{Put, Del, Cas, Add}

-- the first n bytes and what stands behind them, where there are so many
abbrev pub split_front : ℕ → Text → Option (Text × Text)
split_front n bytes = if nat_le n (length bytes) then Some (take n bytes, drop n bytes) else None

-- each byte can be printed, and is no blank
abbrev pub is_printable : Text → Bool
is_printable key = list_all (λ b. nat_le 33 b && nat_le b 126) key

abbrev pub printable_front : Option (Text × Text) → Option (Text × Text)
printable_front None = None
printable_front (Some p) = if is_printable p.0 then Some p else None

-- a key at the front, and what stands behind it
abbrev pub split_key : Text → Option (Text × Text)
split_key [] = None
split_key (n ∷ rest) = printable_front (split_front n rest)

-- a value at the front, and what stands behind it
abbrev pub split_value : Text → Option (Text × Text)
split_value [] = None
split_value (a ∷ []) = None
split_value (a ∷ b ∷ rest) = split_front (from_be_bytes w16 (a ∷ b ∷ [])) rest

-- the command, where nothing stands behind it
abbrev pub if_whole : Command → Text → Option Command
if_whole c [] = Some c
if_whole c (b ∷ bs) = None

abbrev pub put_of : Text → Option (Text × Text) → Option Command
put_of key None = None
put_of key (Some p) = if_whole (Put key p.0) p.1

abbrev pub cas_of : Text → Text → Option (Text × Text) → Option Command
cas_of key old None = None
cas_of key old (Some p) = if_whole (Cas key old p.0) p.1

abbrev pub cas_from : Text → Option (Text × Text) → Option Command
cas_from key None = None
cas_from key (Some p) = cas_of key p.0 (split_value p.1)

abbrev pub add_of : Text → Text → Option Command
add_of key bytes = if length bytes == 8 then Some (Add key (cast_signed w64 (from_be_bytes w64 bytes))) else None

-- the command of this tag and key whose other arguments the bytes spell
abbrev pub command_with : ℕ → Text → Text → Option Command
command_with tag key bytes =
    if tag == 1 then put_of key (split_value bytes)
    else if tag == 2 then if_whole (Del key) bytes
    else if tag == 3 then cas_from key (split_value bytes)
    else if tag == 4 then add_of key bytes
    else None

abbrev pub command_from : ℕ → Option (Text × Text) → Option Command
command_from tag None = None
command_from tag (Some p) = command_with tag p.0 p.1

-- the command that the bytes spell, if they spell one
abbrev pub command_of : Text → Option Command
command_of [] = None
command_of (tag ∷ rest) = command_from tag (split_key rest)
