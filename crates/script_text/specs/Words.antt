-- A line's bytes, and its words.
use Rattle.std.specs.Prelude.{◌==◌, ◌&&◌, ℕ, Bool, List, [], Result, Ok, Err, length, nat_lt, nat_le, if◌then◌else◌}
use Rattle.std.specs.List.{slice_split, list_all, list_any}
use Rattle.script_text.specs.declared.line.Rule.{Rule}
use Rattle.script_text.specs.declared.line.Rule.TheVariants.{TooLong, Byte, Spaces}

abbrev pub Word : Type 0
Word = List ℕ

abbrev pub is_empty : Word → Bool
is_empty w = length w == 0

-- a space or a printed character
abbrev pub is_text_byte : ℕ → Bool
is_text_byte b = nat_le 32 b && nat_le b 126

-- words are separated by one space, and an empty line has none
abbrev pub split_words : List ℕ → Result (List Word) Rule
split_words text = let words = slice_split (λ b. b == 32) text in
    if is_empty text then Ok [] else (if list_any is_empty words then Err Spaces else Ok words)

-- the words of a line, or the first of the rules on its bytes that it breaks
abbrev pub words_of : List ℕ → Result (List Word) Rule
words_of text = if nat_lt 512 (length text) then Err TooLong
    else (if list_all is_text_byte text then split_words text else Err Byte)
