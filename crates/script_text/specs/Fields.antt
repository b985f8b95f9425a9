-- The words that stand for a value, and the rule that one breaks which stands for none.
use Rattle.std.specs.Prelude.{◌==◌, ◌&&◌, ◌||◌, ◌+◌, ◌-◌, ℕ, Bool, Result, Ok, Err, length, nat_lt, nat_le, if◌then◌else◌, slice_index, ℤ, Option, Some, None}
use Rattle.std.specs.List.{list_all}
use Rattle.table_core.specs.Table.{amount_of}
use Rattle.script_text.specs.declared.line.Rule.{Rule}
use Rattle.script_text.specs.declared.line.Rule.TheVariants.{Node, Session, Number, Key, Value}
use Rattle.script_text.specs.Words.{Word}

-- `n` and the digit of one of so many nodes
abbrev pub is_node : ℕ → Word → Bool
is_node nodes w = length w == 2 && (slice_index w 0 == 110 && (nat_le 49 (slice_index w 1) && nat_le (slice_index w 1) (48 + nodes)))

-- the node that its name names
abbrev pub node_number : Word → ℕ
node_number w = slice_index w 1 - 48

abbrev pub node_of : ℕ → Word → Result ℕ Rule
node_of nodes w = if is_node nodes w then Ok (node_number w) else Err Node

-- a lower-case letter or a digit
abbrev pub is_name_byte : ℕ → Bool
is_name_byte b = (nat_le 97 b && nat_le b 122) || (nat_le 48 b && nat_le b 57)

-- 1 to 16 lower-case letters and digits
abbrev pub is_name : Word → Bool
is_name w = nat_lt 0 (length w) && (nat_le (length w) 16 && list_all is_name_byte w)

abbrev pub name_of : Word → Result Word Rule
name_of w = if is_name w then Ok w else Err Session

abbrev pub number_from : Option ℤ → Result ℤ Rule
number_from (Some z) = Ok z
number_from None = Err Number

-- the i64 whose decimal text the word is
unfoldable pub number_of : Word → Result ℤ Rule
number_of w = number_from (amount_of w)

abbrev pub key_of : Word → Result Word Rule
key_of w = if nat_lt 64 (length w) then Err Key else Ok w

abbrev pub value_of : Word → Result Word Rule
value_of w = if nat_lt 256 (length w) then Err Value else Ok w
