-- The table: a finite map from keys to values, in the order of bytes, and what a command does to it.
use Rattle.std.specs.Prelude.{◌≡◌, ◌^◌, Bool, nat_lt, nat_eq, ◌&&◌, if◌then◌else◌, Option, Some, None, ℤ, pos, negsuc, ◌+ℤ◌}
use Rattle.std.specs.Cmp.Lexicographic.{pointwise}
use Rattle.std.specs.Fmt.{signed_decimal}
use Rattle.std.specs.Str.Parse.{signed_digits_value}
use Rattle.std.specs.FinMap as map
use Rattle.delos_types.specs.Spaces.{Text, text_cmp}
use Rattle.table_core.specs.declared.command.Command.{Command}
use Rattle.table_core.specs.declared.command.Command.TheVariants.{Put, Del, Cas, Add}
use Rattle.table_core.specs.declared.command.Reply.{Reply}
use Rattle.table_core.specs.declared.command.Reply.TheVariants.{Done, Absent, Was, Number, Full, NotNumber}

abbrev pub TableMap : Type 0
TableMap = map.FinMap text_cmp Text

-- the same bytes
abbrev pub same_bytes : Text → Text → Bool
same_bytes = pointwise nat_eq

-- a number of 64 bits with a sign
abbrev pub is_i64 : ℤ → Bool
is_i64 (pos n) = nat_lt n (2 ^ 63)
is_i64 (negsuc n) = nat_lt n (2 ^ 63)

-- the i64 whose decimal text v is, if there is one
abbrev pub amount_of : Text → Option ℤ
amount_of v = let z = signed_digits_value 10 v in if same_bytes v (signed_decimal z) && is_i64 z then Some z else None

-- the key that a command speaks of
abbrev pub key_of : Command → Text
key_of (Put key value) = key
key_of (Del key) = key
key_of (Cas key old new) = key
key_of (Add key amount) = key

-- i is added to n, where v is the text of n
abbrev pub sum_of : Text → ℤ → ℤ → Option Text × Reply
sum_of v n i = if is_i64 (n +ℤ i) then (Some (signed_decimal (n +ℤ i)), Number (n +ℤ i)) else (Some v, Full)

abbrev pub added : Text → Option ℤ → ℤ → Option Text × Reply
added v None i = (Some v, NotNumber)
added v (Some n) i = sum_of v n i

-- the value v is to be `old` and becomes `new`
abbrev pub swapped : Text → Text → Text → Option Text × Reply
swapped v old new = if same_bytes v old then (Some new, Done) else (Some v, Was v)

-- the value at the command's key after it, and the reply, from the value before
abbrev pub outcome : Command → Option Text → Option Text × Reply
outcome (Put key value) before = (Some value, Done)
outcome (Del key) None = (None, Absent)
outcome (Del key) (Some v) = (None, Done)
outcome (Cas key old new) None = (None, Absent)
outcome (Cas key old new) (Some v) = swapped v old new
outcome (Add key amount) None = (Some (signed_decimal amount), Number amount)
outcome (Add key amount) (Some v) = added v (amount_of v) amount

-- the map with this at the key
abbrev pub set_at : TableMap → Text → Option Text → TableMap
set_at m key None = map.remove m key
set_at m key (Some value) = map.insert m key value

-- a command on the table: the table after it, and the reply
abbrev pub act : TableMap → Command → TableMap × Reply
act m c = let o = outcome c (map.get m (key_of c)) in (set_at m (key_of c) o.0, o.1)

-- the command leaves m' and has this reply
abbrev pub Acts : TableMap → Command → Reply → TableMap → Type 0
Acts m c reply m' = (m' ≡ (act m c).0) × (reply ≡ (act m c).1)
