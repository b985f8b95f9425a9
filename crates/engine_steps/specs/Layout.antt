-- What the engines keep in their space, each under its kind: 2 session, 3 view, 4 trim, 5 table. The batch engine keeps nothing there.
use Rattle.std.specs.Prelude.{ℕ, ◌%◌, ◌^◌, Bool, true, false, nat_lt, nat_le, ◌==◌, ◌&&◌, if◌then◌else◌, [], ◌∷◌, ◌++◌, take, drop, length, Option, Some, None, is_some}
use Rattle.std.specs.FinMap as map
use Rattle.delos_types.specs.Numbers.{u16_bytes, u64_bytes, u16_of, u64_of}
use Rattle.delos_types.specs.Spaces.{SpaceMap, Text, least_key_from}
use Rattle.delos_types.specs.declared.place.Place.{Place}
use Rattle.engine_steps.specs.declared.layout.Kept.{Kept}

-- a number in eight bytes, 0 where there is none
abbrev pub number_at : Option Text → ℕ
number_at None = 0
number_at (Some bytes) = if length bytes == 8 then u64_of bytes else 0

-- Sessions, kind 2

-- the last rank of session s that acted
abbrev pub last_key : ℕ → Text
last_key s = 1 ∷ u16_bytes s

abbrev pub last_of : SpaceMap → ℕ → ℕ
last_of m s = number_at (map.get m (2, last_key s))

-- the reply of rank r, in one of 64 slots of its session
abbrev pub reply_key : ℕ → ℕ → Text
reply_key s r = 2 ∷ (u16_bytes s ++ r % 64 ∷ [])

-- a slot: the rank, where it acted, and its reply
abbrev pub slot_text : Place → ℕ → Text → Text
slot_text place r reply = u64_bytes r ++ (u64_bytes place.pos ++ (u16_bytes place.sub ++ reply))

abbrev pub behind_sub : ℕ → Text → Option Kept
behind_sub pos v = if nat_le 2 (length v) then Some (record { place = record { pos = pos; sub = u16_of (take 2 v) }; reply = drop 2 v }) else None

abbrev pub behind_rank : Text → Option Kept
behind_rank v = if nat_le 8 (length v) then behind_sub (u64_of (take 8 v)) (drop 8 v) else None

-- what a slot keeps of rank r
abbrev pub slot_read : ℕ → Option Text → Option Kept
slot_read r None = None
slot_read r (Some v) = if nat_le 8 (length v) && (u64_of (take 8 v) == r) then behind_rank (drop 8 v) else None

-- where rank r of session s acted and what it was answered, while its slot keeps it
abbrev pub reply_of : SpaceMap → ℕ → ℕ → Option Kept
reply_of m s r = slot_read r (map.get m (2, reply_key s r))

-- the number of first entries that were clean as the last entry began whose first item found no rank waiting
abbrev pub clean_key : Text
clean_key = 3 ∷ []

-- the payload of rank r, while it waits for an earlier one
abbrev pub held_key : ℕ → ℕ → Text
held_key s r = 4 ∷ (u16_bytes s ++ u64_bytes r)

abbrev pub held_of : SpaceMap → ℕ → ℕ → Option Text
held_of m s r = if nat_lt r (2 ^ 64) then map.get m (2, held_key s r) else None

-- some rank waits: keys of waiting ranks are the last ones of their kind
abbrev pub is_holding : SpaceMap → Bool
is_holding m = is_some (least_key_from m 2 (4 ∷ []))

-- how many first entries are clean after `cursor` entries
abbrev pub clean_of : SpaceMap → ℕ → ℕ
clean_of m cursor = if is_holding m then number_at (map.get m (2, clean_key)) else cursor

-- Members, kind 3

abbrev pub view_key : ℕ → Text
view_key node = node ∷ []

-- what is kept of a node: the position that it reported, or nothing at all once it has left
abbrev pub view_of : SpaceMap → ℕ → Option Text
view_of m node = map.get m (3, view_key node)

abbrev pub is_left : Option Text → Bool
is_left (Some []) = true
is_left stored = false

abbrev pub has_left_in : SpaceMap → ℕ → Bool
has_left_in m node = is_left (view_of m node)

abbrev pub reported_of : SpaceMap → ℕ → ℕ
reported_of m node = number_at (view_of m node)

-- The trim point, kind 4

abbrev pub trim_key : Text
trim_key = 1 ∷ []

abbrev pub trim_of : SpaceMap → ℕ
trim_of m = number_at (map.get m (4, trim_key))

-- The table, kind 5

abbrev pub value_of : SpaceMap → Text → Option Text
value_of m key = map.get m (5, key)
