-- Reading an item or an entry from left to right. Each field is tested as soon as it is read, so a fault is the
-- first rule that the bytes break, with the place at which they do.
use Rattle.std.specs.Prelude.{◌≡◌, ◌==◌, ◌+◌, ◌-◌, ℕ, zero, suc, List, [], ◌∷◌, length, Option, Result, Ok, Err, nat_lt, if◌then◌else◌}
use Rattle.std.specs.Result.{result_ok}
use Rattle.delos_types.specs.Fields.{◌>>=◌, u8_field, short_text_field, long_text_field, ended}
use Rattle.delos_types.specs.declared.item.Header.{Header}
use Rattle.delos_types.specs.declared.item.Item.{Item}
use Rattle.delos_types.specs.declared.entry.Entry.{Entry}
use Rattle.entry_codec.specs.declared.fault.BadEntry.{BadEntry}
use Rattle.entry_codec.specs.declared.fault.DecodeError.{DecodeError}
use Rattle.entry_codec.specs.declared.fault.DecodeError.TheVariants as decode
use Rattle.entry_codec.specs.declared.fault.Rule.{Rule}
use Rattle.entry_codec.specs.declared.fault.Rule.TheVariants.{Size, Short, Version, Origin, Kind, Long}

abbrev pub fault : ℕ → Rule → BadEntry
fault at rule = record { at = at; rule = rule }

-- `size` is how many bytes there are in all. Where they end inside a field, they break the rule `short` there, and
-- the next byte of `bytes` stands at the place `size - length bytes`.
abbrev pub short : ℕ → BadEntry
short size = fault size Short

unfoldable pub version_field : ℕ → List ℕ → Result (ℕ × List ℕ) BadEntry
version_field size bytes = do
  version ← u8_field (short size) bytes
  if version.0 == 1 then Ok version else Err (fault 0 Version)

-- the number of a node, which stands at the place 1
unfoldable pub origin_in : ℕ → Result ℕ BadEntry
origin_in n = if nat_lt n 1 then Err (fault 1 Origin) else (if nat_lt 8 n then Err (fault 1 Origin) else Ok n)

-- a kind, which is at least this
unfoldable pub kind_field : ℕ → ℕ → List ℕ → Result (ℕ × List ℕ) BadEntry
kind_field size least bytes = do
  kind ← u8_field (short size) bytes
  if nat_lt kind.0 least then Err (fault (size - length bytes) Kind) else Ok kind

unfoldable pub header_field : ℕ → ℕ → List ℕ → Result (Header × List ℕ) BadEntry
header_field size least bytes = do
  kind ← kind_field size least bytes
  body ← short_text_field (short size) kind.1
  Ok (record { kind = kind.0; body = body.0 }, body.1)

-- so many headers, whose kinds rise from `least` on
unfoldable pub headers_from : ℕ → ℕ → ℕ → List ℕ → Result (List Header × List ℕ) BadEntry
headers_from size least zero bytes = Ok ([], bytes)
headers_from size least (suc count) bytes = do
  first ← header_field size least bytes
  others ← headers_from size (first.0.kind + 1) count first.1
  Ok (first.0 ∷ others.0, others.1)

-- the number of the headers, and the headers
unfoldable pub headers_field : ℕ → List ℕ → Result (List Header × List ℕ) BadEntry
headers_field size bytes = do
  count ← u8_field (short size) bytes
  headers_from size 1 count.0 count.1

-- the fields of an item, in order
unfoldable pub item_fields : ℕ → List ℕ → Result Item BadEntry
item_fields size bytes = do
  headers ← headers_field size bytes
  payload ← short_text_field (short size) headers.1
  ended (fault (size - length payload.1) Long) payload.1 (record { headers = headers.0; payload = payload.0 })

-- the item that all of the bytes spell
unfoldable pub item_read : List ℕ → Result Item BadEntry
item_read bytes = item_fields (length bytes) bytes

-- the fields of an entry, in order
unfoldable pub entry_fields : ℕ → List ℕ → Result Entry BadEntry
entry_fields size bytes = do
  version ← version_field size bytes
  number ← u8_field (short size) version.1
  origin ← origin_in number.0
  headers ← headers_field size number.1
  payload ← long_text_field (short size) headers.1
  ended (fault (size - length payload.1) Long) payload.1 (record { origin = origin; headers = headers.0; payload = payload.0 })

-- the entry that all of the bytes spell; more bytes than an entry may have are refused first
unfoldable pub entry_read : List ℕ → Result Entry BadEntry
entry_read bytes = if nat_lt 16384 (length bytes) then Err (fault 16384 Size) else entry_fields (length bytes) bytes

-- the item that the bytes spell, if they spell one
abbrev pub item_of : List ℕ → Option Item
item_of bytes = result_ok (item_read bytes)

-- What a function returned, seen by view, is what reading gives, unless memory ran out.
abbrev pub Fails : {Y : Type 0} → DecodeError → Result Y BadEntry → Type 0
Fails decode.Memory read = Unit {0}
Fails (decode.Bad b) read = read ≡ Err b

abbrev pub GivesBy : {X Y : Type 0} → (X → Y) → Result X DecodeError → Result Y BadEntry → Type 0
GivesBy view (Ok x) read = read ≡ Ok (view x)
GivesBy view (Err e) read = Fails e read

abbrev pub Gives : {X : Type 0} → Result X DecodeError → Result X BadEntry → Type 0
Gives (Ok x) read = read ≡ Ok x
Gives (Err e) read = Fails e read
