-- Which items and entries some bytes spell.
-- An entry: version (1 byte), origin (1), number of headers (1), the headers, payload length (4), payload; at most 16,384 bytes.
-- An item: number of headers (1), the headers, payload length (2), payload.
-- A header: kind (1), body length (2), body. The kinds of one entry or item rise strictly, from 1.
use Rattle.std.specs.Prelude.{ℕ, ◌+◌, ◌≤◌, ◌<◌, ◌^◌, List, [], ◌∷◌, length, All}
use Rattle.delos_types.specs.declared.item.Header.{Header}
use Rattle.delos_types.specs.declared.item.Item.{Item}
use Rattle.delos_types.specs.declared.entry.Entry.{Entry}

-- how many bytes spell these headers
abbrev pub headers_length : List Header → ℕ
headers_length [] = 0
headers_length (h ∷ hs) = 3 + length h.body + headers_length hs

-- how many bytes spell the entry
abbrev pub spelled_length : Entry → ℕ
spelled_length e = 7 + headers_length e.headers + length e.payload

-- how many bytes spell the item
abbrev pub item_length : Item → ℕ
item_length i = 3 + headers_length i.headers + length i.payload

-- the kinds are bytes that rise strictly, and the first is at least this
abbrev pub IsRisingFrom : ℕ → List Header → Type 0
IsRisingFrom least [] = Unit {0}
IsRisingFrom least (h ∷ hs) = (least ≤ h.kind) × (h.kind < 256) × IsRisingFrom (h.kind + 1) hs

-- some bytes spell the entry
pub record IsSpellable (e : Entry) : Type 0 where
  pub origin : (1 ≤ e.origin) × (e.origin ≤ 8)
  pub rising : IsRisingFrom 1 e.headers
  pub small : spelled_length e ≤ 16384

-- some bytes spell the item
pub record IsSpellableItem (i : Item) : Type 0 where
  pub rising : IsRisingFrom 1 i.headers
  pub bodies : All (λ h. length h.body < 2 ^ 16) i.headers
  pub payload : length i.payload < 2 ^ 16
