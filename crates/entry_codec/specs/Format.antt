-- How items and entries are spelled in bytes. Numbers are spelled with the highest byte first.
-- A header: kind (1 byte), length of the body (2), body.
-- An item: number of headers (1), the headers, length of the payload (2), payload.
-- An entry: version 1 (1), origin (1), number of headers (1), the headers, length of the payload (4), payload.
use Rattle.std.specs.Prelude.{◌≡◌, ℕ, List, ◌∷◌, ◌++◌, length, flat_map}
use Rattle.delos_types.specs.Numbers.{short_text, long_text}
use Rattle.delos_types.specs.Spelling.{IsSpellable, IsSpellableItem}
use Rattle.delos_types.specs.declared.item.Header.{Header}
use Rattle.delos_types.specs.declared.item.Item.{Item}
use Rattle.delos_types.specs.declared.entry.Entry.{Entry}

abbrev pub header_bytes : Header → List ℕ
header_bytes h = h.kind ∷ short_text h.body

-- their number, and the headers one after another
abbrev pub headers_bytes : List Header → List ℕ
headers_bytes hs = length hs ∷ flat_map header_bytes hs

abbrev pub item_bytes : Item → List ℕ
item_bytes i = headers_bytes i.headers ++ short_text i.payload

abbrev pub entry_bytes : Entry → List ℕ
entry_bytes e = 1 ∷ e.origin ∷ (headers_bytes e.headers ++ long_text e.payload)

-- the bytes are the item's
abbrev pub SpellsItem : List ℕ → Item → Type 0
SpellsItem bytes i = (bytes ≡ item_bytes i) × IsSpellableItem i

-- the bytes are the entry's
abbrev pub SpellsEntry : List ℕ → Entry → Type 0
SpellsEntry bytes e = (bytes ≡ entry_bytes e) × IsSpellable e
