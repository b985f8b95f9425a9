-- What the items of an entry say.
-- An entry has exactly one header:
--   1 batch: count (1 byte, 1 to 16), then the length of each item (2 bytes each); the payload is the items, and nothing else
-- An item has exactly one header:
--   2 session: session (2 bytes, 0 to 63), rank (8 bytes, from 1); the payload is a command
--   3 view: tag (1 byte: 1 alive, 2 leave), node (1 byte, 1 to 8), position (8 bytes, 0 for leave); no payload
--   4 trim: position (8 bytes); no payload
-- An entry in which anything of this breaks holds no items.
use Rattle.std.specs.Prelude.{ℕ, ◌+◌, ◌*◌, Bool, ◌&&◌, nat_le, ◌==◌, if◌then◌else◌, List, [], ◌∷◌, take, drop, length, Option, Some, None}
use Rattle.std.specs.Option.{option_map, option_and_then}
use Rattle.delos_types.specs.Numbers.{u16_of, u64_of}
use Rattle.delos_types.specs.declared.item.Header.{Header}
use Rattle.delos_types.specs.declared.item.Item.{Item}
use Rattle.delos_types.specs.declared.entry.Entry.{Entry}
use Rattle.entry_codec.specs.Reading.{item_of}
use Rattle.table_core.specs.Reading.{command_of}
use Rattle.engine_api.specs.declared.content.Content.{Content}
use Rattle.engine_api.specs.declared.content.Content.TheVariants.{Session, Alive, Leave, Trim}
use Rattle.engine_api.specs.declared.content.Placed.{Placed}

-- What an item says

-- the session and the rank under a session header
abbrev pub session_in : List ℕ → ℕ
session_in body = u16_of (take 2 body)

abbrev pub rank_in : List ℕ → ℕ
rank_in body = u64_of (drop 2 body)

abbrev pub is_session_body : List ℕ → Bool
is_session_body body = (length body == 10) && nat_le (session_in body) 63 && nat_le 1 (rank_in body)

abbrev pub session_content : List ℕ → List ℕ → Option Content
session_content body payload =
    if is_session_body body then Some (Session (session_in body) (rank_in body) (command_of payload)) else None

abbrev pub view_word : ℕ → ℕ → ℕ → Option Content
view_word tag node position =
    if tag == 1 then Some (Alive node position)
    else if (tag == 2) && (position == 0) then Some (Leave node)
    else None

abbrev pub view_body : List ℕ → Option Content
view_body (tag ∷ node ∷ position) =
    if (length position == 8) && nat_le 1 node && nat_le node 8 then view_word tag node (u64_of position) else None
view_body body = None

abbrev pub trim_body : List ℕ → Option Content
trim_body body = if length body == 8 then Some (Trim (u64_of body)) else None

abbrev pub without_payload : List ℕ → Option Content → Option Content
without_payload [] content = content
without_payload (b ∷ bs) content = None

-- what a header of this kind says of the payload
abbrev pub content_under : Header → List ℕ → Option Content
content_under h payload =
    if h.kind == 2 then session_content h.body payload
    else if h.kind == 3 then without_payload payload (view_body h.body)
    else if h.kind == 4 then without_payload payload (trim_body h.body)
    else None

abbrev pub content_in : List Header → List ℕ → Option Content
content_in (h ∷ []) payload = content_under h payload
content_in headers payload = None

abbrev pub content_of : Item → Option Content
content_of i = content_in i.headers i.payload

-- what all of these say, where each says something
abbrev pub contents_of : List Item → Option (List Content)
contents_of [] = Some []
contents_of (i ∷ is) = option_and_then (λ c. option_map (λ cs. c ∷ cs) (contents_of is)) (content_of i)

-- Which items an entry holds

-- the numbers that the bytes spell, two bytes each
abbrev pub lengths_of : List ℕ → List ℕ
lengths_of (a ∷ b ∷ rest) = u16_of (a ∷ b ∷ []) ∷ lengths_of rest
lengths_of bytes = []

-- the lengths of the items under a batch header
abbrev pub batch_lengths : List ℕ → Option (List ℕ)
batch_lengths [] = None
batch_lengths (count ∷ rest) = if nat_le 1 count && nat_le count 16 && (length rest == 2 * count) then Some (lengths_of rest) else None

-- the items that bytes of these lengths spell, one after another, where they are all of the bytes
abbrev pub items_from : List ℕ → List ℕ → Option (List Item)
items_from [] [] = Some []
items_from [] (b ∷ bs) = None
items_from (n ∷ ns) bytes =
    if nat_le n (length bytes)
    then option_and_then (λ i. option_map (λ is. i ∷ is) (items_from ns (drop n bytes))) (item_of (take n bytes))
    else None

abbrev pub items_under : Header → List ℕ → Option (List Item)
items_under h payload = if h.kind == 1 then option_and_then (λ ns. items_from ns payload) (batch_lengths h.body) else None

abbrev pub items_in : List Header → List ℕ → Option (List Item)
items_in (h ∷ []) payload = items_under h payload
items_in headers payload = None

-- the items of an entry, in order
abbrev pub items_of : Entry → Option (List Item)
items_of e = items_in e.headers e.payload

-- Where they stand

-- these contents at one position, numbered from `sub` on
abbrev pub placed_from : ℕ → ℕ → List Content → List Placed
placed_from pos sub [] = []
placed_from pos sub (c ∷ cs) = record { place = record { pos = pos; sub = sub }; content = c } ∷ placed_from pos (sub + 1) cs

abbrev pub placed_at : ℕ → Option (List Content) → List Placed
placed_at pos None = []
placed_at pos (Some cs) = placed_from pos 0 cs

-- what the entry at a position says: each of its items in order, where every one is well formed
abbrev pub unpack : ℕ → Entry → List Placed
unpack pos e = placed_at pos (option_and_then contents_of (items_of e))
