-- How an item is spelled that says something, and how an entry is packed of items.
use Rattle.std.specs.Prelude.{◌≡◌, ℕ, ◌≤◌, List, [], ◌∷◌, ◌++◌, length, flat_map, filter_map, All, IsSome}
use Rattle.delos_types.specs.Numbers.{u16_bytes, u64_bytes}
use Rattle.delos_types.specs.Spelling.{IsSpellableItem, IsSpellable, item_length}
use Rattle.delos_types.specs.declared.item.Header.{Header}
use Rattle.delos_types.specs.declared.item.Item.{Item}
use Rattle.delos_types.specs.declared.entry.Entry.{Entry}
use Rattle.entry_codec.specs.Format.{item_bytes}
use Rattle.table_core.specs.Spelling.{command_text}
use Rattle.table_core.specs.declared.command.Command.{Command}
use Rattle.engine_api.specs.Items.{content_of, placed_from, unpack}

-- an item with this header alone
abbrev pub item_under : ℕ → List ℕ → List ℕ → Item
item_under kind body payload = record { headers = record { kind = kind; body = body } ∷ []; payload = payload }

-- a command of a session, with its rank
abbrev pub session_item : ℕ → ℕ → Command → Item
session_item session rank command = item_under 2 (u16_bytes session ++ u64_bytes rank) (command_text command)

abbrev pub view_body : ℕ → ℕ → ℕ → List ℕ
view_body tag node position = tag ∷ node ∷ u64_bytes position

-- a node has its state for the entries below a position
abbrev pub alive_item : ℕ → ℕ → Item
alive_item node position = item_under 3 (view_body 1 node position) []

-- a node leaves
abbrev pub leave_item : ℕ → Item
leave_item node = item_under 3 (view_body 2 node 0) []

-- the entries below a position may go
abbrev pub trim_item : ℕ → Item
trim_item position = item_under 4 (u64_bytes position) []

-- how many items there are, and the length of each
abbrev pub batch_body : List Item → List ℕ
batch_body items = length items ∷ flat_map (λ i. u16_bytes (item_length i)) items

abbrev pub batch_header : List Item → Header
batch_header items = record { kind = 1; body = batch_body items }

-- the entry of these items
abbrev pub packed : ℕ → List Item → Entry
packed origin items = record { origin = origin; headers = batch_header items ∷ []; payload = flat_map item_bytes items }

-- an item that an entry may hold: well formed, and spelled in at most 1,000 bytes
pub record IsProposable (i : Item) : Type 0 where
  pub spellable : IsSpellableItem i
  pub small : item_length i ≤ 1000
  pub says : IsSome (content_of i)

-- items that one entry may hold
pub record IsBatch (items : List Item) : Type 0 where
  pub some : 1 ≤ length items
  pub few : length items ≤ 16
  pub each : All IsProposable items

-- an entry that is packed of items can be spelled, and holds what they say, in order
pub record Unpacks (origin : ℕ) (items : List Item) : Type 0 where
  pub spellable : IsSpellable (packed origin items)
  pub held : (pos : ℕ) → unpack pos (packed origin items) ≡ placed_from pos 0 (filter_map content_of items)
