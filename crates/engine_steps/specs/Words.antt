-- What an item says to an engine: an item has one header, and speaks to the engine of that header's kind.
use Rattle.std.specs.Prelude.{ℕ, ◌==◌, if◌then◌else◌, List, [], ◌∷◌, ◌++◌, Option, Some, None, is_some}
use Rattle.delos_types.specs.Numbers.{u16_bytes, u64_bytes}
use Rattle.delos_types.specs.Spaces.{Text}
use Rattle.delos_types.specs.declared.item.Header.{Header}
use Rattle.delos_types.specs.declared.item.Item.{Item}
use Rattle.delos_types.specs.declared.entry.Entry.{Entry}
use Rattle.engine_api.specs.declared.content.Content.{Content}
use Rattle.engine_api.specs.Items.{content_under, contents_of, items_of}
use Rattle.engine_api.specs.Packing.{item_under}

abbrev pub under_in : ℕ → List Header → Text → Option Content
under_in kind (h ∷ []) payload = if h.kind == kind then content_under h payload else None
under_in kind headers payload = None

-- what the item says under a header of this kind, where that is its one header
abbrev pub under : ℕ → Item → Option Content
under kind i = under_in kind i.headers i.payload

-- rank r of session s, with a payload whatever it spells
abbrev pub ranked_item : ℕ → ℕ → Text → Item
ranked_item s r payload = item_under 2 (u16_bytes s ++ u64_bytes r) payload

-- these items, where each says something
abbrev pub sound_items : List Item → List Item
sound_items items = if is_some (contents_of items) then items else []

abbrev pub opened : Option (List Item) → List Item
opened None = []
opened (Some items) = sound_items items

-- the items of an entry in order, where the entry and each of them are well formed
abbrev pub opened_items : Entry → List Item
opened_items e = opened (items_of e)
