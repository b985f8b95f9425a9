-- What each kind of engine does: 1 batch, 2 session, 3 view, 4 trim, 5 table.
use Rattle.std.specs.Prelude.{◌≡◌, ◌≢◌, ℕ, ◌+◌, ◌<◌, ◌≤◌, ◌^◌, nat_lt, not, ◌==◌, ◌&&◌, if◌then◌else◌, List, [], ◌∷◌, ◌++◌, length, Option, Some, None, filter_map}
use Rattle.std.specs.FinMap as map
use Rattle.delos_types.specs.Numbers.{u64_bytes}
use Rattle.delos_types.specs.Spaces.{SpaceMap, Text}
use Rattle.delos_types.specs.Spelling.{IsSpellable}
use Rattle.delos_types.specs.declared.item.Item.{Item}
use Rattle.delos_types.specs.declared.entry.Entry.{Entry}
use Rattle.delos_types.specs.declared.place.Place.{Place}
use Rattle.table_core.specs.Table.{outcome, key_of}
use Rattle.table_core.specs.declared.command.Command.{Command}
use Rattle.engine_api.specs.declared.content.Content.{Content}
use Rattle.engine_api.specs.declared.content.Content.TheVariants as content
use Rattle.engine_api.specs.Items.{content_of, placed_from, unpack}
use Rattle.engine_api.specs.Packing.{packed}
use Rattle.engine_steps.specs.declared.engine.Up.{Up}
use Rattle.engine_steps.specs.declared.engine.Up.TheVariants.{Pass, Stop, Answer}
use Rattle.engine_steps.specs.declared.engine.Down.{Down}
use Rattle.engine_steps.specs.declared.engine.Down.TheVariants as down
use Rattle.engine_steps.specs.Layout.{number_at, last_key, last_of, reply_key, slot_text, clean_key, held_key, held_of, is_holding, view_key, view_of, is_left, trim_key, trim_of, value_of}
use Rattle.engine_steps.specs.Replies.{reply_text}
use Rattle.engine_steps.specs.Words.{under, ranked_item, opened_items}

-- The way down

-- these items are packed: the entry holds what they say, in order, and nothing is kept any more
pub record Packs (origin : ℕ) (items : List Item) (e : Entry) (kept' : List Item) : Type 0 where
  pub entry : e ≡ packed origin items
  pub spellable : IsSpellable e
  pub few : length items ≤ 16
  pub holds : (pos : ℕ) → unpack pos e ≡ placed_from pos 0 (filter_map content_of items)
  pub none_left : kept' ≡ []

-- the batch engine keeps up to 15 items, and packs them with the sixteenth
abbrev pub BatchDown : ℕ → List Item → Item → Down → List Item → Type 0
BatchDown origin kept item down.Keep kept' = (kept' ≡ kept ++ item ∷ []) × (length kept' ≤ 15)
BatchDown origin kept item (down.Pack e) kept' = (length kept ≡ 15) × Packs origin (kept ++ item ∷ []) e kept'
BatchDown origin kept item (down.Pass i) kept' = ⊥

-- an item goes down
pub record DownStep (kind origin : ℕ) (kept : List Item) (item : Item) (result : Down) (kept' : List Item) : Type 0 where
  pub batch : kind ≡ 1 → BatchDown origin kept item result kept'
  pub other : kind ≢ 1 → (result ≡ down.Pass item) × (kept' ≡ kept)

-- what was kept goes down
abbrev pub BatchFlush : ℕ → List Item → Option Entry → List Item → Type 0
BatchFlush origin kept None kept' = (kept ≡ []) × (kept' ≡ [])
BatchFlush origin kept (Some e) kept' = (kept ≢ []) × Packs origin kept e kept'

pub record FlushStep (kind origin : ℕ) (kept : List Item) (result : Option Entry) (kept' : List Item) : Type 0 where
  pub batch : kind ≡ 1 → BatchFlush origin kept result kept'
  pub other : kind ≢ 1 → (result ≡ None) × (kept' ≡ kept)

-- The way up

-- an entry is opened by the batch engine alone
pub record OpenStep (kind : ℕ) (e : Entry) (items : List Item) : Type 0 where
  pub batch : kind ≡ 1 → (items ≡ opened_items e) × (length items ≤ 16)
  pub other : kind ≢ 1 → items ≡ []

-- the item goes on as it is, and nothing is written
abbrev pub Passes : SpaceMap → Up → SpaceMap → Type 0
Passes m up m' = (up ≡ Pass []) × (m' ≡ m)

-- the first item of an entry finds no rank waiting: the entries before it are clean
abbrev pub opening : SpaceMap → Place → SpaceMap
opening m place = if (place.sub == 0) && not (is_holding m) then map.insert m (2, clean_key) (u64_bytes place.pos) else m

-- the waiting ranks of s from n on are taken out, in order, up to the first that doesn't wait, and mid is left
abbrev pub Frees : SpaceMap → ℕ → ℕ → List Item → SpaceMap → Type 0
Frees m s n [] mid = (held_of m s n ≡ None) × (mid ≡ m)
Frees m s n (x ∷ xs) mid = (p : Text) × (held_of m s n ≡ Some p) × (x ≡ ranked_item s n p) × Frees (map.remove m (2, held_key s n)) s (n + 1) xs mid

-- the next rank goes on, and behind it those that waited for it
pub record Acts (m : SpaceMap) (s r : ℕ) (up : Up) (m' : SpaceMap) : Type 0 where
  pub freed : List Item
  pub mid : SpaceMap
  pub frees : Frees m s (r + 1) freed mid
  pub goes_on : up ≡ Pass freed
  pub last : m' ≡ map.insert mid (2, last_key s) (u64_bytes (r + length freed))

-- a later rank waits, with the payload of its first appearance
abbrev pub waits : SpaceMap → ℕ → ℕ → Text → Option Text → SpaceMap
waits m s r payload None = map.insert m (2, held_key s r) payload
waits m s r payload (Some earlier) = m

-- rank r of session s comes up
pub record RankStep (m : SpaceMap) (s r : ℕ) (payload : Text) (up : Up) (m' : SpaceMap) : Type 0 where
  pub known_session : s ≤ 63
  pub known_rank : r < 2 ^ 64
  pub early : r ≤ last_of m s → (up ≡ Stop) × (m' ≡ m)
  pub next : r ≡ last_of m s + 1 → Acts m s r up m'
  pub later : last_of m s + 1 < r → (up ≡ Stop) × (m' ≡ waits m s r payload (held_of m s r))

abbrev pub SessionAt : SpaceMap → Text → Option Content → Up → SpaceMap → Type 0
SessionAt m payload (Some (content.Session s r command)) up m' = RankStep m s r payload up m'
SessionAt m payload word up m' = Passes m up m'

abbrev pub SessionUp : SpaceMap → Place → Item → Up → SpaceMap → Type 0
SessionUp m place item up m' = SessionAt (opening m place) item.payload (under 2 item) up m'

-- a report counts where it is greater and its node hasn't left
abbrev pub reports : SpaceMap → ℕ → ℕ → Option Text → SpaceMap
reports m node position stored = if not (is_left stored) && nat_lt (number_at stored) position then map.insert m (3, view_key node) (u64_bytes position) else m

abbrev pub ViewAt : SpaceMap → Option Content → Up → SpaceMap → Type 0
ViewAt m (Some (content.Alive node position)) up m' = (position < 2 ^ 64) × (up ≡ Stop) × (m' ≡ reports m node position (view_of m node))
ViewAt m (Some (content.Leave node)) up m' = (up ≡ Stop) × (m' ≡ map.insert m (3, view_key node) [])
ViewAt m word up m' = Passes m up m'

abbrev pub ViewUp : SpaceMap → Item → Up → SpaceMap → Type 0
ViewUp m item up m' = ViewAt m (under 3 item) up m'

-- the trim point only rises
abbrev pub raised_trim : SpaceMap → ℕ → SpaceMap
raised_trim m position = if nat_lt (trim_of m) position then map.insert m (4, trim_key) (u64_bytes position) else m

abbrev pub TrimAt : SpaceMap → Option Content → Up → SpaceMap → Type 0
TrimAt m (Some (content.Trim position)) up m' = (position < 2 ^ 64) × (up ≡ Stop) × (m' ≡ raised_trim m position)
TrimAt m word up m' = Passes m up m'

abbrev pub TrimUp : SpaceMap → Item → Up → SpaceMap → Type 0
TrimUp m item up m' = TrimAt m (under 4 item) up m'

-- the value at a key of the table is this from here on
abbrev pub with_value : SpaceMap → Text → Option Text → SpaceMap
with_value m key None = map.remove m (5, key)
with_value m key (Some value) = map.insert m (5, key) value

-- a command acts on the value at its key; a payload that spells none does nothing
abbrev pub TableDoes : SpaceMap → Option Command → Up → SpaceMap → Type 0
TableDoes m None up m' = (up ≡ Answer (reply_text None)) × (m' ≡ m)
TableDoes m (Some c) up m' =
    (up ≡ Answer (reply_text (Some (outcome c (value_of m (key_of c))).1))) × (m' ≡ with_value m (key_of c) (outcome c (value_of m (key_of c))).0)

abbrev pub TableAt : SpaceMap → Option Content → Up → SpaceMap → Type 0
TableAt m (Some (content.Session s r command)) up m' = TableDoes m command up m'
TableAt m word up m' = Passes m up m'

abbrev pub TableUp : SpaceMap → Item → Up → SpaceMap → Type 0
TableUp m item up m' = TableAt m (under 2 item) up m'

-- an item comes up to an engine of this kind
pub record UpStep (kind : ℕ) (m : SpaceMap) (place : Place) (item : Item) (up : Up) (m' : SpaceMap) : Type 0 where
  pub batch : kind ≡ 1 → Passes m up m'
  pub session : kind ≡ 2 → SessionUp m place item up m'
  pub view : kind ≡ 3 → ViewUp m item up m'
  pub trim : kind ≡ 4 → TrimUp m item up m'
  pub table : kind ≡ 5 → TableUp m item up m'

-- The way back down

-- the reply takes its slot, from which the one 64 ranks before goes
abbrev pub RepliesAt : SpaceMap → Place → Option Content → Text → SpaceMap → Type 0
RepliesAt m place (Some (content.Session s r command)) reply m' =
    (s ≤ 63) × (place.pos < 2 ^ 64) × (place.sub < 2 ^ 16) × (r < 2 ^ 64) × (m' ≡ map.insert m (2, reply_key s r) (slot_text place r reply))
RepliesAt m place word reply m' = m' ≡ m

-- an item was answered above
pub record BackStep (kind : ℕ) (m : SpaceMap) (place : Place) (item : Item) (reply : Text) (m' : SpaceMap) : Type 0 where
  pub session : kind ≡ 2 → RepliesAt m place (under 2 item) reply m'
  pub other : kind ≢ 2 → m' ≡ m
