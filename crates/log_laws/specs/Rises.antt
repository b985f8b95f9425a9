-- What the items of an entry do on their way up, and their replies on the way back down.
use Rattle.std.specs.Prelude.{◌≡◌, ℕ, ◌+◌, ◌≤◌, List, [], ◌∷◌, ◌++◌, length, map, Option, Some, None, filter_map}
use Rattle.delos_types.specs.Spaces.{SpaceMap}
use Rattle.delos_types.specs.declared.entry.Entry.{Entry}
use Rattle.delos_types.specs.declared.item.Item.{Item}
use Rattle.delos_types.specs.declared.place.Place.{Place}
use Rattle.engine_api.specs.declared.content.Content.{Content}
use Rattle.engine_api.specs.declared.content.Content.TheVariants as content
use Rattle.engine_steps.specs.declared.engine.Up.{Up}
use Rattle.engine_steps.specs.declared.engine.Up.TheVariants.{Pass, Stop, Answer}
use Rattle.engine_steps.specs.Words.{under, opened_items}
use Rattle.engine_steps.specs.Steps.{UpStep, BackStep, Packs}
use Rattle.log_laws.specs.declared.rising.Rising.{Rising}
use Rattle.log_laws.specs.declared.rising.Told.{Told}
use Rattle.log_laws.specs.declared.rising.Acted.{Acted}

abbrev pub at_place : Place → Item → Rising
at_place place item = record { place = place; item = item }

-- what goes on up, and what is answered
abbrev pub passed : Rising → Up → List Rising
passed x (Pass behind) = x ∷ map (at_place x.place) behind
passed x Stop = []
passed x (Answer reply) = []

abbrev pub answered : Rising → Up → List Told
answered x (Pass behind) = []
answered x Stop = []
answered x (Answer reply) = record { place = x.place; item = x.item; reply = reply } ∷ []

-- an engine of kind k takes the items in order
abbrev pub Level : ℕ → SpaceMap → List Rising → List Rising → List Told → SpaceMap → Type 0
Level k m [] outs told m' = (outs ≡ []) × (told ≡ []) × (m' ≡ m)
Level k m (x ∷ xs) outs told m' =
    (up : Up) × (mid : SpaceMap) × (more_outs : List Rising) × (more_told : List Told)
    × UpStep k m x.place x.item up mid × Level k mid xs more_outs more_told m'
    × (outs ≡ passed x up ++ more_outs) × (told ≡ answered x up ++ more_told)

-- the items come up to engines of these kinds, the first one first
abbrev pub Rises : List ℕ → SpaceMap → List Rising → List Told → SpaceMap → Type 0
Rises [] m items told m' = (told ≡ []) × (m' ≡ m)
Rises (k ∷ ks) m items told m' =
    (outs : List Rising) × (mid : SpaceMap) × (here : List Told) × (above : List Told)
    × Level k m items outs here mid × Rises ks mid outs above m' × (told ≡ here ++ above)

-- an engine of kind k is told the replies in order
abbrev pub Hears : ℕ → SpaceMap → List Told → SpaceMap → Type 0
Hears k m [] m' = m' ≡ m
Hears k m (t ∷ ts) m' = (mid : SpaceMap) × BackStep k m t.place t.item t.reply mid × Hears k mid ts m'

-- the replies come down to engines of these kinds, the last one first
abbrev pub Sinks : List ℕ → SpaceMap → List Told → SpaceMap → Type 0
Sinks [] m told m' = m' ≡ m
Sinks (k ∷ ks) m told m' = (mid : SpaceMap) × Sinks ks m told mid × Hears k mid told m'

-- the items at one position, numbered from `sub` on
abbrev pub placed_items : ℕ → ℕ → List Item → List Rising
placed_items pos sub [] = []
placed_items pos sub (i ∷ is) = at_place (record { pos = pos; sub = sub }) i ∷ placed_items pos (sub + 1) is

-- what acted, where, and its reply
abbrev pub acted_word : Told → Option Content → Option Acted
acted_word t (Some (content.Session s r command)) = Some (record { place = t.place; session = s; rank = r; reply = t.reply })
acted_word t word = None

abbrev pub acted_in : List Told → List Acted
acted_in told = filter_map (λ t. acted_word t (under 2 t.item)) told

-- an entry comes up at a position, and its replies go down
pub record Applies (m : SpaceMap) (pos : ℕ) (e : Entry) (acted : List Acted) (m' : SpaceMap) : Type 0 where
  pub told : List Told
  pub mid : SpaceMap
  pub rises : Rises (2 ∷ 3 ∷ 4 ∷ 5 ∷ []) m (placed_items pos 0 (opened_items e)) told mid
  pub sinks : Sinks (1 ∷ 2 ∷ 3 ∷ 4 ∷ 5 ∷ []) mid told m'
  pub acts : acted ≡ acted_in told

-- The way down

-- what the lowest of the engines keeps
abbrev pub lowest : List (List Item) → List Item
lowest [] = []
lowest (kept ∷ others) = kept

-- an item went down, and this entry came out
abbrev pub Proposes : ℕ → List Item → Item → Option Entry → List Item → Type 0
Proposes origin kept item None kept' = (kept' ≡ kept ++ item ∷ []) × (length kept' ≤ 15)
Proposes origin kept item (Some e) kept' = (length kept ≡ 15) × Packs origin (kept ++ item ∷ []) e kept'
