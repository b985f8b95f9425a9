-- What the engines over a store are told of what is kept.
use Rattle.std.specs.Prelude.{◌≡◌, ℕ, ◌==◌, ◌&&◌, not, if◌then◌else◌, Bool, true, false, List, [], ◌∷◌, ◌++◌, map, length, Option, Some, None}
use Rattle.std.specs.List.{dedup}
use Rattle.delos_types.specs.Spaces.{SpaceMap}
use Rattle.delos_types.specs.declared.entry.Entry.{Entry}
use Rattle.delos_types.specs.declared.place.Place.{Place}
use Rattle.log_laws.specs.Order.{Precedes, EachPair}
use Rattle.log_laws.specs.State.{IsStateOf, Grows}
use Rattle.log_laws.specs.declared.rising.Acted.{Acted}
use Rattle.replica_api.specs.declared.replica.Applied.{Applied}
use Rattle.replica_api.specs.declared.replica.Applied.TheVariants as applied

abbrev pub same_place : Place → Place → Bool
same_place p q = (p.pos == q.pos) && (p.sub == q.sub)

-- the places at which these acted: ranks that are freed act at the place of the one that frees them, and it counts once
abbrev pub places_of : List Acted → List Place
places_of acted = dedup same_place (map (λ a. a.place) acted)

abbrev pub is_last_place : Option Place → Place → Bool
is_last_place None place = false
is_last_place (Some last) place = same_place place last

-- this place, where it isn't the last one
abbrev pub new_place : Option Place → Place → List Place
new_place last place = if is_last_place last place then [] else place ∷ []

-- the entry's space and the next cursor are kept
abbrev pub is_done : Applied → Bool
is_done applied.Done = true
is_done answer = false

-- the places are posted where the entry is kept, and nowhere else
abbrev pub told_of : Applied → List Acted → List (List Place) → List (List Place)
told_of answer acted told = if is_done answer then map (λ places. places ++ places_of acted) told else told

-- An entry came up over this space at this position, and is kept: what acts in it is told, and to engines that were told this before
-- each place at which something acts was posted once, in order.
pub record PostsWhatActed (has : List (List Place) → Type 0) (told : List (List Place)) (m : SpaceMap) (pos : ℕ) (e : Entry) (m' : SpaceMap) : Type 0 where
  pub acted : List Acted
  pub grows : (log : List Entry) → length log ≡ pos → IsStateOf log m → Grows log e acted m'
  pub once : EachPair Precedes (places_of acted)
  pub heard : has (map (λ places. places ++ places_of acted) told)

-- An entry that isn't kept posts nothing.
abbrev pub Posts : (List (List Place) → Type 0) → List (List Place) → SpaceMap → ℕ → Entry → Applied → SpaceMap → Type 0
Posts has told m pos e applied.Done m' = PostsWhatActed has told m pos e m'
Posts has told m pos e answer m' = has told
