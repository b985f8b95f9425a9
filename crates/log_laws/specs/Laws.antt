-- Laws of the engines' steps, for every list of items.
use Rattle.std.specs.Prelude.{◌≡◌, ◌<◌, ◌^◌, List, ◌++◌, length, filter_map, Option, Some, None}
use Rattle.delos_types.specs.Spaces.{SpaceMap}
use Rattle.delos_types.specs.declared.entry.Entry.{Entry}
use Rattle.delos_types.specs.declared.place.Place.{Place}
use Rattle.engine_api.specs.declared.content.Content.{Content}
use Rattle.engine_api.specs.Acted.{Asked, appearance_of}
use Rattle.engine_api.specs.Order.{acted_after}
use Rattle.engine_steps.specs.Words.{under}
use Rattle.log_laws.specs.declared.rising.Rising.{Rising}
use Rattle.log_laws.specs.declared.rising.Told.{Told}
use Rattle.log_laws.specs.declared.rising.Acted.{Acted}
use Rattle.log_laws.specs.Rises.{Level, Applies}
use Rattle.log_laws.specs.State.{Tracks, IsStateOf, Grows}

abbrev pub rank_of : Place → Option Content → Option Asked
rank_of place (Some c) = appearance_of place c
rank_of place None = None

-- the ranks of sessions among these items
abbrev pub ranks_of : List Rising → List Asked
ranks_of xs = filter_map (λ x. rank_of x.place (under 2 x.item)) xs

-- the session engine takes items: what goes on up is what session order lets act behind the ranks before, and those with these are tracked
pub record InOrder (before : List Asked) (ins outs : List Rising) (m : SpaceMap) : Type 0 where
  pub acts : ranks_of outs ≡ acted_after (λ s. 1) before (ranks_of ins)
  pub tracks : Tracks (before ++ ranks_of ins) m

abbrev pub ActsInSessionOrder : Type 0
ActsInSessionOrder =
    (before : List Asked) (m m' : SpaceMap) (ins outs : List Rising) (told : List Told)
    → Tracks before m → Level 2 m ins outs told m' → InOrder before ins outs m'

-- an entry that is applied to the state of a log leaves the state of the log with it at its end
abbrev pub GrowsByAnEntry : Type 0
GrowsByAnEntry =
    (log : List Entry) (e : Entry) (m m' : SpaceMap) (acted : List Acted)
    → length log < 2 ^ 64 → IsStateOf log m → Applies m (length log) e acted m' → Grows log e acted m'
