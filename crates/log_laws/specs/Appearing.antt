-- Where the ranks that act stand in a log.
use Rattle.std.specs.Prelude.{◌≡◌, ◌⊎◌, List, slice_get, Some, Contains}
use Rattle.delos_types.specs.declared.entry.Entry.{Entry}
use Rattle.delos_types.specs.declared.place.Place.{Place}
use Rattle.engine_api.specs.declared.act.Act.{Act}
use Rattle.engine_api.specs.declared.content.Content.TheVariants.{Session}
use Rattle.engine_api.specs.Items.{unpack}
use Rattle.engine_api.specs.Acted.{Asked}
use Rattle.engine_api.specs.Order.{first_of}
use Rattle.log_laws.specs.Order.{Precedes}

-- the place, or an earlier one
abbrev pub IsNotAfter : Place → Place → Type 0
IsNotAfter p q = Precedes p q ⊎ (p ≡ q)

-- among these ranks, that of the act appeared first there, with its command
pub record HasAppeared (asked : List Asked) (a : Act) : Type 0 where
  pub first : Asked
  pub found : first_of asked a.session a.rank ≡ Some first
  pub command : a.command ≡ first.command
  pub place : IsNotAfter first.place a.place

-- the entry at its position has this rank as an item
pub record StandsIn (log : List Entry) (x : Asked) : Type 0 where
  pub entry : Entry
  pub at : slice_get log x.place.pos ≡ Some entry
  pub item : Contains (unpack x.place.pos entry) (record { place = x.place; content = Session x.session x.rank x.command })
