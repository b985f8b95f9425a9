-- What changes do to a space, one after another.
use Rattle.std.specs.Prelude.{ℕ, List, fold, Option, Some, None}
use Rattle.std.specs.FinMap as map
use Rattle.delos_types.specs.Spaces.{SpaceMap, Text}
use Rattle.store_records.specs.declared.change.Change.{Change}

-- the key gets the value, or is removed
abbrev pub set_at : SpaceMap → ℕ × Text → Option Text → SpaceMap
set_at m k None = map.remove m k
set_at m k (Some v) = map.insert m k v

abbrev pub changed : SpaceMap → Change → SpaceMap
changed m c = set_at m (c.kind, c.key) c.value

-- the space after all of them, the first of them first
abbrev pub applied : SpaceMap → List Change → SpaceMap
applied m cs = fold changed m cs
