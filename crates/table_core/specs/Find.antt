-- What the table answers to a read.
use Rattle.std.specs.Prelude.{not, ◌&&◌, List, [], ◌∷◌, filter, Option, Some, None}
use Rattle.std.specs.Ordering.{is_lt}
use Rattle.std.specs.FinMap as finmap
use Rattle.delos_types.specs.Spaces.{Text, text_cmp}
use Rattle.table_core.specs.declared.command.Pair.{Pair}
use Rattle.table_core.specs.declared.command.Query.{Query}
use Rattle.table_core.specs.declared.command.Query.TheVariants as query
use Rattle.table_core.specs.declared.command.Found.{Found}
use Rattle.table_core.specs.declared.command.Found.TheVariants as found
use Rattle.table_core.specs.Table.{TableMap}

abbrev pub pairs_of : List (Text × Text) → List Pair
pairs_of [] = []
pairs_of (e ∷ es) = record { key = e.0; value = e.1 } ∷ pairs_of es

abbrev pub value_found : Option Text → Found
value_found None = found.Nothing
value_found (Some v) = found.Value v

-- the keys from low on, below high, in byte order, with their values
abbrev pub pairs_between : TableMap → Text → Text → List Pair
pairs_between m low high = pairs_of (filter (λ e. not (is_lt (text_cmp e.0 low)) && is_lt (text_cmp e.0 high)) (finmap.entries m))

-- what the table answers to a read
abbrev pub find_in : TableMap → Query → Found
find_in m (query.Get key) = value_found (finmap.get m key)
find_in m (query.Scan low high) = found.All (pairs_between m low high)
