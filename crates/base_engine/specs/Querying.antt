-- What a node's table answers to a read.
use Rattle.std.specs.Prelude.{◌≡◌, ℕ, ◌==◌, if◌then◌else◌, List, [], ◌∷◌, ◌++◌, Option, Some, None}
use Rattle.std.specs.FinMap as finmap
use Rattle.delos_types.specs.Spaces.{SpaceMap, Text}
use Rattle.table_core.specs.Table.{TableMap}
use Rattle.table_core.specs.Find.{find_in, pairs_between}
use Rattle.table_core.specs.declared.command.Query.{Query}
use Rattle.table_core.specs.declared.command.Found.{Found}
use Rattle.table_core.specs.declared.command.Pair.{Pair}

-- the keys of the table engine, with their values
abbrev pub table_entries : List ((ℕ × Text) × Text) → List (Text × Text)
table_entries [] = []
table_entries (e ∷ es) = if e.0.0 == 5 then (e.0.1, e.1) ∷ table_entries es else table_entries es

-- the table that a space keeps
abbrev pub table_in : SpaceMap → TableMap
table_in m = finmap.from_entries (table_entries (finmap.entries m))

-- what that table answers to a read
abbrev pub found_in : SpaceMap → Query → Found
found_in m query = find_in (table_in m) query

-- the first key from `from` on and below high, with its value; what follows begins at the next text behind that key
abbrev pub IsNextPair : SpaceMap → Text → Text → Option Pair → Type 0
IsNextPair m from high None = pairs_between (table_in m) from high ≡ []
IsNextPair m from high (Some p) = pairs_between (table_in m) from high ≡ p ∷ pairs_between (table_in m) (p.key ++ 0 ∷ []) high
