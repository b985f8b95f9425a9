-- What changes lead to: a map from pairs of a table and a key to values.
use Rattle.std.specs.Prelude.{◌≡◌, ◌≤◌, ℕ, List, [], ◌∷◌, ◌++◌, fold, if◌then◌else◌, Option, Some, None}
use Rattle.std.specs.Ordering.{ordering_then}
use Rattle.std.specs.declared.cmp.Ordering.{Ordering}
use Rattle.std.specs.FinMap.{FinMap, empty, insert, remove}
use Rattle.delos_types.specs.Spaces.{Text, text_cmp}
use Rattle.snap_reads.specs.declared.change.Change.{Change}
use Rattle.snap_reads.specs.declared.change.Published.{Published}

-- by table, and then by key
abbrev pub place_cmp : Text × Text → Text × Text → Ordering
place_cmp a b = ordering_then (text_cmp a.0 b.0) (text_cmp a.1 b.1)

abbrev pub TablesMap : Type 0
TablesMap = FinMap place_cmp Text

-- a value is put at the pair, or what is there is removed
abbrev pub set_at : TablesMap → Text × Text → Option Text → TablesMap
set_at m place None = remove m place
set_at m place (Some value) = insert m place value

abbrev pub changed : TablesMap → Change → TablesMap
changed m c = set_at m (c.table, c.key) c.value

-- the map once this was published: its changes, one after another, of the map as it was, or of the empty one where they are the whole
abbrev pub with_published : TablesMap → Published → TablesMap
with_published m p = fold changed (if p.changes.whole then empty else m) p.changes.list

-- the map after a list of what was published
abbrev pub tables_after : List Published → TablesMap
tables_after list = fold with_published empty list

-- the position of the last of them, 0 where there are none
abbrev pub last_position : List Published → ℕ
last_position list = fold (λ _ p. p.pos) 0 list

-- no position is below the one before it
abbrev pub IsRisingFrom : ℕ → List Published → Type 0
IsRisingFrom least [] = Unit {0}
IsRisingFrom least (p ∷ ps) = (least ≤ p.pos) × IsRisingFrom p.pos ps

-- the list begins with this one
abbrev pub StartsWith : List Published → List Published → Type 0
StartsWith list front = (rest : List Published) × (list ≡ front ++ rest)
