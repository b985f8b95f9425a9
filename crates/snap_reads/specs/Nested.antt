-- The tables as they lie in memory, as one map.
use Rattle.std.specs.Prelude.{not, ℕ, List, [], ◌∷◌, map}
use Rattle.std.specs.Ordering.{is_eq}
use Rattle.std.specs.FinMap.{FinMap, empty, insert, entries, retain_keys}
use Rattle.std.specs.declared.vec.Vec.{Vec}
use Rattle.delos_types.specs.Spaces.{Text, text_cmp}
use Rattle.snap_reads.specs.Tables.{TablesMap}

-- the entries by the bytes of their names
abbrev pub by_text : {Y X : Type 0} → List (Vec ℕ Y × X) → List (Text × X)
by_text es = map (λ e. (e.0.items, e.1)) es

abbrev pub put_all : Text → List (Text × Text) → TablesMap → TablesMap
put_all table [] m = m
put_all table (e ∷ es) m = insert (put_all table es m) (table, e.0) e.1

-- a pair has what its table has at its key
abbrev pub flat : List (Text × FinMap text_cmp Text) → TablesMap
flat [] = empty
flat (e ∷ es) = put_all e.0 (entries e.1) (retain_keys (flat es) (λ place. not (is_eq (text_cmp e.0 place.0))))
