-- Up to where the nodes of a run may trim the log.
use Rattle.std.specs.Prelude.{◌≤◌, ℕ, min, List, length}
use Rattle.delos_types.specs.declared.entry.Entry.{Entry}
use Rattle.engine_api.specs.Acted.{unpack_all}
use Rattle.engine_api.specs.Members.{least_position, trim_point}

-- Nobody needs the first n of these entries again: a trim of so many was asked for, and each member reported so many. And a trim of
-- fewer than the lesser of the two, as far as the entries go, is none.
pub record MayTrim (nodes : ℕ) (log : List Entry) (n : ℕ) : Type 0 where
  pub within : n ≤ length log
  pub point : n ≤ trim_point (unpack_all 0 log)
  pub least : n ≤ least_position nodes (unpack_all 0 log)
  pub whole : min (length log) (min (trim_point (unpack_all 0 log)) (least_position nodes (unpack_all 0 log))) ≤ n

-- so many entries may be trimmed, and no others
pub record FloorIs (floor : List Entry → ℕ → Type 0) (nodes : ℕ) : Type 0 where
  pub only : (log : List Entry) (n : ℕ) → floor log n → MayTrim nodes log n
  pub free : (log : List Entry) (n : ℕ) → MayTrim nodes log n → floor log n
