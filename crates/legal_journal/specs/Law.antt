-- What makes a journal legal.
use Rattle.std.specs.Prelude.{ℕ, List}
use Rattle.delos_types.specs.declared.entry.Entry.{Entry}

-- what the users of a fabric keep to
pub record Law : Type 1 where
  -- who may append what
  pub may : ℕ → Entry → Type 0
  -- to which positions the log may be trimmed, where it shows these entries from position 0 on
  pub floor : List Entry → ℕ → Type 0
  -- the numbers of servers of the cells
  pub shelf : List ℕ
