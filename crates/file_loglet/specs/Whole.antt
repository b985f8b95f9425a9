-- What stands behind the view of a file loglet.
use Rattle.std.specs.Prelude.{◌≡◌, ℕ, List}
use Rattle.delos_types.specs.declared.entry.Entry.{Entry}
use Rattle.quorum_cell.specs.Cells.{Cell}
use Rattle.file_loglet.specs.declared.marks.Marks.{Marks}
use Rattle.file_loglet.specs.Held.{Held}
use Rattle.file_loglet.specs.Pending.{PendingMap}
use Rattle.file_loglet.specs.File.{file_view}
use Rattle.file_loglet.specs.Steps.{IsCellOf}

-- its fields are those of a quorum cell of one server, which holds the same entries, trimmed ones too
pub record IsWhole (room : ℕ) (entries : List Entry) (held : Held) (marks : Marks) (pending : PendingMap) : Type 0 where
  pub cell : Cell
  pub is : IsCellOf (file_view room entries held marks pending) cell
  pub keeps : cell.entries ≡ entries
