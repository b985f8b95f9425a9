-- What stands in a file loglet once it was answered.
use Rattle.std.specs.Prelude.{◌≡◌, ℕ, ◌-◌, ◌<◌, ◌≤◌, slice_get, Some}
use Rattle.delos_types.specs.declared.entry.Entry.{Entry}
use Rattle.quorum_cell.specs.Servers.{length_of}
use Rattle.file_loglet.specs.File.{FileView}

-- the entry stands at the position: the loglet has it there, unless it was trimmed; the server has the position, and where it still keeps it, this entry there
pub record Stands (v : FileView) (p : ℕ) (e : Entry) : Type 0 where
  pub entry : v.loglet.cut ≤ p → slice_get v.loglet.log (p - v.loglet.cut) ≡ Some e
  pub stored : p < length_of v.server
  pub copy : v.server.base ≤ p → slice_get v.server.entries (p - v.server.base) ≡ Some e
