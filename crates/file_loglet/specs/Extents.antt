-- How far a server has got, and how its records change that.
use Rattle.std.specs.Prelude.{◌+◌, Bool, true, if◌then◌else◌, Option, Some, None}
use Rattle.quorum_cell.specs.Servers.{Server, length_of, is_sealed}
use Rattle.file_loglet.specs.declared.extent.Change.{Change}
use Rattle.file_loglet.specs.declared.extent.Change.TheVariants.{Storing, Sealing, Trimming}
use Rattle.file_loglet.specs.declared.extent.Extent.{Extent}

abbrev pub extent_of : Server → Extent
extent_of s = record { base = s.base; length = length_of s; sealed = is_sealed s }

abbrev pub extent_after : Extent → Change → Extent
extent_after x Storing = record x { length = x.length + 1 }
extent_after x Sealing = record x { sealed = true }
extent_after x (Trimming n) = record x { base = n }

abbrev pub extent_restarted : Extent → Bool → Option Change → Extent
extent_restarted x kept None = x
extent_restarted x kept (Some change) = if kept then extent_after x change else x
