use Rattle.std.proofs.Common.{sym, ap, ◌∙◌}
use Rattle.std.specs.FinMap as map
use Rattle.table_core.proofs.Ranges.{entries-from_entries}
use Rattle.table_core.proofs.table.Table.iter.Goals as goal

pub returns-clause-entries : goal.returns-clause-entries
returns-clause-entries c = c.iter.ensures.rest ∙ sym (entries-from_entries c.self.inside.entries.entries c.iter.ensures.ordered) ∙ ap map.entries c.self.view_is
