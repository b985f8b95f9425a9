use Rattle.std.proofs.Common.{None, ap, ◌∙◌}
use Rattle.std.specs.FinMap as map
use Rattle.snap_reads.specs.Nested.{by_text}
use Rattle.snap_reads.proofs.Nested.{updated, rows_removed}
use Rattle.snap_reads.proofs.tables.Rows.remove.Goals as goal

pub returns : goal.returns
returns c =
    rows_removed (by_text c.self.inside.entries.entries) (by_text c.remove.new.self.entries) c.args.key.now (updated c.args.key.now c.self.inside.entries c.remove.new.self None c.remove.ensures.updates)
    ∙ ap (λ m. map.remove m c.args.key.now) c.self.view_is
