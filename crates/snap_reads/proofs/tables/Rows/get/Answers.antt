use Rattle.std.proofs.Common.{sym, ap, ◌∙◌}
use Rattle.std.specs.FinMap as map
use Rattle.snap_reads.specs.Nested.{by_text}
use Rattle.snap_reads.proofs.Nested.{found-by_text, get_rows}
use Rattle.snap_reads.proofs.tables.Rows.get.Goals as goal

pub returns : goal.returns
returns c =
    let es = c.self.inside.entries.entries in
    c.get.ensures.value ∙ sym (found-by_text es c.args.key.now) ∙ sym (get_rows (by_text es) c.args.key.now) ∙ ap (λ m. map.get m c.args.key.now) c.self.view_is
