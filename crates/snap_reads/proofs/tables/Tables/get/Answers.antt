use Rattle.std.proofs.Common.{sym, ap, ◌∙◌}
use Rattle.std.specs.FinMap as map
use Rattle.snap_reads.specs.Nested.{by_text}
use Rattle.snap_reads.proofs.Nested.{found-by_text, get-flat, get_in}
use Rattle.snap_reads.proofs.tables.Tables.get.Goals as goal

pub returns-in-Some : goal.returns-in-Some
returns-in-Some c =
    let es = c.self.inside.tables.entries in
    c.get-in-Some.ensures ∙ ap (λ o. get_in o c.args.key.now) (c.in-Some.ensures.value ∙ sym (found-by_text es c.args.table.now))
    ∙ sym (get-flat (by_text es) c.args.table.now c.args.key.now) ∙ ap (λ m. map.get m (c.args.table.now, c.args.key.now)) c.self.view_is

pub returns-in-None : goal.returns-in-None
returns-in-None c =
    let es = c.self.inside.tables.entries in
    ap (λ o. get_in o c.args.key.now) (c.in-None.ensures.value ∙ sym (found-by_text es c.args.table.now))
    ∙ sym (get-flat (by_text es) c.args.table.now c.args.key.now) ∙ ap (λ m. map.get m (c.args.table.now, c.args.key.now)) c.self.view_is
