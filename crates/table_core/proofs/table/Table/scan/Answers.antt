use Rattle.std.proofs.Common.{sym, ap, ◌∙◌, ◌≡◌, IfOk, subst}
use Rattle.table_core.specs.Find.{pairs_of, pairs_between}
use Rattle.table_core.proofs.Ranges.{pairs_of-entries_between, pairs_between-backward}
use Rattle.table_core.proofs.table.Table.scan.Goals as goal

pub returns-then-ge : goal.returns-then-ge
returns-then-ge c =
    c.from_vec.ensures ∙ c.new.ensures.items
    ∙ sym (pairs_between-backward c.args.self.now c.args.low.now c.args.high.now (sym c.ge.ensures ∙ c.if-ge.true))

pub returns : goal.returns
returns c =
    let spelled : pairs_of c.range.result ≡ pairs_between c.args.self.now c.args.low.now c.args.high.now =
    ap pairs_of (c.range.ensures.between tt) ∙ pairs_of-entries_between c.self.inside.entries.entries c.args.low.now c.args.high.now c.range.ensures.ordered
    ∙ ap (λ m. pairs_between m c.args.low.now c.args.high.now) c.self.view_is in
    subst (λ l. IfOk c.copies.result (λ found. found ≡ l)) spelled c.copies.ensures
