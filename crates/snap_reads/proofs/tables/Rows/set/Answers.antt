use Rattle.std.proofs.Common.{Some, sym, subst, ap, ◌∙◌}
use Rattle.std.specs.Prelude.{is_some}
use Rattle.std.specs.FinMap as map
use Rattle.snap_reads.specs.Nested.{by_text}
use Rattle.snap_reads.proofs.Nested.{updated, rows_set}
use Rattle.snap_reads.proofs.tables.Rows.set.Goals as goal

pub returns-in-Some-clause-ok : goal.returns-in-Some-clause-ok
returns-in-Some-clause-ok c =
    let new = c.get_mut.follows.lender c.args.value in
    rows_set (by_text c.self.inside.entries.entries) (by_text new.entries) c.args.key.now c.args.value
    (updated c.args.key.now c.self.inside.entries new (Some c.args.value) ((c.get_mut.follows.holds c.args.value).3 (ap is_some (sym c.in-Some.ensures.value))))
    ∙ ap (λ m. map.insert m c.args.key.now c.args.value) c.self.view_is

pub returns-clause-ok : goal.returns-clause-ok
returns-clause-ok c =
    let key = c.in_ok-key.key.items in
    rows_set (by_text c.get_mut.follows.lender-at-none.entries) (by_text c.insert.new.self.entries) key c.args.value
    (updated key c.get_mut.follows.lender-at-none c.insert.new.self (Some c.args.value) c.in_ok-insert.ensures.updates)
    ∙ ap (λ n. map.insert (map.from_entries (by_text n.entries)) key c.args.value) c.get_mut.follows.holds-at-none
    ∙ ap (λ m. map.insert m key c.args.value) c.self.view_is
    ∙ ap (λ k. map.insert c.args.self.now k c.args.value) c.in_ok-key.ensures.items
