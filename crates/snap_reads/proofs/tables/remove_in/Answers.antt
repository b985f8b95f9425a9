use Rattle.std.proofs.Common.{◌≡◌, Some, None, sym, ap, ◌∙◌}
use Rattle.std.specs.Prelude.{is_some}
use Rattle.snap_reads.specs.Nested.{by_text, flat}
use Rattle.snap_reads.proofs.Nested.{found, found-by_text, updated, rows_without, pair_removed, none_removed}
use Rattle.snap_reads.proofs.tables.remove_in.Goals as goal

pub returns-in-Some : goal.returns-in-Some
returns-in-Some c =
    let old = c.args.tables.now in
    let new = c.get_mut.follows.lender c.remove.new.self in
    let there = found-by_text old.entries c.args.table.now ∙ sym c.in-Some.ensures.value in
    pair_removed (by_text old.entries) (by_text new.entries) c.args.table.now c.args.key.now c.remove.new.self
    (updated c.args.table.now old new (Some c.remove.new.self) ((c.get_mut.follows.holds c.remove.new.self).3 (ap is_some (sym c.in-Some.ensures.value))))
    (rows_without c.in-Some.rows.now c.remove.new.self (by_text old.entries) c.args.table.now c.args.key.now there c.remove.ensures)

pub returns-in_default : goal.returns-in_default
returns-in_default c =
    ap (λ n. flat (by_text n.entries)) c.get_mut.follows.holds-at-none
    ∙ none_removed (by_text c.args.tables.now.entries) c.args.table.now c.args.key.now (found-by_text c.args.tables.now.entries c.args.table.now ∙ sym c.in_default.ensures.value)
