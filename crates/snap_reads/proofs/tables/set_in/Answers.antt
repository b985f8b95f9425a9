use Rattle.std.proofs.Common.{◌≡◌, Some, None, sym, subst, ap, ◌∙◌}
use Rattle.std.specs.Prelude.{is_some}
use Rattle.std.specs.FinMap as map
use Rattle.snap_reads.specs.Nested.{by_text, flat}
use Rattle.snap_reads.proofs.Nested.{found, found-by_text, updated, rows_with, rows_made, pair_set, same_rows, on_ok, on_err}
use Rattle.snap_reads.proofs.tables.set_in.Goals as goal

pub returns-in-Some-clause-ok : goal.returns-in-Some-clause-ok
returns-in-Some-clause-ok c =
    let old = c.args.tables.now in
    let new = c.get_mut.follows.lender c.set.new.self in
    let there = found-by_text old.entries c.args.table.now ∙ sym c.in-Some.ensures.value in
    let tables = updated c.args.table.now old new (Some c.set.new.self) ((c.get_mut.follows.holds c.set.new.self).3 (ap is_some (sym c.in-Some.ensures.value))) in
    on_ok c.set.result (λ is. pair_set (by_text old.entries) (by_text new.entries) c.args.table.now c.args.key.now c.args.value c.set.new.self tables
    (rows_with c.in-Some.rows.now c.set.new.self (by_text old.entries) c.args.table.now c.args.key.now c.args.value there is)) c.set.ensures.ok

pub returns-in-Some-clause-err : goal.returns-in-Some-clause-err
returns-in-Some-clause-err c =
    let old = c.args.tables.now in
    let new = c.get_mut.follows.lender c.set.new.self in
    let there = found-by_text old.entries c.args.table.now ∙ sym c.in-Some.ensures.value in
    let tables = updated c.args.table.now old new (Some c.set.new.self) ((c.get_mut.follows.holds c.set.new.self).3 (ap is_some (sym c.in-Some.ensures.value))) in
    on_err c.set.result (λ is. same_rows (by_text old.entries) (by_text new.entries) c.args.table.now c.in-Some.rows.now c.set.new.self there is tables) c.set.ensures.err

pub returns-clause-ok : goal.returns-clause-ok
returns-clause-ok c =
    let old = c.get_mut.follows.lender-at-none in
    let new = c.insert.new.self in
    let table = c.in_ok-table.table.items in
    let rows = c.set-2.new.self in
    let same : table ≡ c.args.table.now = c.in_ok-table.ensures.items in
    let none = ap (λ n. found (by_text n.entries) table) c.get_mut.follows.holds-at-none ∙ ap (found (by_text c.args.tables.now.entries)) same ∙ found-by_text c.args.tables.now.entries c.args.table.now ∙ sym c.in_default.ensures.value in
    pair_set (by_text old.entries) (by_text new.entries) table c.args.key.now c.args.value rows
    (updated table old new (Some rows) c.in_ok-insert.ensures.updates)
    (rows_made c.new-rows.result rows (by_text old.entries) table c.args.key.now c.args.value none c.new-rows.ensures c.in_ok-set.ensures.ok)
    ∙ ap (λ n. map.insert (flat (by_text n.entries)) (table, c.args.key.now) c.args.value) c.get_mut.follows.holds-at-none
    ∙ ap (λ t. map.insert (flat (by_text c.args.tables.now.entries)) (t, c.args.key.now) c.args.value) same
