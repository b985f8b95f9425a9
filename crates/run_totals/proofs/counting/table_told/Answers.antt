use Rattle.std.proofs.Common.{◌≡◌, ap, ◌∙◌, [], subst, IfOk}
use Rattle.run_totals.specs.Replay.{with_acts, acts_told}
use Rattle.run_totals.proofs.Replaying.{by-turns}
use Rattle.run_totals.proofs.counting.table_told.Goals as goal

pub returns : goal.returns
returns c =
    let turns = c.in_ok-turns.ensures ∙ ap (λ rows. with_acts [] (acts_told c.args.lines.now rows)) c.as_slice.ensures in
    subst (λ t. IfOk c.table_by.result (λ table. table ≡ t)) (by-turns c.args.lines.now c.args.told.now c.in_ok-turns.turns.entries turns) c.table_by.ensures
