use Rattle.std.proofs.Common.{◌≡◌, ◌+◌, ap, ◌∙◌, subst, IfOk, slice_index, rules}
use Rattle.std.specs.FinMap as finmap
use Rattle.engine_api.specs.Acted.{acted_log, table_after}
use Rattle.fitting_run.specs.Acts.{acts_below}
use Rattle.fitting_run.specs.Turns.{AreNumbers}
use Rattle.fitting_run.proofs.Turning.{starts}
use Rattle.fitting_run.proofs.acting.acted_behind.Goals as goal

pub returns : goal.returns
returns c =
    let below = acts_below c.args.trim c.args.acts.now in
    let table : c.in_ok-table.table ≡ table_after finmap.empty below = search rules in
    let are : AreNumbers c.numbers_of-numbers.result below = search rules in
    subst (λ log. IfOk c.acted_log.result (λ done. done.acts ≡ log))
    (
    ap (λ t. acted_log t (λ s. slice_index c.numbers_of-numbers.result s + 1) c.args.trim c.args.entries.now) table
    ∙ ap (λ start. acted_log (table_after finmap.empty below) start c.args.trim c.args.entries.now) (starts c.numbers_of-numbers.result below are)
    )
    c.acted_log.ensures.acts
