use Rattle.std.proofs.Common.{sym, subst, List, map}
use Rattle.script_text.specs.declared.asks.Asks.TheVariants as asks
use Rattle.run_ends.specs.Closing.{WorkerEnd}
use Rattle.run_ends.specs.Rows.{Tells, desk_for}
use Rattle.run_closing.proofs.First.{ok_then}
use Rattle.run_closing.proofs.rows.outcome_of.Goals as goal

pub returns-in-Logged : goal.returns-in-Logged
returns-in-Logged g c =
    let a = c.args in
    let s = c.in-Logged.session in
    let workers : List WorkerEnd = map (λ w. record { seat = w.seat; desks = w.desks.items }) a.workers.now in
    ok_then c.logged_outcome.result c.logged_outcome.ensures (λ o told.
    subst (λ x. Tells (desk_for workers a.line.now.node x) a.look.now x o) (sym c.in-Logged.is)
    (subst (λ desk. Tells desk a.look.now (asks.Logged s c.in-Logged.rank c.in-Logged.command) o) (sym c.desk_of-desk.ensures) (told s c.in-Logged.command a.look.now)))
