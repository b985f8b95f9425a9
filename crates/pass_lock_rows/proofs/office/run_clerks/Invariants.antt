use Rattle.std.proofs.Common.{length, vec_len}
use Rattle.pass_lock_rows.specs.Office.{AllBack, Collected}
use Rattle.pass_lock_rows.proofs.office.run_clerks.Given as goal

abbrev pub decreases-loop-clerk : goal.decreases-loop-clerk
decreases-loop-clerk g l = vec_len l.clerks

abbrev pub invariant-loop-clerk : goal.invariant-loop-clerk
invariant-loop-clerk g l = Collected l.lock l.count l.turns (length l.clerks.items) l.main × AllBack l.lock l.turns l.clerks.items
