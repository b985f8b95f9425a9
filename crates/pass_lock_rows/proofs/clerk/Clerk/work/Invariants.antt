use Rattle.pass_lock_rows.specs.Turns.{Made}
use Rattle.pass_lock_rows.proofs.clerk.Clerk.work.Given as goal

abbrev pub invariant-loop-n : goal.invariant-loop-n
invariant-loop-n g l = Made l.initial.self l.n l.self
