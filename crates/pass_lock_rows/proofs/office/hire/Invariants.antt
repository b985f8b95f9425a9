use Rattle.std.proofs.Common.{◌≡◌, ◌-◌, ◌≤◌, length, vec_capacity}
use Rattle.pass_lock.specs.Pass.{numbered, all_parts}
use Rattle.pass_lock_rows.specs.Office.{AllFresh}
use Rattle.pass_lock_rows.proofs.office.hire.Given as goal

abbrev pub invariant-loop-k : goal.invariant-loop-k
invariant-loop-k g l = (l.main ≡ record l.initial.main { parts = numbered l.k (all_parts - l.k) }) × (length l.clerks.items ≡ l.k) × AllFresh l.lock l.clerks.items × (l.count ≤ vec_capacity l.clerks)
