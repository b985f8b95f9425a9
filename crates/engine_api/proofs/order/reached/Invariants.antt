use Rattle.std.proofs.Common.{◌≡◌, ℕ, ◌+◌, ◌-◌, ◌<◌, ◌≤◌, true, is_some}
use Rattle.engine_api.specs.Order.{first_of}
use Rattle.engine_api.proofs.order.reached.Given as goal

abbrev pub invariant-loop-reached : goal.invariant-loop-reached
invariant-loop-reached l = (l.last ≤ l.reached) × ((q : ℕ) → l.last + 1 ≤ q → q < l.reached + 1 → is_some (first_of l.seen l.session q) ≡ true)

abbrev pub decreases-loop-reached : goal.decreases-loop-reached
decreases-loop-reached l = l.top - l.reached
