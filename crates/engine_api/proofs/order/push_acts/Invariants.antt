use Rattle.std.proofs.Common.{◌≡◌, ◌+◌, ◌-◌, ◌++◌, ◌≤◌}
use Rattle.std.specs.Prelude.{filter_map}
use Rattle.engine_api.specs.Order.{act_at, numbers}
use Rattle.engine_api.proofs.order.push_acts.Given as goal

abbrev pub invariant-loop-rank : goal.invariant-loop-rank
invariant-loop-rank l =
    (l.before ≤ l.rank)
    × (l.out.items ++ filter_map (act_at l.seen l.x) (numbers (l.rank + 1) (l.after - l.rank))
    ≡ l.initial.out.items ++ filter_map (act_at l.seen l.x) (numbers (l.before + 1) (l.after - l.before)))

abbrev pub decreases-loop-rank : goal.decreases-loop-rank
decreases-loop-rank l = l.after - l.rank
