use Rattle.std.proofs.Common.{◌≡◌, ◌+◌, ◌++◌, take, drop, get_or}
use Rattle.engine_api.specs.Order.{acted_after, acted_from}
use Rattle.engine_api.proofs.order.acted_from.Given as goal

abbrev pub invariant-loop-at : goal.invariant-loop-at
invariant-loop-at l =
    let start = λ (s : _). get_or l.acted s 0 + 1 in
    l.out.items ++ acted_after start (take l.at l.seen) (drop l.at l.seen) ≡ acted_from start l.seen
