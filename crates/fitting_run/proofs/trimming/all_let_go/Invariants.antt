use Rattle.std.proofs.Common.{◌≡◌, ◌+◌, ◌-◌, ◌&&◌, ◌||◌, ◌==◌}
use Rattle.std.specs.List.{list_all, list_any}
use Rattle.engine_api.specs.Order.{numbers}
use Rattle.fitting_run.specs.Lines.{asks_to_leave}
use Rattle.fitting_run.specs.Trims.{each_node, is_reported}
use Rattle.fitting_run.proofs.trimming.all_let_go.Given as goal

abbrev pub invariant-loop-number : goal.invariant-loop-number
invariant-loop-number l =
    list_all (λ node. list_any (λ a. (a.line.node == node) && (asks_to_leave a.line.asks || is_reported l.n l.items a)) l.told) (numbers l.number (l.nodes + 1 - l.number))
    ≡ each_node l.nodes (λ a. asks_to_leave a.line.asks || is_reported l.n l.items a) l.told
