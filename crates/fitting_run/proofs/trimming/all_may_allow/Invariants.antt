use Rattle.std.proofs.Common.{◌≡◌, ◌+◌, ◌-◌, ◌&&◌, ◌==◌, ◌++◌, not}
use Rattle.std.specs.Prelude.{filter}
use Rattle.std.specs.List.{list_all, list_any}
use Rattle.engine_api.specs.Order.{numbers}
use Rattle.fitting_run.specs.Replacements.{is_behind}
use Rattle.fitting_run.specs.Trims.{each_node, may_allow}
use Rattle.fitting_run.proofs.trimming.all_may_allow.Given as goal

abbrev pub invariant-loop-number : goal.invariant-loop-number
invariant-loop-number l =
    list_all (λ node. list_any (λ a. (a.line.node == node) && may_allow l.n a) (l.above ++ filter (λ a. not (is_behind l.b a)) l.below)) (numbers l.number (l.nodes + 1 - l.number))
    ≡ each_node l.nodes (may_allow l.n) (l.above ++ filter (λ a. not (is_behind l.b a)) l.below)
