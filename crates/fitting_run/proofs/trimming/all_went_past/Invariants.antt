use Rattle.std.proofs.Common.{◌≡◌, ◌+◌, ◌-◌, ◌&&◌, ◌==◌}
use Rattle.std.specs.List.{list_all, list_any}
use Rattle.engine_api.specs.Order.{numbers}
use Rattle.fitting_run.specs.Trims.{each_node, went_past}
use Rattle.fitting_run.proofs.trimming.all_went_past.Given as goal

abbrev pub invariant-loop-number : goal.invariant-loop-number
invariant-loop-number l =
    list_all (λ node. list_any (λ a. (a.line.node == node) && went_past l.trim l.b a) l.above) (numbers l.number (l.nodes + 1 - l.number)) ≡ each_node l.nodes (went_past l.trim l.b) l.above
