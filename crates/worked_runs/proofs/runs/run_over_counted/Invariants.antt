use Rattle.std.proofs.Common.{◌≡◌, length, map}
use Rattle.log_laws.specs.Rises.{lowest}
use Rattle.script_runner.specs.Fresh.{AreFreshNodes}
use Rattle.worked_runs.proofs.runs.run_over_counted.OwnLists.{own-1}
use Rattle.worked_runs.proofs.runs.run_over_counted.Given as goal

abbrev pub invariant-node : goal.invariant-node
invariant-node g l = record {
  nodes : AreFreshNodes (λ k. map (λ e. (own-1.entry e.vtable).1.kind_of e.value) k.engines.items) (λ k. lowest (map (λ e. (own-1.entry e.vtable).1.kept e.value) k.engines.items)) (λ k. k.disk) l.nodes.items;
  made : length l.nodes.items ≡ l.counter;
}
