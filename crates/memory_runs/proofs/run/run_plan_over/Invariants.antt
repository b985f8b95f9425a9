use Rattle.std.proofs.Common.{◌≡◌, ◌+◌, ◌++◌, length, map}
use Rattle.std.specs.List.{AllByRecursion}
use Rattle.log_laws.specs.Rises.{lowest}
use Rattle.script_runner.specs.Fresh.{AreFreshNodes}
use Rattle.memory_runs.specs.Disks.{IsFreshDisk}
use Rattle.memory_runs.proofs.run.run_plan_over.OwnLists.{own-1}
use Rattle.memory_runs.proofs.run.run_plan_over.Given as goal

abbrev pub invariant-node : goal.invariant-node
invariant-node g l = record {
  left : length l.disks.items + l.counter ≡ l.count;
  fresh : AllByRecursion (λ d. IsFreshDisk (g.D.Disk.view d)) l.disks.items;
  nodes : AreFreshNodes (λ k. map (λ e. (own-1.entry e.vtable).1.kind_of e.value) k.engines.items) (λ k. lowest (map (λ e. (own-1.entry e.vtable).1.kept e.value) k.engines.items)) (λ k. g.D.Disk.view k.disk) l.nodes.items;
  made : length l.nodes.items ≡ l.counter;
  same : map (λ k. g.D.Disk.view k.disk) l.nodes.items ++ map (λ d. g.D.Disk.view d) l.disks.items ≡ map (λ d. g.D.Disk.view d) l.initial.disks.items;
}
