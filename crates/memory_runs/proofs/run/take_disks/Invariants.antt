use Rattle.std.proofs.Common.{◌≡◌, ◌≤◌, ◌+◌, ◌++◌, map, length}
use Rattle.std.specs.Vec.{vec_capacity}
use Rattle.memory_runs.proofs.run.take_disks.Given as goal

abbrev pub invariant-loop-nodes : goal.invariant-loop-nodes
invariant-loop-nodes g l = record {
  room : length l.nodes.items + length l.disks.items ≤ vec_capacity l.disks;
  disks : map (λ d. g.D.Disk.view d) l.disks.items ++ map (λ k. g.D.Disk.view k.disk) l.nodes.items ≡ map (λ k. g.D.Disk.view k.disk) l.initial.nodes.items;
  faults : map (λ d. (g.D.Disk.view d).faults) l.disks.items ++ map (λ k. (g.D.Disk.view k.disk).faults) l.nodes.items ≡ map (λ k. (g.D.Disk.view k.disk).faults) l.initial.nodes.items;
}

abbrev pub decreases-loop-nodes : goal.decreases-loop-nodes
decreases-loop-nodes g l = length l.nodes.items
