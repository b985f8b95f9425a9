use Rattle.std.proofs.Common.{◌≡◌, ◌≤◌, ◌+◌, ◌++◌, map, length}
use Rattle.std.specs.List.{AllByRecursion}
use Rattle.std.specs.Vec.{vec_capacity}
use Rattle.fitting_run.specs.Fresh.{five_kinds}
use Rattle.node_opening.proofs.closing.close_before.Given as goal

abbrev pub invariant-loop-nodes : goal.invariant-loop-nodes
invariant-loop-nodes g l = record {
  room : length l.nodes.items + length l.parts.items ≤ vec_capacity l.parts;
  kept : vec_capacity l.initial.parts ≤ vec_capacity l.parts;
  kinds : AllByRecursion (λ k. g.E.Layers.kinds k.engines ≡ five_kinds) l.parts.items;
  engines : map (λ n. n.replica.engines) l.nodes.items ++ map (λ k. k.engines) l.parts.items ≡ map (λ n. n.replica.engines) l.initial.nodes.items ++ map (λ k. k.engines) l.initial.parts.items;
  choosers : map (λ n. n.chooser) l.nodes.items ++ map (λ k. k.chooser) l.parts.items ≡ map (λ n. n.chooser) l.initial.nodes.items ++ map (λ k. k.chooser) l.initial.parts.items;
  disks : map (λ n. n.replica.store.disk) l.nodes.items ++ map (λ k. g.D.Disk.view k.disk) l.parts.items ≡ map (λ n. n.replica.store.disk) l.initial.nodes.items ++ map (λ k. g.D.Disk.view k.disk) l.initial.parts.items;
}

abbrev pub decreases-loop-nodes : goal.decreases-loop-nodes
decreases-loop-nodes g l = length l.nodes.items
