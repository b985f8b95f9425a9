use Rattle.std.proofs.Common.{◌≡◌, ◌≤◌, ◌+◌, ◌++◌, map, length, drop}
use Rattle.std.specs.List.{AllByRecursion}
use Rattle.std.specs.Vec.{vec_capacity}
use Rattle.local_replica.specs.Shown.{shown}
use Rattle.fitting_run.specs.Fresh.{IsFreshNode}
use Rattle.node_opening.specs.Opened.{IsCounted, AreFreshReplicas, AreArmedAs, AreLeftOf}
use Rattle.node_opening.proofs.opening.open_all.Given as goal

abbrev pub invariant-loop-k : goal.invariant-loop-k
invariant-loop-k g l = record {
  rest : AllByRecursion (λ k. IsFreshNode (g.E.Layers.kinds k.engines) (g.E.Layers.waiting k.engines) (g.D.Disk.view k.disk)) l.parts.items;
  fresh : AreFreshReplicas (λ n. shown n.replica.store n.replica.origin (g.E.Layers.waiting n.replica.engines) n.replica.stops n.replica.reopenings) l.nodes.items;
  counted : AllByRecursion (λ n. IsCounted (shown n.replica.store n.replica.origin (g.E.Layers.waiting n.replica.engines) n.replica.stops n.replica.reopenings)) l.nodes.items;
  armed : AreArmedAs (λ n. shown n.replica.store n.replica.origin (g.E.Layers.waiting n.replica.engines) n.replica.stops n.replica.reopenings) (λ k. g.D.Disk.view k.disk) l.nodes.items l.initial.parts.items;
  disks : AreLeftOf (λ n. n.replica.store.disk) (λ k. g.D.Disk.view k.disk) l.nodes.items l.initial.parts.items;
  behind : l.parts.items ≡ drop l.k l.initial.parts.items;
  count : l.count ≡ length l.initial.parts.items;
  done : length l.nodes.items ≡ l.k;
  left : length l.parts.items + l.k ≡ length l.initial.parts.items;
  room : length l.initial.parts.items ≤ vec_capacity l.parts;
  nodes_room : vec_capacity l.nodes ≡ length l.initial.parts.items;
  engines : map (λ n. n.replica.engines) l.nodes.items ++ map (λ k. k.engines) l.parts.items ≡ map (λ k. k.engines) l.initial.parts.items;
  choosers : map (λ n. n.chooser) l.nodes.items ++ map (λ k. k.chooser) l.parts.items ≡ map (λ k. k.chooser) l.initial.parts.items;
}
