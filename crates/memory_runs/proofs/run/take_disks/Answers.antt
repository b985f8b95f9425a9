use Rattle.std.proofs.Common.{◌≡◌, ◌<◌, ◌∷◌, ◌++◌, length, map, sym, ap, ◌∙◌, refl, arith}
use Rattle.std.proofs.lemmas.List.{nil_from_length}
use Rattle.node_opening.proofs.Lists.{taken_first, goes_over, all_over}
use Rattle.memory_runs.proofs.run.take_disks.Goals as goal

pub loop-nodes-preserved : goal.loop-nodes-preserved
loop-nodes-preserved g c =
    let view = g.D.Disk.view in
    let l = c.loop-nodes in
    let w = c.remove-disk.result in
    let some : 0 < length l.nodes.items = grind (arith, c.loop-nodes-test.true, c.is_empty.ensures) in
    let is = taken_first l.nodes.items w some c.remove-disk.ensures.value ∙ ap (λ x. w ∷ x) (sym c.remove-disk.ensures.items) in
    record {
      room = grind (arith, l.invariant.room, c.remove-disk.ensures.len, c.push_reserved.ensures.len, c.push_reserved.ensures.capacity);
      disks = ap (λ x. map (λ d. view d) x ++ map (λ k. view k.disk) c.remove-disk.new.self.items) c.push_reserved.ensures.items
          ∙ goes_over (λ d. view d) (λ k. view k.disk) l.disks.items l.nodes.items c.remove-disk.new.self.items w.disk w (map (λ k. view k.disk) c.args.nodes.items) refl is l.invariant.disks;
      faults = ap (λ x. map (λ d. (view d).faults) x ++ map (λ k. (view k.disk).faults) c.remove-disk.new.self.items) c.push_reserved.ensures.items
          ∙ goes_over (λ d. (view d).faults) (λ k. (view k.disk).faults) l.disks.items l.nodes.items c.remove-disk.new.self.items w.disk w (map (λ k. (view k.disk).faults) c.args.nodes.items) refl is l.invariant.faults;
    }

pub returns-clause-disks : goal.returns-clause-disks
returns-clause-disks g c =
    let l = c.loop-nodes in
    let over : length l.nodes.items ≡ 0 = grind (arith, c.loop-nodes-test.false, c.is_empty.ensures) in
    all_over (λ d. g.D.Disk.view d) (λ k. g.D.Disk.view k.disk) l.disks.items l.nodes.items (map (λ k. g.D.Disk.view k.disk) c.args.nodes.items) (nil_from_length l.nodes.items over) l.invariant.disks

pub returns-clause-faults : goal.returns-clause-faults
returns-clause-faults g c =
    let l = c.loop-nodes in
    let over : length l.nodes.items ≡ 0 = grind (arith, c.loop-nodes-test.false, c.is_empty.ensures) in
    all_over (λ d. (g.D.Disk.view d).faults) (λ k. (g.D.Disk.view k.disk).faults) l.disks.items l.nodes.items (map (λ k. (g.D.Disk.view k.disk).faults) c.args.nodes.items) (nil_from_length l.nodes.items over) l.invariant.faults
