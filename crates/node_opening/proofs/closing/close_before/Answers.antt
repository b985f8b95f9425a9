use Rattle.std.proofs.Common.{◌≡◌, ◌++◌, length, map, sym, ◌∙◌, subst, arith}
use Rattle.std.proofs.lemmas.Bool.{eqb-true}
use Rattle.std.proofs.lemmas.List.{nil_from_length}
use Rattle.std.specs.List.{AllByRecursion}
use Rattle.node_opening.proofs.Lists.{goes_back, all_there}
use Rattle.fitting_run.specs.Fresh.{five_kinds}
use Rattle.node_opening.proofs.closing.close_before.Goals as goal

pub loop-nodes-preserved : goal.loop-nodes-preserved
loop-nodes-preserved g c =
    let l = c.loop-nodes in
    let t = c.take_last-node in
    let k = c.close_node in
    let p = c.put_first in
    let a = c.args in
    let view = g.D.Disk.view in
    record {
      room = grind (arith, l.invariant.room, t.ensures.len, p.ensures.items, p.ensures.room);
      kept = grind (arith, l.invariant.kept, p.ensures.room);
      kinds = subst (AllByRecursion (λ k. g.E.Layers.kinds k.engines ≡ five_kinds)) (sym p.ensures.items) (k.ensures.kinds, l.invariant.kinds);
      engines = goes_back (λ n. n.replica.engines) (λ k. k.engines) l.nodes.items t.new.self.items l.parts.items p.new.parts.items t.result k.result (map (λ n. n.replica.engines) a.nodes.items ++ map (λ k. k.engines) a.parts.now.items) k.ensures.engines t.ensures.items p.ensures.items l.invariant.engines;
      choosers = goes_back (λ n. n.chooser) (λ k. k.chooser) l.nodes.items t.new.self.items l.parts.items p.new.parts.items t.result k.result (map (λ n. n.chooser) a.nodes.items ++ map (λ k. k.chooser) a.parts.now.items) k.ensures.chooser t.ensures.items p.ensures.items l.invariant.choosers;
      disks = goes_back (λ n. n.replica.store.disk) (λ k. view k.disk) l.nodes.items t.new.self.items l.parts.items p.new.parts.items t.result k.result (map (λ n. n.replica.store.disk) a.nodes.items ++ map (λ k. view k.disk) a.parts.now.items) k.ensures.disk t.ensures.items p.ensures.items l.invariant.disks;
    }

pub returns-clause-engines : goal.returns-clause-engines
returns-clause-engines g c =
    let l = c.loop-nodes in
    let over : length l.nodes.items ≡ 0 = sym l.nodes.ok.0 ∙ eqb-true l.nodes.len 0 (sym c.is_empty.ensures ∙ c.loop-nodes-test.false) in
    all_there (λ n. n.replica.engines) (λ k. k.engines) l.nodes.items l.parts.items (map (λ n. n.replica.engines) c.args.nodes.items ++ map (λ k. k.engines) c.args.parts.now.items) (nil_from_length l.nodes.items over) l.invariant.engines

pub returns-clause-choosers : goal.returns-clause-choosers
returns-clause-choosers g c =
    let l = c.loop-nodes in
    let over : length l.nodes.items ≡ 0 = sym l.nodes.ok.0 ∙ eqb-true l.nodes.len 0 (sym c.is_empty.ensures ∙ c.loop-nodes-test.false) in
    all_there (λ n. n.chooser) (λ k. k.chooser) l.nodes.items l.parts.items (map (λ n. n.chooser) c.args.nodes.items ++ map (λ k. k.chooser) c.args.parts.now.items) (nil_from_length l.nodes.items over) l.invariant.choosers

pub returns-clause-disks : goal.returns-clause-disks
returns-clause-disks g c =
    let l = c.loop-nodes in
    let view = g.D.Disk.view in
    let over : length l.nodes.items ≡ 0 = sym l.nodes.ok.0 ∙ eqb-true l.nodes.len 0 (sym c.is_empty.ensures ∙ c.loop-nodes-test.false) in
    all_there (λ n. n.replica.store.disk) (λ k. view k.disk) l.nodes.items l.parts.items (map (λ n. n.replica.store.disk) c.args.nodes.items ++ map (λ k. view k.disk) c.args.parts.now.items) (nil_from_length l.nodes.items over) l.invariant.disks
