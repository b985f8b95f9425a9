use Rattle.std.proofs.Common.{◌≡◌, ◌≢◌, ◌<◌, ◌∷◌, None, ap, arith, length, map, refl, inl, subst, sym, ◌∙◌}
use Rattle.std.specs.List.{AllByRecursion}
use Rattle.std.proofs.lemmas.List.{nil_from_length}
use denote.Param.Object.{read_made}
use Rattle.batch_engine.specs.declared.BatchEngine.{BatchEngine}
use Rattle.register_api.specs.View.{IsFresh}
use Rattle.script_runner.specs.declared.ended.Status.TheVariants as status
use Rattle.node_opening.proofs.Lists.{taken_first}
use Rattle.memory_runs.specs.Disks.{IsFreshDisk}
use Rattle.memory_runs.proofs.Ended.{all_taken, if_ok, one_over}
use Rattle.memory_runs.proofs.Five.{five, kinds_are, nothing_waits, read_at}
use Rattle.memory_runs.proofs.run.run_plan_over.OwnLists.{own-1}
use Rattle.memory_runs.proofs.run.run_plan_over.Goals as goal

-- the five engines of each node are of kinds 1 to 5, and the lowest keeps nothing
pub add_node-requires-clause-kinds : goal.add_node-requires-clause-kinds
add_node-requires-clause-kinds g c =
    kinds_are (λ e. (own-1.entry e.vtable).1.kind_of e.value) c.into_dyn_box.result c.into_dyn_box-in_ok-new-2.result c.into_dyn_box-in_ok-new-3.result c.into_dyn_box-in_ok-new-4.result c.into_dyn_box-in_ok-new-5.result c.push-in-node-4.new.self.items
    (five c.into_dyn_box.result c.into_dyn_box-in_ok-new-2.result c.into_dyn_box-in_ok-new-3.result c.into_dyn_box-in_ok-new-4.result c.into_dyn_box-in_ok-new-5.result c.new-engines.result.items c.push.new.self.items c.push-in-node.new.self.items c.push-in-node-2.new.self.items c.push-in-node-3.new.self.items c.push-in-node-4.new.self.items c.new-engines.ensures.items c.in_ok-push.ensures.items c.in_ok-push-2.ensures.items c.in_ok-push-3.ensures.items c.in_ok-push-4.ensures.items c.in_ok-push-5.ensures.items)
    (read_at {D = λ i. (own-1.entry i).0.Denot} (λ i y. (own-1.entry i).1.kind_of y) _ _ c.into_dyn_box.result.value 1 c.into_dyn_box.ensures.0 (λ z. refl))
    (read_at {D = λ i. (own-1.entry i).0.Denot} (λ i y. (own-1.entry i).1.kind_of y) _ _ c.into_dyn_box-in_ok-new-2.result.value 2 c.into_dyn_box-in_ok-new-2.ensures.0 (λ z. refl))
    (read_at {D = λ i. (own-1.entry i).0.Denot} (λ i y. (own-1.entry i).1.kind_of y) _ _ c.into_dyn_box-in_ok-new-3.result.value 3 c.into_dyn_box-in_ok-new-3.ensures.0 (λ z. refl))
    (read_at {D = λ i. (own-1.entry i).0.Denot} (λ i y. (own-1.entry i).1.kind_of y) _ _ c.into_dyn_box-in_ok-new-4.result.value 4 c.into_dyn_box-in_ok-new-4.ensures.0 (λ z. refl))
    (read_at {D = λ i. (own-1.entry i).0.Denot} (λ i y. (own-1.entry i).1.kind_of y) _ _ c.into_dyn_box-in_ok-new-5.result.value 5 c.into_dyn_box-in_ok-new-5.ensures.0 (λ z. refl))

pub add_node-requires-clause-waiting : goal.add_node-requires-clause-waiting
add_node-requires-clause-waiting g c =
    nothing_waits (λ e. (own-1.entry e.vtable).1.kept e.value) c.into_dyn_box.result c.into_dyn_box-in_ok-new-2.result c.into_dyn_box-in_ok-new-3.result c.into_dyn_box-in_ok-new-4.result c.into_dyn_box-in_ok-new-5.result c.push-in-node-4.new.self.items
    (five c.into_dyn_box.result c.into_dyn_box-in_ok-new-2.result c.into_dyn_box-in_ok-new-3.result c.into_dyn_box-in_ok-new-4.result c.into_dyn_box-in_ok-new-5.result c.new-engines.result.items c.push.new.self.items c.push-in-node.new.self.items c.push-in-node-2.new.self.items c.push-in-node-3.new.self.items c.push-in-node-4.new.self.items c.new-engines.ensures.items c.in_ok-push.ensures.items c.in_ok-push-2.ensures.items c.in_ok-push-3.ensures.items c.in_ok-push-4.ensures.items c.in_ok-push-5.ensures.items)
    (read_made own-1 (own-1.entry (inl tt)) (inl tt) refl _ (λ j y. j.1.kept y) _ _ c.in_ok-new.field-0.value c.into_dyn_box.ensures.1 ∙ (ap (λ (e : BatchEngine). e.items.items) c.in_ok-new.ensures.ok ∙ c.new.ensures))

pub node-preserved : goal.node-preserved
node-preserved g c =
    let view = g.D.Disk.view in
    let l = c.node in
    let w = c.remove-disk.result in
    let some : 0 < length l.disks.items = grind (arith, c.node-test.true, l.invariant.left) in
    let is = taken_first l.disks.items w some c.remove-disk.ensures.value ∙ ap (λ x. w ∷ x) (sym c.remove-disk.ensures.items) in
    record {
      left = grind (arith, l.invariant.left, c.remove-disk.ensures.len);
      fresh = (subst (AllByRecursion (λ d. IsFreshDisk (view d))) is l.invariant.fresh).1;
      nodes = c.add_node.ensures.fresh;
      made = grind (arith, l.invariant.made, c.in_ok-add_node.ensures.count);
      same = one_over (λ k. view k.disk) (λ d. view d) l.nodes.items c.add_node.new.nodes.items w l.disks.items c.remove-disk.new.self.items (map (λ d. view d) c.args.disks.items) is c.in_ok-add_node.ensures.disks l.invariant.same;
    }

-- what is untouched comes back as it was handed in, each disk at its node
pub returns-clause-untouched : goal.returns-clause-untouched
returns-clause-untouched g c =
    let view = g.D.Disk.view in
    let l = c.node in
    let over : length l.disks.items ≡ 0 = grind (arith, c.node-test.false, l.invariant.left) in
    let all = all_taken (λ k. view k.disk) (λ d. view d) l.nodes.items l.disks.items (map (λ d. view d) c.args.disks.items) (nil_from_length l.disks.items over) l.invariant.same in
    if_ok (λ e. e.end.told ≡ None → e.end.status ≢ status.Memory → (e.shelf ≡ c.args.shelf) × (map (λ d. view d) e.disks.items ≡ map (λ k. view k.disk) l.nodes.items) × IsFresh e.register.register)
    (λ e. e.end.told ≡ None → e.end.status ≢ status.Memory → (e.shelf ≡ c.args.shelf) × (map (λ d. view d) e.disks.items ≡ map (λ d. view d) c.args.disks.items) × IsFresh e.register.register)
    (λ e h none stays. let is = h none stays in (is.0, is.1 ∙ all, is.2))
    c.run_with.result c.run_with.ensures.untouched
