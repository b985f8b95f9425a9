use Rattle.std.proofs.Common.{ap, refl, inl, ◌∙◌}
use denote.Param.Object.{read_made}
use denote.Exit
use denote.Param.Send.{arg_send, param_send}
use Rattle.batch_engine.specs.declared.BatchEngine.{BatchEngine}
use Rattle.counted_loglet.proofs.counted.Counted.TheSendSync as counted
use Rattle.shelf_loglets.proofs.Sent.{shelf_send}
use Rattle.memory_runs.proofs.Five.{five, kinds_are, nothing_waits, read_at}
use Rattle.worked_runs.proofs.runs.run_over_counted.OwnLists.{own-1}
use Rattle.worked_runs.proofs.runs.run_over_counted.Goals as goal

-- the five engines of each node are of kinds 1 to 5, and the lowest keeps nothing
pub add_node-requires-clause-kinds : goal.add_node-requires-clause-kinds
add_node-requires-clause-kinds g c =
    kinds_are (λ e. (own-1.entry e.vtable).1.kind_of e.value) c.into_dyn_box.result c.into_dyn_box-in_ok-new-2.result c.into_dyn_box-in_ok-new-3.result c.into_dyn_box-in_ok-new-4.result c.into_dyn_box-in_ok-new-5.result c.push-in-node-4.new.self.items
    (five c.into_dyn_box.result c.into_dyn_box-in_ok-new-2.result c.into_dyn_box-in_ok-new-3.result c.into_dyn_box-in_ok-new-4.result c.into_dyn_box-in_ok-new-5.result c.new-engines.result.items c.push.new.self.items c.push-in-node.new.self.items c.push-in-node-2.new.self.items c.push-in-node-3.new.self.items c.push-in-node-4.new.self.items c.new-engines.ensures.items c.in_ok-push.ensures.items c.in_ok-push-2.ensures.items c.in_ok-push-3.ensures.items c.in_ok-push-4.ensures.items c.in_ok-push-5.ensures.items)
    (read_at {D = λ i. (own-1.entry i).0.Denot} (λ i y. (own-1.entry i).1.kind_of y) _ _ c.into_dyn_box.result.value 1 c.into_dyn_box.ensures.0 (λ z. refl))
    (read_at {D = λ i. (own-1.entry i).0.Denot} (λ i y. (own-1.entry i).1.kind_of y) _ _ c.into_dyn_box-in_ok-new-2.result.value 2 c.into_dyn_box-in_ok-new-2.ensures.0 (λ z. refl))
    (read_at {D = λ i. (own-1.entry i).0.Denot} (λ i y. (own-1.entry i).1.kind_of y) _ _ c.into_dyn_box-in_ok-new-3.result.value 3 c.into_dyn_box-in_ok-new-3.ensures.0 (λ z. refl))
    (read_at {D = λ i. (own-1.entry i).0.Denot} (λ i y. (own-1.entry i).1.kind_of y) _ _ c.into_dyn_box-in_ok-new-4.result.value 4 c.into_dyn_box-in_ok-new-4.ensures.0 (λ z. refl))
    (read_at {D = λ i. (own-1.entry i).0.Denot} (λ i y. (own-1.entry i).1.kind_of y) _ _ c.into_dyn_box-in_ok-new-5.result.value 5 c.into_dyn_box-in_ok-new-5.ensures.0 (λ z. refl))

pub add_node-requires-clause-waiting : goal.add_node-requires-clause-waiting
add_node-requires-clause-waiting g c =
    nothing_waits (λ e. (own-1.entry e.vtable).1.kept e.value) c.into_dyn_box.result c.into_dyn_box-in_ok-new-2.result c.into_dyn_box-in_ok-new-3.result c.into_dyn_box-in_ok-new-4.result c.into_dyn_box-in_ok-new-5.result c.push-in-node-4.new.self.items
    (five c.into_dyn_box.result c.into_dyn_box-in_ok-new-2.result c.into_dyn_box-in_ok-new-3.result c.into_dyn_box-in_ok-new-4.result c.into_dyn_box-in_ok-new-5.result c.new-engines.result.items c.push.new.self.items c.push-in-node.new.self.items c.push-in-node-2.new.self.items c.push-in-node-3.new.self.items c.push-in-node-4.new.self.items c.new-engines.ensures.items c.in_ok-push.ensures.items c.in_ok-push-2.ensures.items c.in_ok-push-3.ensures.items c.in_ok-push-4.ensures.items c.in_ok-push-5.ensures.items)
    (read_made own-1 (own-1.entry (inl tt)) (inl tt) refl _ (λ j y. j.1.kept y) _ _ c.in_ok-new.field-0.value c.into_dyn_box.ensures.1 ∙ (ap (λ (e : BatchEngine). e.items.items) c.in_ok-new.ensures.ok ∙ c.new.ensures))

-- the loglets, each in one that counts, may go to another thread
pub run_over-requires-send-L : goal.run_over-requires-send-L
run_over-requires-send-L g c κs within = param_send _ _ (arg_send _ Exit.no _ (counted.the_send _ shelf_send))
