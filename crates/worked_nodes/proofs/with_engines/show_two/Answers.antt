use Rattle.std.proofs.Common.{ap, refl, inl, ◌∙◌}
use denote.Param.Object.{read_made}
use Rattle.batch_engine.specs.declared.BatchEngine.{BatchEngine}
use Rattle.worked_nodes.proofs.Five.{five, kinds_are, nothing_waits, read_at}
use Rattle.worked_nodes.proofs.with_engines.show_two.OwnLists.{own-1}
use Rattle.worked_nodes.proofs.with_engines.show_two.Goals as goal

-- the five engines of each node are of kinds 1 to 5, and the lowest keeps nothing
pub put_and_get-requires-clause-kinds : goal.put_and_get-requires-clause-kinds
put_and_get-requires-clause-kinds c =
    kinds_are (λ e. (own-1.entry e.vtable).1.kind_of e.value) c.into_dyn_box.result c.into_dyn_box-in_ok-new-2.result c.into_dyn_box-in_ok-new-3.result c.into_dyn_box-in_ok-new-4.result c.into_dyn_box-in_ok-new-5.result c.push-5.new.self.items
    (five c.into_dyn_box.result c.into_dyn_box-in_ok-new-2.result c.into_dyn_box-in_ok-new-3.result c.into_dyn_box-in_ok-new-4.result c.into_dyn_box-in_ok-new-5.result c.new-engines.result.items c.push.new.self.items c.push-2.new.self.items c.push-3.new.self.items c.push-4.new.self.items c.push-5.new.self.items c.new-engines.ensures.items c.in_ok-push.ensures.items c.in_ok-push-2.ensures.items c.in_ok-push-3.ensures.items c.in_ok-push-4.ensures.items c.in_ok-push-5.ensures.items)
    (read_at {D = λ i. (own-1.entry i).0.Denot} (λ i y. (own-1.entry i).1.kind_of y) _ _ c.into_dyn_box.result.value 1 c.into_dyn_box.ensures.0 (λ z. refl))
    (read_at {D = λ i. (own-1.entry i).0.Denot} (λ i y. (own-1.entry i).1.kind_of y) _ _ c.into_dyn_box-in_ok-new-2.result.value 2 c.into_dyn_box-in_ok-new-2.ensures.0 (λ z. refl))
    (read_at {D = λ i. (own-1.entry i).0.Denot} (λ i y. (own-1.entry i).1.kind_of y) _ _ c.into_dyn_box-in_ok-new-3.result.value 3 c.into_dyn_box-in_ok-new-3.ensures.0 (λ z. refl))
    (read_at {D = λ i. (own-1.entry i).0.Denot} (λ i y. (own-1.entry i).1.kind_of y) _ _ c.into_dyn_box-in_ok-new-4.result.value 4 c.into_dyn_box-in_ok-new-4.ensures.0 (λ z. refl))
    (read_at {D = λ i. (own-1.entry i).0.Denot} (λ i y. (own-1.entry i).1.kind_of y) _ _ c.into_dyn_box-in_ok-new-5.result.value 5 c.into_dyn_box-in_ok-new-5.ensures.0 (λ z. refl))

pub put_and_get-requires-clause-waiting : goal.put_and_get-requires-clause-waiting
put_and_get-requires-clause-waiting c =
    nothing_waits (λ e. (own-1.entry e.vtable).1.kept e.value) c.into_dyn_box.result c.into_dyn_box-in_ok-new-2.result c.into_dyn_box-in_ok-new-3.result c.into_dyn_box-in_ok-new-4.result c.into_dyn_box-in_ok-new-5.result c.push-5.new.self.items
    (five c.into_dyn_box.result c.into_dyn_box-in_ok-new-2.result c.into_dyn_box-in_ok-new-3.result c.into_dyn_box-in_ok-new-4.result c.into_dyn_box-in_ok-new-5.result c.new-engines.result.items c.push.new.self.items c.push-2.new.self.items c.push-3.new.self.items c.push-4.new.self.items c.push-5.new.self.items c.new-engines.ensures.items c.in_ok-push.ensures.items c.in_ok-push-2.ensures.items c.in_ok-push-3.ensures.items c.in_ok-push-4.ensures.items c.in_ok-push-5.ensures.items)
    (read_made own-1 (own-1.entry (inl tt)) (inl tt) refl _ (λ j y. j.1.kept y) _ _ c.in_ok-new.field-0.value c.into_dyn_box.ensures.1 ∙ (ap (λ (e : BatchEngine). e.items.items) c.in_ok-new.ensures.ok ∙ c.new.ensures))

pub put_and_get-requires-clause-other_kinds : goal.put_and_get-requires-clause-other_kinds
put_and_get-requires-clause-other_kinds c =
    kinds_are (λ e. (own-1.entry e.vtable).1.kind_of e.value) c.into_dyn_box-in_ok-new-6.result c.into_dyn_box-in_ok-new-7.result c.into_dyn_box-in_ok-new-8.result c.into_dyn_box-in_ok-new-9.result c.into_dyn_box-in_ok-new-10.result c.push-10.new.self.items
    (five c.into_dyn_box-in_ok-new-6.result c.into_dyn_box-in_ok-new-7.result c.into_dyn_box-in_ok-new-8.result c.into_dyn_box-in_ok-new-9.result c.into_dyn_box-in_ok-new-10.result c.new-engines-2.result.items c.push-6.new.self.items c.push-7.new.self.items c.push-8.new.self.items c.push-9.new.self.items c.push-10.new.self.items c.new-engines-2.ensures.items c.in_ok-push-6.ensures.items c.in_ok-push-7.ensures.items c.in_ok-push-8.ensures.items c.in_ok-push-9.ensures.items c.in_ok-push-10.ensures.items)
    (read_at {D = λ i. (own-1.entry i).0.Denot} (λ i y. (own-1.entry i).1.kind_of y) _ _ c.into_dyn_box-in_ok-new-6.result.value 1 c.into_dyn_box-in_ok-new-6.ensures.0 (λ z. refl))
    (read_at {D = λ i. (own-1.entry i).0.Denot} (λ i y. (own-1.entry i).1.kind_of y) _ _ c.into_dyn_box-in_ok-new-7.result.value 2 c.into_dyn_box-in_ok-new-7.ensures.0 (λ z. refl))
    (read_at {D = λ i. (own-1.entry i).0.Denot} (λ i y. (own-1.entry i).1.kind_of y) _ _ c.into_dyn_box-in_ok-new-8.result.value 3 c.into_dyn_box-in_ok-new-8.ensures.0 (λ z. refl))
    (read_at {D = λ i. (own-1.entry i).0.Denot} (λ i y. (own-1.entry i).1.kind_of y) _ _ c.into_dyn_box-in_ok-new-9.result.value 4 c.into_dyn_box-in_ok-new-9.ensures.0 (λ z. refl))
    (read_at {D = λ i. (own-1.entry i).0.Denot} (λ i y. (own-1.entry i).1.kind_of y) _ _ c.into_dyn_box-in_ok-new-10.result.value 5 c.into_dyn_box-in_ok-new-10.ensures.0 (λ z. refl))

pub put_and_get-requires-clause-other_waiting : goal.put_and_get-requires-clause-other_waiting
put_and_get-requires-clause-other_waiting c =
    nothing_waits (λ e. (own-1.entry e.vtable).1.kept e.value) c.into_dyn_box-in_ok-new-6.result c.into_dyn_box-in_ok-new-7.result c.into_dyn_box-in_ok-new-8.result c.into_dyn_box-in_ok-new-9.result c.into_dyn_box-in_ok-new-10.result c.push-10.new.self.items
    (five c.into_dyn_box-in_ok-new-6.result c.into_dyn_box-in_ok-new-7.result c.into_dyn_box-in_ok-new-8.result c.into_dyn_box-in_ok-new-9.result c.into_dyn_box-in_ok-new-10.result c.new-engines-2.result.items c.push-6.new.self.items c.push-7.new.self.items c.push-8.new.self.items c.push-9.new.self.items c.push-10.new.self.items c.new-engines-2.ensures.items c.in_ok-push-6.ensures.items c.in_ok-push-7.ensures.items c.in_ok-push-8.ensures.items c.in_ok-push-9.ensures.items c.in_ok-push-10.ensures.items)
    (read_made own-1 (own-1.entry (inl tt)) (inl tt) refl _ (λ j y. j.1.kept y) _ _ c.in_ok-new-6.field-0.value c.into_dyn_box-in_ok-new-6.ensures.1 ∙ (ap (λ (e : BatchEngine). e.items.items) c.in_ok-new-6.ensures.ok ∙ c.new-7.ensures))
