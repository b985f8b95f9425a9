use Rattle.std.proofs.Common.{ap, refl, inl, ◌∙◌}
use denote.Param.Object.{read_made}
use Rattle.batch_engine.specs.declared.BatchEngine.{BatchEngine}
use Rattle.worked_nodes.proofs.Five.{five, kinds_are, nothing_waits, read_at}
use Rattle.worked_nodes.proofs.with_engines.play.OwnLists.{own-1}
use Rattle.worked_nodes.proofs.with_engines.play.Goals as goal

-- the five engines are of kinds 1 to 5, and the lowest keeps nothing
pub play_with-requires-clause-kinds : goal.play_with-requires-clause-kinds
play_with-requires-clause-kinds c =
    kinds_are (λ e. (own-1.entry e.vtable).1.kind_of e.value) c.into_dyn_box.result c.into_dyn_box-in_ok-new-2.result c.into_dyn_box-in_ok-new-3.result c.into_dyn_box-in_ok-new-4.result c.into_dyn_box-in_ok-new-5.result c.push-5.new.self.items
    (five c.into_dyn_box.result c.into_dyn_box-in_ok-new-2.result c.into_dyn_box-in_ok-new-3.result c.into_dyn_box-in_ok-new-4.result c.into_dyn_box-in_ok-new-5.result c.new-engines.result.items c.push.new.self.items c.push-2.new.self.items c.push-3.new.self.items c.push-4.new.self.items c.push-5.new.self.items c.new-engines.ensures.items c.in_ok-push.ensures.items c.in_ok-push-2.ensures.items c.in_ok-push-3.ensures.items c.in_ok-push-4.ensures.items c.in_ok-push-5.ensures.items)
    (read_at {D = λ i. (own-1.entry i).0.Denot} (λ i y. (own-1.entry i).1.kind_of y) _ _ c.into_dyn_box.result.value 1 c.into_dyn_box.ensures.0 (λ z. refl))
    (read_at {D = λ i. (own-1.entry i).0.Denot} (λ i y. (own-1.entry i).1.kind_of y) _ _ c.into_dyn_box-in_ok-new-2.result.value 2 c.into_dyn_box-in_ok-new-2.ensures.0 (λ z. refl))
    (read_at {D = λ i. (own-1.entry i).0.Denot} (λ i y. (own-1.entry i).1.kind_of y) _ _ c.into_dyn_box-in_ok-new-3.result.value 3 c.into_dyn_box-in_ok-new-3.ensures.0 (λ z. refl))
    (read_at {D = λ i. (own-1.entry i).0.Denot} (λ i y. (own-1.entry i).1.kind_of y) _ _ c.into_dyn_box-in_ok-new-4.result.value 4 c.into_dyn_box-in_ok-new-4.ensures.0 (λ z. refl))
    (read_at {D = λ i. (own-1.entry i).0.Denot} (λ i y. (own-1.entry i).1.kind_of y) _ _ c.into_dyn_box-in_ok-new-5.result.value 5 c.into_dyn_box-in_ok-new-5.ensures.0 (λ z. refl))

pub play_with-requires-clause-waiting : goal.play_with-requires-clause-waiting
play_with-requires-clause-waiting c =
    nothing_waits (λ e. (own-1.entry e.vtable).1.kept e.value) c.into_dyn_box.result c.into_dyn_box-in_ok-new-2.result c.into_dyn_box-in_ok-new-3.result c.into_dyn_box-in_ok-new-4.result c.into_dyn_box-in_ok-new-5.result c.push-5.new.self.items
    (five c.into_dyn_box.result c.into_dyn_box-in_ok-new-2.result c.into_dyn_box-in_ok-new-3.result c.into_dyn_box-in_ok-new-4.result c.into_dyn_box-in_ok-new-5.result c.new-engines.result.items c.push.new.self.items c.push-2.new.self.items c.push-3.new.self.items c.push-4.new.self.items c.push-5.new.self.items c.new-engines.ensures.items c.in_ok-push.ensures.items c.in_ok-push-2.ensures.items c.in_ok-push-3.ensures.items c.in_ok-push-4.ensures.items c.in_ok-push-5.ensures.items)
    (read_made own-1 (own-1.entry (inl tt)) (inl tt) refl _ (λ j y. j.1.kept y) _ _ c.in_ok-new.field-0.value c.into_dyn_box.ensures.1 ∙ (ap (λ (e : BatchEngine). e.items.items) c.in_ok-new.ensures.ok ∙ c.new.ensures))
