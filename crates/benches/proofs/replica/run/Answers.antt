use Rattle.std.proofs.Common.{refl}
use Rattle.benches.proofs.Five.{five, kinds_are, read_at}
use Rattle.benches.proofs.replica.run.OwnLists.{own-1}
use Rattle.benches.proofs.replica.run.Goals as goal

-- the five engines are of kinds 1 to 5
pub run_over-requires : goal.run_over-requires
run_over-requires c =
    kinds_are (λ e. (own-1.entry e.vtable).1.kind_of e.value) c.into_dyn_box.result c.into_dyn_box-in_ok-new-2.result c.into_dyn_box-in_ok-new-3.result c.into_dyn_box-in_ok-new-4.result c.into_dyn_box-in_ok-new-5.result c.push-5.new.self.items
    (five c.into_dyn_box.result c.into_dyn_box-in_ok-new-2.result c.into_dyn_box-in_ok-new-3.result c.into_dyn_box-in_ok-new-4.result c.into_dyn_box-in_ok-new-5.result c.new-engines.result.items c.push.new.self.items c.push-2.new.self.items c.push-3.new.self.items c.push-4.new.self.items c.push-5.new.self.items c.new-engines.ensures.items c.in_ok-push.ensures.items c.in_ok-push-2.ensures.items c.in_ok-push-3.ensures.items c.in_ok-push-4.ensures.items c.in_ok-push-5.ensures.items)
    (read_at {D = λ i. (own-1.entry i).0.Denot} (λ i y. (own-1.entry i).1.kind_of y) _ _ c.into_dyn_box.result.value 1 c.into_dyn_box.ensures.0 (λ z. refl))
    (read_at {D = λ i. (own-1.entry i).0.Denot} (λ i y. (own-1.entry i).1.kind_of y) _ _ c.into_dyn_box-in_ok-new-2.result.value 2 c.into_dyn_box-in_ok-new-2.ensures.0 (λ z. refl))
    (read_at {D = λ i. (own-1.entry i).0.Denot} (λ i y. (own-1.entry i).1.kind_of y) _ _ c.into_dyn_box-in_ok-new-3.result.value 3 c.into_dyn_box-in_ok-new-3.ensures.0 (λ z. refl))
    (read_at {D = λ i. (own-1.entry i).0.Denot} (λ i y. (own-1.entry i).1.kind_of y) _ _ c.into_dyn_box-in_ok-new-4.result.value 4 c.into_dyn_box-in_ok-new-4.ensures.0 (λ z. refl))
    (read_at {D = λ i. (own-1.entry i).0.Denot} (λ i y. (own-1.entry i).1.kind_of y) _ _ c.into_dyn_box-in_ok-new-5.result.value 5 c.into_dyn_box-in_ok-new-5.ensures.0 (λ z. refl))
