use Rattle.std.proofs.Common.{List, [], sym, ap, subst, ◌∙◌}
use Rattle.delos_types.specs.declared.item.Item.{Item}
use Rattle.log_laws.specs.State.{IsStateOf}
use Rattle.replica_api.specs.Replica.{Takes}
use Rattle.local_replica.specs.Shown.{shown}
use Rattle.local_replica.proofs.Showing.{shown_survives, stays_so, none_spent}
use Rattle.local_replica.proofs.Posting.{posts_by}
use Rattle.local_replica.proofs.applying.apply.Goals as goal

pub returns-then-is_down-clause-survives : goal.returns-then-is_down-clause-survives
returns-then-is_down-clause-survives g c = λ s r. shown_survives c.args.store.now c.args.origin [] s r c.is_down.ensures.survives

pub returns-then-is_down-clause-any_crash : goal.returns-then-is_down-clause-any_crash
returns-then-is_down-clause-any_crash g c = λ s r. stays_so c.args.store.now c.args.origin [] s r c.args.entry.now c.is_down.ensures.survives

pub returns-in_default-clause-takes : goal.returns-in_default-clause-takes
returns-in_default-clause-takes g c = λ s r. (none_spent (shown c.args.store.now c.args.origin [] s r).armed, ap (λ (l : List Item). shown c.args.store.now c.args.origin l s r) c.prepare.ensures.waiting)

pub returns-in_default-clause-survives : goal.returns-in_default-clause-survives
returns-in_default-clause-survives g c = λ s r. shown_survives c.args.store.now c.args.origin [] s r c.is_down.ensures.survives

pub returns-in_default-clause-any_crash : goal.returns-in_default-clause-any_crash
returns-in_default-clause-any_crash g c = λ s r. stays_so c.args.store.now c.args.origin [] s r c.args.entry.now c.is_down.ensures.survives

pub returns-clause-takes : goal.returns-clause-takes
returns-clause-takes g c = λ s r.
    subst (λ (l : List Item). Takes IsStateOf (shown c.args.store.now c.args.origin (g.E.Layers.waiting c.args.engines.now) s r) c.args.entry.now c.keep-kept.result (shown c.keep-kept.new.store c.args.origin l s r)) (sym (c.tell.ensures.waiting ∙ c.prepare.ensures.waiting))
    (c.keep-kept.ensures.takes c.args.origin (g.E.Layers.waiting c.args.engines.now) s r c.args.entry.now (sym c.is_down.ensures.down ∙ c.if-is_down.false) c.in-Ok.ensures.advances)

pub returns-clause-survives : goal.returns-clause-survives
returns-clause-survives g c = λ s r. c.keep-kept.ensures.survives c.args.origin [] s r

pub returns-clause-any_crash : goal.returns-clause-any_crash
returns-clause-any_crash g c = λ s r. c.keep-kept.ensures.any_crash c.args.origin [] s r c.args.entry.now c.in-Ok.ensures.advances

pub returns-clause-known : goal.returns-clause-known
returns-clause-known g c = λ h. c.tell.ensures.known _ (ap (g.E.Layers.knows c.prepare.new.engines) (c.keep-kept.ensures.contents (sym c.done.ensures ∙ h)) ∙ c.in-Ok.ensures.known)

pub returns-clause-posted : goal.returns-clause-posted
returns-clause-posted g c = λ told h. posts_by _ told _ _ _ _ _ c.keep-kept.result _ c.in-Ok.ensures.grows c.in-Ok.ensures.in_order c.keep-kept.ensures.contents (c.tell.ensures.posted told (c.prepare.ensures.posted told h))
