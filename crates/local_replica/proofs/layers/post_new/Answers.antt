use Rattle.std.proofs.Common.{◌++◌, List, map, sym, subst, ◌∙◌}
use Rattle.delos_types.specs.declared.place.Place.{Place}
use Rattle.engine_steps.specs.Hearing.{Each}
use Rattle.local_replica.proofs.Posting.{new_none, new_one}
use Rattle.local_replica.proofs.layers.post_new.Goals as goal

pub returns-then-is_last-clause-posted : goal.returns-then-is_last-clause-posted
returns-then-is_last-clause-posted g c = λ told h.
    subst (λ (hs : List (List Place)). Each (λ e places. (goal.Engine-dyn g (e.vtable, e.value)).posted e.value places) c.args.engines.now.items hs) (sym (new_none c.args.last c.args.place (sym c.is_last.ensures ∙ c.if-is_last.true) told)) h

pub returns-clause-posted : goal.returns-clause-posted
returns-clause-posted g c = λ told h.
    subst (λ (ds : List Place). Each (λ e places. (goal.Engine-dyn g (e.vtable, e.value)).posted e.value places) c.post_place.new.engines.items (map (λ (places : List Place). places ++ ds) told)) (sym (new_one c.args.last c.args.place (sym c.is_last.ensures ∙ c.if-is_last.false))) (c.post_place.ensures.posted told h)
