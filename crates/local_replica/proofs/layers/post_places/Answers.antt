use Rattle.std.proofs.Common.{◌∙◌, ◌++◌, List, refl, sym, map, subst, arith}
use Rattle.delos_types.specs.declared.place.Place.{Place}
use Rattle.engine_steps.specs.Hearing.{Each}
use Rattle.local_replica.proofs.Posting.{last_one, one_posted, all_posted, none_more}
use Rattle.local_replica.proofs.layers.post_places.Goals as goal

pub loop-act-init : goal.loop-act-init
loop-act-init g c = record { kinds = refl; kept = refl; last = refl; known = λ space h. h; posted = λ told h. subst (λ (hs : List (List Place)). Each (λ e places. (goal.Engine-dyn g (e.vtable, e.value)).posted e.value places) c.args.engines.now.items hs) (sym (none_more told)) h }

pub loop-act-preserved : goal.loop-act-preserved
loop-act-preserved g c =
    let inv = c.loop-act.invariant in
    record {
      kinds = c.post_new.ensures.kinds ∙ inv.kinds;
      kept = c.post_new.ensures.kept ∙ inv.kept;
      last = last_one _ _ _ c.loop-act-test.true c.act-item.is;
      known = λ space h. c.post_new.ensures.known space (inv.known space h);
      posted = λ told h. subst (λ (hs : List (List Place)). Each (λ e places. (goal.Engine-dyn g (e.vtable, e.value)).posted e.value places) c.post_new.new.engines.items hs) (one_posted _ _ _ _ inv.last c.loop-act-test.true c.act-item.is told) (c.post_new.ensures.posted _ (inv.posted told h));
    }

pub returns-clause-posted : goal.returns-clause-posted
returns-clause-posted g c = λ told h.
    subst (λ (ds : List Place). Each (λ e places. (goal.Engine-dyn g (e.vtable, e.value)).posted e.value places) c.loop-act.engines.items (map (λ (places : List Place). places ++ ds) told)) (all_posted c.args.acted.now c.loop-act.act-index (omega arith)) (c.loop-act.invariant.posted told h)
