-- The places of those that were gone through are posted.
use Rattle.std.proofs.Common.{◌≡◌, ◌++◌, List, true, map, take}
use Rattle.std.specs.List.{list_all}
use Rattle.delos_types.specs.Spaces.{SpaceMap}
use Rattle.delos_types.specs.declared.place.Place.{Place}
use Rattle.engine_steps.specs.Hearing.{own, Each}
use Rattle.local_replica.specs.Posted.{places_of}
use Rattle.local_replica.proofs.Posting.{last_place}
use Rattle.local_replica.proofs.layers.post_places.Given as goal

abbrev pub invariant-loop-act : goal.invariant-loop-act
invariant-loop-act g l = record {
  kinds : map (λ e. (goal.Engine-dyn g (e.vtable, e.value)).kind_of e.value) l.engines.items ≡ map (λ e. (goal.Engine-dyn g (e.vtable, e.value)).kind_of e.value) l.fn.engines.items;
  kept : map (λ e. (goal.Engine-dyn g (e.vtable, e.value)).kept e.value) l.engines.items ≡ map (λ e. (goal.Engine-dyn g (e.vtable, e.value)).kept e.value) l.fn.engines.items;
  last : l.last ≡ last_place (map (λ a. a.place) (take l.act-index l.acted));
  known : (space : SpaceMap) → list_all (λ e. (goal.Engine-dyn g (e.vtable, e.value)).knows e.value (own ((goal.Engine-dyn g (e.vtable, e.value)).kind_of e.value) space)) l.fn.engines.items ≡ true → list_all (λ e. (goal.Engine-dyn g (e.vtable, e.value)).knows e.value (own ((goal.Engine-dyn g (e.vtable, e.value)).kind_of e.value) space)) l.engines.items ≡ true;
  posted : (told : List (List Place)) → Each (λ e places. (goal.Engine-dyn g (e.vtable, e.value)).posted e.value places) l.fn.engines.items told → Each (λ e places. (goal.Engine-dyn g (e.vtable, e.value)).posted e.value places) l.engines.items (map (λ (places : List Place). places ++ places_of (take l.act-index l.acted)) told);
}
