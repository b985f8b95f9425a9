use Rattle.std.proofs.Common.{◌≡◌, ◌^◌, ◌<◌, length, Option, Some, subst, sym, ◌∙◌}
use Rattle.std.specs.Prelude.{IfSome}
use Rattle.delos_types.specs.Spaces.{Text}
use Rattle.std.specs.Map.Iter.{deref_pair}
use Rattle.std.proofs.lemmas.Map.Views.{All-turn}
use Rattle.local_store.specs.Slots.{slot_of}
use Rattle.local_store.proofs.spell.spell.Goals as goal

pub put_change_of-requires-clause-key : goal.put_change_of-requires-clause-key
put_change_of-requires-clause-key c =
    let found = All-turn deref_pair (λ e. slot_of c.args.changes.now.entries e.0 ≡ Some e.1) _ _ _ _ _ _ _ c.into_iter-key-iterator.ensures.into_iter_gives.6 c.into_iter-key-iterator.ensures.into_iter_gives.0 c.loop-key.yielded_by c.in-Some.is c.next.ensures.steps in
    subst (λ (t : Text). length t < 2 ^ 16) (sym (c.as_slice.ensures ∙ c.text.ensures)) (c.requires c.in-Some.key.now c.in-Some.value.now found).0

pub put_change_of-requires-clause-value : goal.put_change_of-requires-clause-value
put_change_of-requires-clause-value c =
    let found = All-turn deref_pair (λ e. slot_of c.args.changes.now.entries e.0 ≡ Some e.1) _ _ _ _ _ _ _ c.into_iter-key-iterator.ensures.into_iter_gives.6 c.into_iter-key-iterator.ensures.into_iter_gives.0 c.loop-key.yielded_by c.in-Some.is c.next.ensures.steps in
    subst (λ (o : Option Text). IfSome o (λ v. length v < 2 ^ 32)) (sym c.as_ref.ensures.value) (c.requires c.in-Some.key.now c.in-Some.value.now found).1
