use Rattle.std.proofs.Common.{◌≡◌, ◌∷◌, ◌<◌, ◌^◌, length, Option, Some, subst, sym, refl}
use Rattle.std.specs.Option.{option_copied}
use Rattle.std.specs.Prelude.{IfSome}
use Rattle.std.specs.Map.Iter.{deref_pair}
use Rattle.std.proofs.lemmas.Map.Iter.{rest_more}
use Rattle.std.proofs.lemmas.Map.Views.{All-turn}
use Rattle.delos_types.specs.Spaces.{Text}
use Rattle.local_store.specs.Keys.{KeyView}
use Rattle.local_store.specs.Slots.{slot_of}
use Rattle.local_store.proofs.Whole.{small_after, text_step, fit_step}
use Rattle.local_store.proofs.spell.spell_after.Goals as goal

pub put_set-requires-clause-key : goal.put_set-requires-clause-key
put_set-requires-clause-key c =
    let found = All-turn deref_pair (λ e. slot_of c.args.slots.now.entries e.0 ≡ Some e.1) _ _ _ _ _ _ _ c.into_iter-key-iterator.ensures.into_iter_gives.6 c.into_iter-key-iterator.ensures.into_iter_gives.0 c.loop-key.yielded_by c.in-Some.is c.next.ensures.steps in
    (c.requires.slots c.in-Some.key.now c.in-Some.slot.now found).0

pub put_set-requires-clause-value : goal.put_set-requires-clause-value
put_set-requires-clause-value c =
    let found = All-turn deref_pair (λ e. slot_of c.args.slots.now.entries e.0 ≡ Some e.1) _ _ _ _ _ _ _ c.into_iter-key-iterator.ensures.into_iter_gives.6 c.into_iter-key-iterator.ensures.into_iter_gives.0 c.loop-key.yielded_by c.in-Some.is c.next.ensures.steps in
    subst (λ (o : Option Text). IfSome o (λ v. length v < 2 ^ 32)) (sym c.value_after.ensures)
    (small_after c.args.changes.now.entries c.in-Some.key.now (slot_of c.args.changes.now.entries c.in-Some.key.now) c.in-Some.slot.now c.requires.changes refl (c.requires.slots c.in-Some.key.now c.in-Some.slot.now found).1)

pub loop-key-preserved : goal.loop-key-preserved
loop-key-preserved c =
    let cs = c.args.changes.now.entries in
    let es = c.loop-key.key-iterator in
    let rest = c.next.new.self in
    let first : KeyView × Option Text = (c.in-Some.key.now, c.in-Some.slot.now) in
    let split : es ≡ first ∷ rest = rest_more deref_pair es rest c.next.result (c.in-Some.key, c.in-Some.slot) c.in-Some.is c.next.ensures.steps in
    let value = option_copied c.value_after.result in
    record {
      text = text_step cs es rest first value c.loop-key.out.items c.put_set.new.out.items _ split c.value_after.ensures c.in_ok-put_set.ensures.text c.loop-key.invariant.text;
      fit = fit_step cs es rest first value _ split c.value_after.ensures c.put_set.ensures.fits c.loop-key.invariant.fit;
    }
