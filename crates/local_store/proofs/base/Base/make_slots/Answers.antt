use Rattle.std.proofs.Common.{◌≡◌, ◌∷◌, [], Some, map, subst, sym, ◌∙◌}
use Rattle.std.specs.Map.Iter.{deref_pair}
use Rattle.std.proofs.lemmas.List.{map-append}
use Rattle.std.proofs.lemmas.Map.Views.{All-turn}
use Rattle.local_store.specs.Slots.{Entries, slot_of, HaveRoom}
use Rattle.local_store.proofs.SlotLaws.{room_grows, room_push}
use Rattle.local_store.proofs.base.Base.make_slots.Goals as goal

pub make_slot-requires-clause-short : goal.make_slot-requires-clause-short
make_slot-requires-clause-short c =
    let found = All-turn deref_pair (λ e. slot_of c.args.changes.now.entries e.0 ≡ Some e.1) _ _ _ _ _ _ _ c.into_iter-key-iterator.ensures.into_iter_gives.6 c.into_iter-key-iterator.ensures.into_iter_gives.0 c.loop-key.yielded_by c.in-Some.is c.next.ensures.steps in
    (c.requires.fit c.in-Some.key.now c.in-Some.field-0-1.now found).0

pub loop-key-preserved : goal.loop-key-preserved
loop-key-preserved c =
    let new = c.make_slot.new.self.slots.entries in
    let grown = room_grows c.loop-key.self.slots.entries new (map deref_pair c.loop-key.yielded) c.in_ok-make_slot.ensures.grows c.loop-key.invariant.room in
    let more = room_push new (map deref_pair c.loop-key.yielded) (c.in-Some.key.now, c.in-Some.field-0-1.now) grown c.in_ok-make_slot.ensures.room in
    record {
      same = c.in_ok-make_slot.ensures.same ∙ c.loop-key.invariant.same;
      room = subst (λ (cs : Entries). HaveRoom new cs) (sym (map-append deref_pair c.loop-key.yielded ((c.in-Some.key, c.in-Some.field-0-1) ∷ []))) more;
      fit = c.in_ok-make_slot.ensures.fit;
      cursor = c.in_ok-make_slot.ensures.cursor ∙ c.loop-key.invariant.cursor;
    }
