use Rattle.std.proofs.Common.{◌≡◌, ◌∷◌, ◌<◌, ◌^◌, length, subst, sym, ap, ◌∙◌, Option}
use Rattle.std.specs.Prelude.{IfSome}
use Rattle.std.specs.Map.Iter.{deref_pair_mut}
use Rattle.std.specs.BTreeMap.IterMut.{iter_mut_rest}
use Rattle.std.proofs.lemmas.Map.Iter.{rest_more}
use Rattle.delos_types.specs.Spaces.{SpaceMap, Text}
use Rattle.local_store.specs.Keys.{KeyView}
use Rattle.store_records.specs.Changing.{applied, set_at}
use Rattle.local_store.specs.Slots.{Entries, held, changes_of, key_pair, AreFit, HaveRoom}
use Rattle.local_store.proofs.SlotLaws.{IsInOrder, head_below, tail_ordered, room_keeps, first_slot, fit_rest}
use Rattle.local_store.proofs.base.Base.assign_all.Goals as goal

pub assign-requires-clause-room : goal.assign-requires-clause-room
assign-requires-clause-room c =
    let first : KeyView × Option Text = (c.in-Some.key.now, c.in-Some.value.now) in
    let left = iter_mut_rest c.loop-key.key-iterator in
    let rest = iter_mut_rest c.next.new.self in
    let split : left ≡ first ∷ rest = rest_more deref_pair_mut left rest c.next.result (c.in-Some.key, c.in-Some.value) c.in-Some.is c.next.ensures.steps in
    (subst (λ (es : Entries). HaveRoom c.loop-key.self.slots.entries es) split c.loop-key.invariant.room).0

pub assign-requires-clause-small : goal.assign-requires-clause-small
assign-requires-clause-small c =
    let first : KeyView × Option Text = (c.in-Some.key.now, c.in-Some.value.now) in
    let left = iter_mut_rest c.loop-key.key-iterator in
    let rest = iter_mut_rest c.next.new.self in
    let split : left ≡ first ∷ rest = rest_more deref_pair_mut left rest c.next.result (c.in-Some.key, c.in-Some.value) c.in-Some.is c.next.ensures.steps in
    subst (λ (o : Option Text). IfSome o (λ v. length v < 2 ^ 32)) (sym c.take.ensures.value)
    (((subst AreFit split c.loop-key.invariant.rest) first.0 first.1 (first_slot first rest)).1)

pub loop-key-preserved : goal.loop-key-preserved
loop-key-preserved c =
    let now = c.loop-key.self.slots.entries in
    let new = c.assign.new.self.slots.entries in
    let first : KeyView × Option Text = (c.in-Some.key.now, c.in-Some.value.now) in
    let left = iter_mut_rest c.loop-key.key-iterator in
    let rest = iter_mut_rest c.next.new.self in
    let split : left ≡ first ∷ rest = rest_more deref_pair_mut left rest c.next.result (c.in-Some.key, c.in-Some.value) c.in-Some.is c.next.ensures.steps in
    let ordered = subst (λ (es : Entries). IsInOrder es) split c.loop-key.invariant.ordered in
    let room = subst (λ (es : Entries). HaveRoom now es) split c.loop-key.invariant.room in
    let assigned = c.assign.ensures.assigned ∙ ap (λ (o : Option Text). set_at (held now) (key_pair c.in-Some.key.now) o) c.take.ensures.value in
    record {
      changed = ap (λ (m : SpaceMap). applied m (changes_of rest)) assigned ∙ ap (λ (es : Entries). applied (held now) (changes_of es)) (sym split) ∙ c.loop-key.invariant.changed;
      room = room_keeps now new c.in-Some.key.now rest c.assign.ensures.others (head_below first rest ordered) room.1;
      fit = c.assign.ensures.fit;
      rest = fit_rest first rest ordered (subst AreFit split c.loop-key.invariant.rest);
      ordered = tail_ordered first rest ordered;
      cursor = c.assign.ensures.cursor ∙ c.loop-key.invariant.cursor;
    }
