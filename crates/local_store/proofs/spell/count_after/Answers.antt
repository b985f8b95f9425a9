use Rattle.std.proofs.Common.{◌≡◌, ◌∷◌, ◌-◌, ◌≤◌, true, false, is_none, Option, ap, ◌∙◌, arith}
use Rattle.std.specs.Prelude.{not}
use Rattle.std.specs.Option.{option_copied}
use Rattle.std.specs.Map.Iter.{deref_pair}
use Rattle.std.proofs.lemmas.Map.Iter.{rest_more}
use Rattle.delos_types.specs.Spaces.{Text}
use Rattle.local_store.specs.Keys.{KeyView}
use Rattle.local_store.proofs.Whole.{copied_none, count_kept, count_gone, count_some}
use Rattle.local_store.proofs.spell.count_after.Goals as goal

pub overflow_sub-count : goal.overflow_sub-count
overflow_sub-count c =
    let es = c.loop-key.key-iterator in
    let rest = c.next.new.self in
    let first : KeyView × Option Text = (c.in-Some.key.now, c.in-Some.slot.now) in
    let split : es ≡ first ∷ rest = rest_more deref_pair es rest c.next.result (c.in-Some.key, c.in-Some.slot) c.in-Some.is c.next.ensures.steps in
    count_some c.args.changes.now.entries es rest first (option_copied c.value_after.result) c.loop-key.count _ split c.value_after.ensures (copied_none c.value_after.result true (c.is_none.ensures ∙ ap not c.if-is_none.true)) c.loop-key.invariant

pub loop-key-preserved : goal.loop-key-preserved
loop-key-preserved c =
    let es = c.loop-key.key-iterator in
    let rest = c.next.new.self in
    let first : KeyView × Option Text = (c.in-Some.key.now, c.in-Some.slot.now) in
    let split : es ≡ first ∷ rest = rest_more deref_pair es rest c.next.result (c.in-Some.key, c.in-Some.slot) c.in-Some.is c.next.ensures.steps in
    count_kept c.args.changes.now.entries es rest first (option_copied c.value_after.result) c.loop-key.count _ split c.value_after.ensures (copied_none c.value_after.result false (c.is_none.ensures ∙ ap not c.if-is_none.false)) c.loop-key.invariant

pub loop-key-preserved-then-is_none : goal.loop-key-preserved-then-is_none
loop-key-preserved-then-is_none c =
    let es = c.loop-key.key-iterator in
    let rest = c.next.new.self in
    let first : KeyView × Option Text = (c.in-Some.key.now, c.in-Some.slot.now) in
    let split : es ≡ first ∷ rest = rest_more deref_pair es rest c.next.result (c.in-Some.key, c.in-Some.slot) c.in-Some.is c.next.ensures.steps in
    let none : is_none (option_copied c.value_after.result) ≡ true = copied_none c.value_after.result true (c.is_none.ensures ∙ ap not c.if-is_none.true) in
    let some : 1 ≤ c.loop-key.count = count_some c.args.changes.now.entries es rest first (option_copied c.value_after.result) c.loop-key.count _ split c.value_after.ensures none c.loop-key.invariant in
    count_gone c.args.changes.now.entries es rest first (option_copied c.value_after.result) c.loop-key.count (c.loop-key.count - 1) _ split c.value_after.ensures none (omega (arith, some)) c.loop-key.invariant
