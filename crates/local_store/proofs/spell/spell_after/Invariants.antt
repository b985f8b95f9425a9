use Rattle.std.proofs.Common.{◌≡◌, ◌++◌, flat_map, length}
use Rattle.std.specs.List.{AllByRecursion}
use Rattle.store_records.specs.Format.{head_bytes, change_bytes, IsSpellableChange}
use Rattle.local_store.specs.Slots.{set_after}
use Rattle.local_store.proofs.spell.spell_after.Given as goal

abbrev pub invariant-loop-key : goal.invariant-loop-key
invariant-loop-key l = record {
  text : l.out.items ++ flat_map change_bytes (set_after l.changes.entries l.key-iterator) ≡ head_bytes l.cursor (length (set_after l.changes.entries l.slots.entries)) ++ flat_map change_bytes (set_after l.changes.entries l.slots.entries);
  fit : AllByRecursion IsSpellableChange (set_after l.changes.entries l.key-iterator) → AllByRecursion IsSpellableChange (set_after l.changes.entries l.slots.entries);
}
