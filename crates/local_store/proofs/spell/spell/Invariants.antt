use Rattle.std.proofs.Common.{◌≡◌, ◌++◌, flat_map, length}
use Rattle.std.specs.List.{AllByRecursion}
use Rattle.store_records.specs.Format.{head_bytes, change_bytes, IsSpellableChange}
use Rattle.local_store.specs.Slots.{changes_of}
use Rattle.local_store.proofs.spell.spell.Given as goal

abbrev pub invariant-loop-key : goal.invariant-loop-key
invariant-loop-key l = record {
  text : l.out.items ++ flat_map change_bytes (changes_of l.key-iterator) ≡ head_bytes l.cursor (length l.changes.entries) ++ flat_map change_bytes (changes_of l.changes.entries);
  fit : AllByRecursion IsSpellableChange (changes_of l.key-iterator) → AllByRecursion IsSpellableChange (changes_of l.changes.entries);
}
