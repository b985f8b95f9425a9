use Rattle.std.proofs.Common.{◌≡◌}
use Rattle.std.specs.List.{AllByRecursion}
use Rattle.std.specs.Vec.Iter.{into_iter_items}
use Rattle.store_records.specs.Format.{IsSpellableChange}
use Rattle.store_records.specs.Changing.{applied}
use Rattle.local_store.specs.Slots.{held, AreFit}
use Rattle.local_store.proofs.base.Base.change_all.Given as goal

abbrev pub invariant-loop-change : goal.invariant-loop-change
invariant-loop-change l = record {
  changed : applied (held l.self.slots.entries) (into_iter_items l.change-iterator) ≡ applied (held l.fn.self.slots.entries) l.fn.changes.items;
  fit : AllByRecursion IsSpellableChange (into_iter_items l.change-iterator);
  all_fit : AreFit l.self.slots.entries;
  cursor : l.self.cursor ≡ l.fn.self.cursor;
}
