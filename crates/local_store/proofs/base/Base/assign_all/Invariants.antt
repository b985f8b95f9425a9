use Rattle.std.proofs.Common.{◌≡◌}
use Rattle.std.specs.BTreeMap.IterMut.{iter_mut_rest}
use Rattle.store_records.specs.Changing.{applied}
use Rattle.local_store.specs.Slots.{held, changes_of, AreFit, HaveRoom}
use Rattle.local_store.proofs.SlotLaws.{IsInOrder}
use Rattle.local_store.proofs.base.Base.assign_all.Given as goal

abbrev pub invariant-loop-key : goal.invariant-loop-key
invariant-loop-key l = record {
  changed : applied (held l.self.slots.entries) (changes_of (iter_mut_rest l.key-iterator)) ≡ applied (held l.fn.self.slots.entries) (changes_of l.fn.changes.entries);
  room : HaveRoom l.self.slots.entries (iter_mut_rest l.key-iterator);
  fit : AreFit l.self.slots.entries;
  rest : AreFit (iter_mut_rest l.key-iterator);
  ordered : IsInOrder (iter_mut_rest l.key-iterator);
  cursor : l.self.cursor ≡ l.fn.self.cursor;
}
