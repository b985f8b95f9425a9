use Rattle.std.proofs.Common.{◌≡◌, map}
use Rattle.std.specs.Map.Iter.{deref_pair}
use Rattle.local_store.specs.Slots.{held, AreFit, HaveRoom}
use Rattle.local_store.proofs.base.Base.make_slots.Given as goal

abbrev pub invariant-loop-key : goal.invariant-loop-key
invariant-loop-key l = record {
  same : held l.self.slots.entries ≡ held l.fn.self.slots.entries;
  room : HaveRoom l.self.slots.entries (map deref_pair l.yielded);
  fit : AreFit l.self.slots.entries;
  cursor : l.self.cursor ≡ l.fn.self.cursor;
}
