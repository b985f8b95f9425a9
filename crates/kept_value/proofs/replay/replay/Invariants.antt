use Rattle.std.proofs.Common.{◌≡◌, Some, drop, take}
use Rattle.std.specs.Vec.Iter.{into_iter_items}
use Rattle.journal_core.specs.Records.{payloads}
use Rattle.kept_value.proofs.replay.replay.Given as goal

abbrev pub invariant-loop-record : goal.invariant-loop-record
invariant-loop-record g l = record {
  spelled : g.V.KeptValue.kind.spelled (take l.index (payloads l.fn.records.items)) ≡ Some (g.V.KeptValue.state l.value);
  sound : g.V.KeptValue.IsSound l.value;
  left : payloads (into_iter_items l.record-iterator) ≡ drop l.index (payloads l.fn.records.items);
}
