use Rattle.std.proofs.Common.{◌-◌, ◌≤◌, length, None}
use Rattle.chain_map.specs.Reading.{segments_from}
use Rattle.chain_map.proofs.Runs.{Run}
use Rattle.chain_map.proofs.fields.segments_at.Given as goal

abbrev pub invariant-loop : goal.invariant-loop
invariant-loop l = record {
  run : Run l.size l.trim l.former l.least l.segments.items l.count l.counter l.rest (segments_from l.size l.trim None 0 (l.count - 1) l.bytes);
  within : length l.rest ≤ length l.bytes;
}
