use Rattle.std.proofs.Common.{◌≡◌, ◌++◌, length, take, flat_map}
use Rattle.std.specs.List.{AllByRecursion}
use Rattle.delos_types.specs.Numbers.{u16_bytes}
use Rattle.chain_map.specs.Format.{segment_bytes, HasPositions}
use Rattle.chain_map.proofs.encode.put_segments.Given as goal

abbrev pub invariant-loop-segment : goal.invariant-loop-segment
invariant-loop-segment l = record {
  text : l.out.items ≡ l.fn.out.items ++ (u16_bytes (length l.segments) ++ flat_map segment_bytes (take l.segment-index l.segments));
  positions : AllByRecursion HasPositions (take l.segment-index l.segments);
}
