use Rattle.std.proofs.Common.{◌≡◌, ◌++◌, take, map}
use Rattle.std.specs.List.{flat_map}
use Rattle.row_text.specs.Output.{segment_text}
use Rattle.row_text.proofs.render.put_segments.Given as goal

abbrev pub invariant-loop-segment : goal.invariant-loop-segment
invariant-loop-segment l = l.out ≡ l.fn.out ++ flat_map (segment_text (map (λ k. k.now) l.kinds)) (take l.segment-index l.segments)
