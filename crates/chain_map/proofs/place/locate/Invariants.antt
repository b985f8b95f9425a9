use Rattle.std.proofs.Common.{drop}
use Rattle.chain_map.proofs.Places.{Covers}
use Rattle.chain_map.proofs.place.locate.Given as goal

abbrev pub invariant-loop-segment : goal.invariant-loop-segment
invariant-loop-segment l = Covers l.pos (drop l.segment-index l.chain.segments)
