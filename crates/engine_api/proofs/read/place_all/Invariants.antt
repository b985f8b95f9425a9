use Rattle.std.proofs.Common.{◌≡◌, drop}
use Rattle.engine_api.specs.Items.{contents_of, placed_at}
use Rattle.engine_api.proofs.Unpacked.{placed_behind}
use Rattle.engine_api.proofs.read.place_all.Given as goal

abbrev pub invariant-loop-sub : goal.invariant-loop-sub
invariant-loop-sub l = placed_behind l.placed.items l.pos l.sub (contents_of (drop l.sub l.items)) ≡ placed_at l.pos (contents_of l.items)
