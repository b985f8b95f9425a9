use Rattle.std.proofs.Common.{◌≡◌, map, take}
use Rattle.world_steps.specs.Cells.{start_of}
use Rattle.world_steps.proofs.world.new_cells.Given as goal

abbrev pub invariant-loop-shape : goal.invariant-loop-shape
invariant-loop-shape l = l.cells.items ≡ map start_of (take l.shape-index l.shapes)
