use Rattle.std.proofs.Common.{◌≡◌, take}
use Rattle.world_steps.proofs.parts.copied_cells.Given as goal

abbrev pub invariant-loop-cell : goal.invariant-loop-cell
invariant-loop-cell l = l.made.items ≡ take l.cell-index l.cells
