use Rattle.std.proofs.Common.{◌≡◌, replicate}
use Rattle.striped_cells.proofs.stripes.alike.Given as goal

abbrev pub invariant-loop : goal.invariant-loop
invariant-loop g l = l.made.items ≡ replicate l.counter l.one
