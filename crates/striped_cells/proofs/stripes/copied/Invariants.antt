use Rattle.std.proofs.Common.{◌≡◌, take}
use Rattle.striped_cells.proofs.stripes.copied.Given as goal

abbrev pub invariant-loop-stripe : goal.invariant-loop-stripe
invariant-loop-stripe g l = l.made.items ≡ take l.stripe-index l.stripes
