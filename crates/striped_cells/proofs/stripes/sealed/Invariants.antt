use Rattle.std.proofs.Common.{◌≡◌, take, map}
use Rattle.striped_cells.specs.Striped.{shut_of}
use Rattle.striped_cells.proofs.stripes.sealed.Given as goal

abbrev pub invariant-loop-stripe : goal.invariant-loop-stripe
invariant-loop-stripe g l = l.made.items ≡ map (shut_of g.C.AnyCell.ways) (take l.stripe-index l.stripes)
