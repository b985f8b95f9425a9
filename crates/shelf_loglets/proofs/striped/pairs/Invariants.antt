use Rattle.std.proofs.Common.{◌≡◌, ◌*◌, length, All}
use Rattle.loglet_api.specs.declared.call.Kind.TheVariants.{Striped}
use Rattle.striped_loglet.specs.Striped.{StripedView, serving_of}
use Rattle.shelf_loglets.specs.Stripes.{IsStripe, new_servers}
use Rattle.shelf_loglets.proofs.striped.pairs.Given as goal

abbrev pub invariant-loop-index : goal.invariant-loop-index
invariant-loop-index l = (length l.pairs.items ≡ l._index) × All (λ (v : StripedView). IsStripe (Striped 2) 6 63 (2 * l.room) v.loglet) l.pairs.items × All (λ (v : StripedView). serving_of v ≡ new_servers 6) l.pairs.items
