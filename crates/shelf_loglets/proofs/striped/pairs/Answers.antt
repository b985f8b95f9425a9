use Rattle.std.proofs.Common.{◌≡◌, ◌*◌, arith, List, length, ap}
use Rattle.std.proofs.lemmas.List.{length_push}
use Rattle.std.proofs.lemmas.List.Elements.{All-push}
use Rattle.loglet_api.specs.declared.call.Kind.TheVariants.{Striped}
use Rattle.striped_loglet.specs.Striped.{StripedView, serving_of}
use Rattle.shelf_loglets.specs.Stripes.{IsStripe, new_servers}
use Rattle.shelf_loglets.proofs.striped.pairs.Goals as goal

pub loop-index-preserved : goal.loop-index-preserved
loop-index-preserved c = (
  omega (arith, ap (λ (vs : List StripedView). length vs) c.in_ok-push.ensures.items, length_push c.loop-index.pairs.items c.in_ok-pair.field-0, c.loop-index.invariant.0),
  rw c.in_ok-push.ensures.items (All-push (λ (v : StripedView). IsStripe (Striped 2) 6 63 (2 * c.args.room) v.loglet) c.loop-index.pairs.items c.in_ok-pair.field-0 c.loop-index.invariant.1 c.in_ok-pair.ensures.stripe),
  rw c.in_ok-push.ensures.items (All-push (λ (v : StripedView). serving_of v ≡ new_servers 6) c.loop-index.pairs.items c.in_ok-pair.field-0 c.loop-index.invariant.2 c.in_ok-pair.ensures.serving),
)
