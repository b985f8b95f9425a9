use Rattle.std.proofs.Common.{◌≡◌, arith, List, length, ap}
use Rattle.std.proofs.lemmas.List.{length_push}
use Rattle.std.proofs.lemmas.List.Elements.{All-push}
use Rattle.loglet_api.specs.declared.call.Kind.TheVariants.{Native}
use Rattle.native_loglet.specs.Natives.{NativeView, serving_of as native_serving}
use Rattle.shelf_loglets.specs.Stripes.{IsStripe, new_servers}
use Rattle.shelf_loglets.proofs.striped.natives.Goals as goal

pub loop-index-preserved : goal.loop-index-preserved
loop-index-preserved c = (
  omega (arith, ap (λ (vs : List NativeView). length vs) c.in_ok-push.ensures.items, length_push c.loop-index.natives.items c.in_ok-native.field-0, c.loop-index.invariant.0),
  rw c.in_ok-push.ensures.items (All-push (λ (v : NativeView). IsStripe (Native 3) 3 7 c.args.room v.loglet) c.loop-index.natives.items c.in_ok-native.field-0 c.loop-index.invariant.1 c.in_ok-native.ensures.stripe),
  rw c.in_ok-push.ensures.items (All-push (λ (v : NativeView). native_serving v ≡ new_servers 3) c.loop-index.natives.items c.in_ok-native.field-0 c.loop-index.invariant.2 c.in_ok-native.ensures.serving),
)
