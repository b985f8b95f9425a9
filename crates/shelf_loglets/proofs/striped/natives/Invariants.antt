use Rattle.std.proofs.Common.{◌≡◌, length, All}
use Rattle.loglet_api.specs.declared.call.Kind.TheVariants.{Native}
use Rattle.native_loglet.specs.Natives.{NativeView, serving_of as native_serving}
use Rattle.shelf_loglets.specs.Stripes.{IsStripe, new_servers}
use Rattle.shelf_loglets.proofs.striped.natives.Given as goal

abbrev pub invariant-loop-index : goal.invariant-loop-index
invariant-loop-index l = (length l.natives.items ≡ l._index) × All (λ (v : NativeView). IsStripe (Native 3) 3 7 l.room v.loglet) l.natives.items × All (λ (v : NativeView). native_serving v ≡ new_servers 3) l.natives.items
