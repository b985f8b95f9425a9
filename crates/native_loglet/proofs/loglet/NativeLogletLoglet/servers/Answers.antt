use Rattle.std.proofs.Common.{◌≡◌, subst, length, arith}
use Rattle.loglet_api.specs.Sound.{IsSound}
use Rattle.native_loglet.specs.Natives.{NativeView, states_in}
use Rattle.native_loglet.proofs.Stepping.{tied_sound}
use Rattle.native_loglet.proofs.Serving.{states_many}
use Rattle.native_loglet.proofs.loglet.NativeLogletLoglet.servers.Goals as goal

pub returns-clause-sound : goal.returns-clause-sound
returns-clause-sound g c = subst (λ (v : NativeView). IsSound v.loglet) c.self.view_is (tied_sound _ c.self.invariant.0 c.self.invariant.1)

pub returns-clause-each : goal.returns-clause-each
returns-clause-each g c =
    let vs = c.self.inside.replicas in
    subst (λ (v : NativeView). length (states_in v.replicas) ≡ c.len.result) c.self.view_is (omega (arith, states_many vs.items, c.len.ensures, vs.ok.0))
