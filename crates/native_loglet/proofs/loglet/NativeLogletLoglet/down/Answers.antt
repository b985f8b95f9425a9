use Rattle.std.proofs.Common.{◌≡◌, ◌∙◌, ap, subst, arith}
use Rattle.native_loglet.specs.Natives.{Native, NativeView, native_of, states_in, down_in}
use Rattle.loglet_api.specs.Servers.{downs_of}
use Rattle.native_loglet.proofs.Alike.{servers_few}
use Rattle.native_loglet.proofs.Serving.{downs_are}
use Rattle.native_loglet.proofs.loglet.NativeLogletLoglet.down.Goals as goal

pub down-requires : goal.down-requires
down-requires g c =
    let i = c.self.inside in
    let a : Native = native_of i.room i.entries.items i.replicas.items i.marks i.pending.entries i.strays in
    omega (arith, servers_few a c.self.invariant, c.deref.ensures.len)

pub returns-clause-each : goal.returns-clause-each
returns-clause-each g c = subst (λ (v : NativeView). c.down.result ≡ downs_of (states_in v.replicas)) c.self.view_is (c.down.ensures ∙ ap down_in c.deref.ensures.value ∙ downs_are c.self.inside.replicas.items)
