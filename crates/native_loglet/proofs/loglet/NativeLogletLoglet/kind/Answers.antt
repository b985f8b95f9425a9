use Rattle.std.proofs.Common.{arith}
use Rattle.native_loglet.specs.Natives.{Native, native_of}
use Rattle.native_loglet.proofs.Alike.{servers_few}
use Rattle.native_loglet.proofs.loglet.NativeLogletLoglet.kind.Goals as goal

pub overflow_cast-result : goal.overflow_cast-result
overflow_cast-result g c =
    let i = c.self.inside in
    let a : Native = native_of i.room i.entries.items i.replicas.items i.marks i.pending.entries i.strays in
    omega (arith, servers_few a c.self.invariant, c.len.ensures)
