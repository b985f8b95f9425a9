use Rattle.std.proofs.Common.{refl}
use Rattle.native_loglet.specs.Natives.{Native, native_of}
use Rattle.native_loglet.proofs.Alike.{shows, forgets_owned}
use Rattle.native_loglet.proofs.Goes.{goes_from, forgets_goes}
use Rattle.native_loglet.proofs.loglet.NativeLogletLoglet.forget.Goals as goal

pub invariant_of-self : goal.invariant_of-self
invariant_of-self g c =
    let i = c.self.inside in
    let a : Native = native_of i.room i.entries.items i.replicas.items i.marks i.pending.entries i.strays in
    let b : Native = native_of i.room i.entries.items i.replicas.items i.marks c.remove.new.self.entries i.strays in
    (forgets_owned a b _ c.args.ticket (shows a _ c.self.view_is) c.self.invariant c.requires (record { room = refl; entries = refl; replicas = refl; cut = refl; faults = refl; begun = refl; seals_are = refl; strays = refl }) refl (rw c.number.ensures at c.remove.ensures.updates)).0

pub returns-clause-step : goal.returns-clause-step
returns-clause-step g c =
    let i = c.self.inside in
    let a : Native = native_of i.room i.entries.items i.replicas.items i.marks i.pending.entries i.strays in
    let b : Native = native_of i.room i.entries.items i.replicas.items i.marks c.remove.new.self.entries i.strays in
    (forgets_owned a b _ c.args.ticket (shows a _ c.self.view_is) c.self.invariant c.requires (record { room = refl; entries = refl; replicas = refl; cut = refl; faults = refl; begun = refl; seals_are = refl; strays = refl }) refl (rw c.number.ensures at c.remove.ensures.updates)).1

pub returns-clause-goes : goal.returns-clause-goes
returns-clause-goes g c =
    let i = c.self.inside in
    let a : Native = native_of i.room i.entries.items i.replicas.items i.marks i.pending.entries i.strays in
    let b : Native = native_of i.room i.entries.items i.replicas.items i.marks c.remove.new.self.entries i.strays in
    goes_from a _ _ _ b c.self.view_is c.requires (λ can. forgets_goes a b c.args.ticket c.self.invariant can (record { room = refl; entries = refl; replicas = refl; cut = refl; faults = refl; begun = refl; seals_are = refl; strays = refl }) refl (rw c.number.ensures at c.remove.ensures.updates))
