use Rattle.std.proofs.Common.{◌≡◌, refl, ap, set, arith, subst, Some}
use Rattle.std.specs.Prelude.{slice_get}
use Rattle.native_loglet.specs.Natives.{Native, native_of}
use Rattle.native_loglet.proofs.Alike.{shows, alike_owned, step_alike, put_alike, within_servers}
use Rattle.loglet_api.specs.Servers.{IsArmed}
use Rattle.log_server.specs.View.{View}
use Rattle.native_loglet.specs.Natives.{NativeView}
use Rattle.native_loglet.proofs.Serving.{put_serves}
use Rattle.native_loglet.proofs.Goes.{goes_from, stays_goes}
use Rattle.native_loglet.specs.Disks.{armed_by, KeepDisks}
use Rattle.native_loglet.proofs.Disks.{armed_there, put_disks}
use Rattle.native_loglet.proofs.loglet.NativeLogletLoglet.stop.Goals as goal

pub index_mut-requires : goal.index_mut-requires
index_mut-requires g c =
    let i = c.self.inside in
    let a : Native = native_of i.room i.entries.items i.replicas.items i.marks i.pending.entries i.strays in
    omega (arith, within_servers a _ c.args.server (shows a _ c.self.view_is) c.requires, i.replicas.ok.0)

pub invariant_of-self : goal.invariant_of-self
invariant_of-self g c =
    let i = c.self.inside in
    let a : Native = native_of i.room i.entries.items i.replicas.items i.marks i.pending.entries i.strays in
    let b : Native = native_of i.room i.entries.items (set i.replicas.items c.args.server c.stop.new.self) i.marks i.pending.entries i.strays in
    alike_owned a b (put_alike i.strays i.room i.entries.items i.replicas.items i.marks i.pending.entries c.args.server c.index_mut.result.now c.stop.new.self (within_servers a _ c.args.server (shows a _ c.self.view_is) c.requires) c.index_mut.ensures.value (ap (λ (v : View). v.server) c.stop.ensures.stops)) c.self.invariant

pub returns-clause-step : goal.returns-clause-step
returns-clause-step g c =
    let i = c.self.inside in
    let a : Native = native_of i.room i.entries.items i.replicas.items i.marks i.pending.entries i.strays in
    let b : Native = native_of i.room i.entries.items (set i.replicas.items c.args.server c.stop.new.self) i.marks i.pending.entries i.strays in
    step_alike a b _ _ _ (shows a _ c.self.view_is) c.self.invariant (put_alike i.strays i.room i.entries.items i.replicas.items i.marks i.pending.entries c.args.server c.index_mut.result.now c.stop.new.self (within_servers a _ c.args.server (shows a _ c.self.view_is) c.requires) c.index_mut.ensures.value (ap (λ (v : View). v.server) c.stop.ensures.stops)) c.requires refl

pub returns-clause-serves : goal.returns-clause-serves
returns-clause-serves g c =
    let i = c.self.inside in
    let a : Native = native_of i.room i.entries.items i.replicas.items i.marks i.pending.entries i.strays in
    let here = within_servers a _ c.args.server (shows a _ c.self.view_is) c.requires in
    put_serves i.told i.carried i.strayed (IsArmed c.args.after) a _ c.args.server c.index_mut.result.now c.stop.new.self c.self.view_is here c.index_mut.ensures.value c.stop.ensures.arms

pub returns-clause-goes : goal.returns-clause-goes
returns-clause-goes g c =
    let i = c.self.inside in
    let a : Native = native_of i.room i.entries.items i.replicas.items i.marks i.pending.entries i.strays in
    let b : Native = native_of i.room i.entries.items (set i.replicas.items c.args.server c.stop.new.self) i.marks i.pending.entries i.strays in
    let alike = put_alike i.strays i.room i.entries.items i.replicas.items i.marks i.pending.entries c.args.server c.index_mut.result.now c.stop.new.self (within_servers a _ c.args.server (shows a _ c.self.view_is) c.requires) c.index_mut.ensures.value (ap (λ (v : View). v.server) c.stop.ensures.stops) in
    goes_from a _ _ _ b c.self.view_is c.requires (λ can. stays_goes a b _ _ c.self.invariant alike can refl (λ d. refl))

pub returns-clause-disks : goal.returns-clause-disks
returns-clause-disks g c =
    let i = c.self.inside in
    subst (λ (x : NativeView). KeepDisks x.replicas (set i.replicas.items c.args.server c.stop.new.self)) c.self.view_is (put_disks i.replicas.items c.args.server c.stop.new.self c.stop.ensures.survives)

pub returns-clause-arms : goal.returns-clause-arms
returns-clause-arms g c =
    let i = c.self.inside in
    let a : Native = native_of i.room i.entries.items i.replicas.items i.marks i.pending.entries i.strays in
    let here = within_servers a _ c.args.server (shows a _ c.self.view_is) c.requires in
    subst (λ (x : NativeView). (v : View) → slice_get x.replicas c.args.server ≡ Some v → slice_get (set i.replicas.items c.args.server c.stop.new.self) c.args.server ≡ Some (armed_by c.args.after v)) c.self.view_is
    (λ v there. armed_there i.replicas.items c.args.server c.args.after c.index_mut.result.now c.stop.new.self v here c.index_mut.ensures.value c.stop.ensures.stops there)
