use Rattle.std.proofs.Common.{set, ap, subst, ◌∙◌, refl, false, arith, List}
use Rattle.std.specs.Prelude.{Ok}
use Rattle.native_loglet.specs.Natives.{Native, native_of}
use Rattle.native_loglet.proofs.Alike.{shows, alike_owned, step_alike, put_alike, within_servers}
use Rattle.native_loglet.proofs.Rules.{value_or}
use Rattle.native_loglet.proofs.Wholes.{restarts_whole}
use Rattle.loglet_api.specs.Servers.{RestartsTo, MayReopen}
use Rattle.log_server.specs.View.{View}
use Rattle.native_loglet.specs.Natives.{NativeView}
use Rattle.std.specs.Prelude.{not}
use Rattle.native_loglet.proofs.Counting.{marks_count}
use Rattle.native_loglet.proofs.Serving.{put_serves}
use Rattle.native_loglet.proofs.Goes.{goes_from, stays_goes, restarts_goes}
use Rattle.native_loglet.specs.Disks.{KeepDisks}
use Rattle.native_loglet.proofs.Disks.{put_disks}
use Rattle.native_loglet.proofs.loglet.NativeLogletLoglet.restart.Goals as goal

pub index_mut-requires : goal.index_mut-requires
index_mut-requires g c =
    let i = c.self.inside in
    let a : Native = native_of i.room i.entries.items i.replicas.items i.marks i.pending.entries i.strays in
    omega (arith, within_servers a _ c.args.server (shows a _ c.self.view_is) c.requires, i.replicas.ok.0)

pub invariant_of-self : goal.invariant_of-self
invariant_of-self g c =
    let i = c.self.inside in
    let a : Native = native_of i.room i.entries.items i.replicas.items i.marks i.pending.entries i.strays in
    let b : Native = native_of i.room i.entries.items (set i.replicas.items c.args.server c.restart.new.self) i.marks i.pending.entries i.strays in
    alike_owned a b (put_alike i.strays i.room i.entries.items i.replicas.items i.marks i.pending.entries c.args.server c.index_mut.result.now c.restart.new.self (within_servers a _ c.args.server (shows a _ c.self.view_is) c.requires) c.index_mut.ensures.value c.in_default.ensures.memory) c.self.invariant

pub returns-in_default-clause-step : goal.returns-in_default-clause-step
returns-in_default-clause-step g c =
    let i = c.self.inside in
    let a : Native = native_of i.room i.entries.items i.replicas.items i.marks i.pending.entries i.strays in
    let b : Native = native_of i.room i.entries.items (set i.replicas.items c.args.server c.restart.new.self) i.marks i.pending.entries i.strays in
    step_alike a b _ _ _ (shows a _ c.self.view_is) c.self.invariant (put_alike i.strays i.room i.entries.items i.replicas.items i.marks i.pending.entries c.args.server c.index_mut.result.now c.restart.new.self (within_servers a _ c.args.server (shows a _ c.self.view_is) c.requires) c.index_mut.ensures.value c.in_default.ensures.memory) c.requires refl

pub invariant_of-self-2 : goal.invariant_of-self-2
invariant_of-self-2 g c =
    let i = c.self.inside in
    let a : Native = native_of i.room i.entries.items i.replicas.items i.marks i.pending.entries i.strays in
    (restarts_whole a c.after-self-inside.result _ c.args.server c.args.word c.index_mut.result.now c.restart.new.self c.in-Ok.up (shows a _ c.self.view_is) c.self.invariant (within_servers a _ c.args.server (shows a _ c.self.view_is) c.requires) c.index_mut.ensures.value
    (λ u. (let y = c.in-Ok.ensures.up u in (ap (value_or false) y.0, ap (λ (v : View). v.server) y.1))) (λ u. c.in-Ok.ensures.restarted (ap (λ x. Ok x) u)) (λ u. c.in-Ok.ensures.failed (ap (λ x. Ok x) u)) c.after-self-inside.ensures).0

pub returns-clause-step : goal.returns-clause-step
returns-clause-step g c =
    let i = c.self.inside in
    let a : Native = native_of i.room i.entries.items i.replicas.items i.marks i.pending.entries i.strays in
    (restarts_whole a c.after-self-inside.result _ c.args.server c.args.word c.index_mut.result.now c.restart.new.self c.in-Ok.up (shows a _ c.self.view_is) c.self.invariant (within_servers a _ c.args.server (shows a _ c.self.view_is) c.requires) c.index_mut.ensures.value
    (λ u. (let y = c.in-Ok.ensures.up u in (ap (value_or false) y.0, ap (λ (v : View). v.server) y.1))) (λ u. c.in-Ok.ensures.restarted (ap (λ x. Ok x) u)) (λ u. c.in-Ok.ensures.failed (ap (λ x. Ok x) u)) c.after-self-inside.ensures).1

pub returns-in_default-clause-serves : goal.returns-in_default-clause-serves
returns-in_default-clause-serves g c =
    let i = c.self.inside in
    let a : Native = native_of i.room i.entries.items i.replicas.items i.marks i.pending.entries i.strays in
    let here = within_servers a _ c.args.server (shows a _ c.self.view_is) c.requires in
    put_serves i.told i.carried i.strayed (MayReopen c.args.word) a _ c.args.server c.index_mut.result.now c.restart.new.self c.self.view_is here c.index_mut.ensures.value c.in_default.ensures.spared

pub returns-clause-serves : goal.returns-clause-serves
returns-clause-serves g c =
    let i = c.self.inside in
    let a : Native = native_of i.room i.entries.items i.replicas.items i.marks i.pending.entries i.strays in
    let here = within_servers a _ c.args.server (shows a _ c.self.view_is) c.requires in
    put_serves i.told i.carried i.strayed (RestartsTo c.args.word c.in-Ok.up) a _ c.args.server c.index_mut.result.now c.restart.new.self c.self.view_is here c.index_mut.ensures.value c.in-Ok.ensures.rises

pub returns-clause-counts : goal.returns-clause-counts
returns-clause-counts g c =
    let i = c.self.inside in
    let a : Native = native_of i.room i.entries.items i.replicas.items i.marks i.pending.entries i.strays in
    marks_count a c.after-self-inside.result _ (not c.in-Ok.up) (shows a _ c.self.view_is) c.after-self-inside.ensures

pub returns-in_default-clause-goes : goal.returns-in_default-clause-goes
returns-in_default-clause-goes g c =
    let i = c.self.inside in
    let a : Native = native_of i.room i.entries.items i.replicas.items i.marks i.pending.entries i.strays in
    let b : Native = native_of i.room i.entries.items (set i.replicas.items c.args.server c.restart.new.self) i.marks i.pending.entries i.strays in
    let alike = put_alike i.strays i.room i.entries.items i.replicas.items i.marks i.pending.entries c.args.server c.index_mut.result.now c.restart.new.self (within_servers a _ c.args.server (shows a _ c.self.view_is) c.requires) c.index_mut.ensures.value c.in_default.ensures.memory in
    goes_from a _ _ _ b c.self.view_is c.requires (λ can. stays_goes a b _ _ c.self.invariant alike can refl (λ d. refl))

pub returns-clause-goes : goal.returns-clause-goes
returns-clause-goes g c =
    let i = c.self.inside in
    let a : Native = native_of i.room i.entries.items i.replicas.items i.marks i.pending.entries i.strays in
    let here = within_servers a _ c.args.server (shows a _ c.self.view_is) c.requires in
    goes_from a _ _ _ _ c.self.view_is c.requires (λ can. restarts_goes a c.after-self-inside.result c.args.server c.args.word c.index_mut.result.now c.restart.new.self c.in-Ok.up c.self.invariant here c.index_mut.ensures.value
    (λ u. (let y = c.in-Ok.ensures.up u in (ap (value_or false) y.0, ap (λ (v : View). v.server) y.1))) (λ u. c.in-Ok.ensures.restarted (ap (λ x. Ok x) u)) (λ u. c.in-Ok.ensures.failed (ap (λ x. Ok x) u)) c.after-self-inside.ensures)

pub returns-in_default-clause-disks : goal.returns-in_default-clause-disks
returns-in_default-clause-disks g c =
    let i = c.self.inside in
    subst (λ (x : NativeView). KeepDisks x.replicas (set i.replicas.items c.args.server c.restart.new.self)) c.self.view_is (put_disks i.replicas.items c.args.server c.restart.new.self c.restart.ensures.survives)

pub returns-clause-disks : goal.returns-clause-disks
returns-clause-disks g c =
    let i = c.self.inside in
    subst (λ (x : NativeView). KeepDisks x.replicas (set i.replicas.items c.args.server c.restart.new.self)) c.self.view_is (put_disks i.replicas.items c.args.server c.restart.new.self c.restart.ensures.survives)
