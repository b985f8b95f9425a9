use Rattle.std.proofs.Common.{◌≡◌, ◌∙◌, refl, sym, ap, subst, List, length, map}
use Rattle.std.specs.Prelude.{◌%◌, nat_lt, slice_get}
use Rattle.loglet_api.specs.declared.call.Refused.TheVariants.{Memory}
use Rattle.loglet_api.specs.declared.call.LogletCall.TheVariants.{Stray}
use Rattle.loglet_api.specs.declared.call.LogletAnswer.TheVariants.{Strayed, Refusal}
use Rattle.loglet_api.specs.Step.{LogletStep}
use Rattle.loglet_api.specs.View.{LogletView}
use Rattle.log_server.specs.View.{View}
use Rattle.native_loglet.specs.declared.marks.Marks.{Marks}
use Rattle.native_loglet.specs.Disks.{KeepDisks}
use Rattle.native_loglet.specs.Copies.{ComesAgain}
use Rattle.native_loglet.specs.Faults.{faults_after}
use Rattle.native_loglet.specs.Natives.{Native, NativeView, native_of, server_in, down_in, loglet_of}
use Rattle.native_loglet.specs.Steps.{NativeStep}
use Rattle.native_loglet.proofs.Alike.{IsOwned, Alike, shows, alike_owned, step_alike}
use Rattle.native_loglet.proofs.Counting.{marks_count}
use Rattle.native_loglet.proofs.Disks.{lent_back}
use Rattle.native_loglet.proofs.Serving.{strayed_serves, spared_serves, comes_wear}
use Rattle.native_loglet.proofs.Strays.{can_come, can_hear, strays_owned}
use Rattle.native_loglet.proofs.Goes.{goes_from, stays_goes, strays_goes}
use Rattle.native_loglet.proofs.loglet.NativeLogletLoglet.stray.Goals as goal

pub count_stray-requires-clause-can : goal.count_stray-requires-clause-can
count_stray-requires-clause-can g c =
    let i = c.self.inside in
    let a : Native = native_of i.room i.entries.items i.replicas.items i.marks i.pending.entries i.strays in
    rw c.deref_mut.ensures.value (can_come a c.self.invariant)

pub count_stray-requires-clause-hears : goal.count_stray-requires-clause-hears
count_stray-requires-clause-hears g c =
    let i = c.self.inside in
    let a : Native = native_of i.room i.entries.items i.replicas.items i.marks i.pending.entries i.strays in
    rw c.deref_mut.ensures.value (can_hear a c.self.invariant)

pub invariant_of-self : goal.invariant_of-self
invariant_of-self g c =
    let i = c.self.inside in
    let a : Native = native_of i.room i.entries.items i.replicas.items i.marks i.pending.entries i.strays in
    let b : Native = native_of i.room i.entries.items c.count_stray.new.replicas i.marks c.count_stray.new.pending.entries i.strays in
    let same : Alike a b = record { room = refl; entries = refl; servers = c.in_default.ensures.memory ∙ ap (map server_in) c.deref_mut.ensures.value; marks = refl; strays = refl; pending = c.in_default.ensures.pending } in
    let back = lent_back i.replicas.len i.replicas.items c.count_stray.new.replicas i.replicas.ok.0 (c.count_stray.auto.replicas ∙ ap (λ (vs : List View). length vs) c.deref_mut.ensures.value) in
    subst (λ (vs : List View). IsOwned (native_of i.room i.entries.items vs i.marks c.count_stray.new.pending.entries i.strays)) (sym back) (alike_owned a b same c.self.invariant)

pub returns-in_default-clause-step : goal.returns-in_default-clause-step
returns-in_default-clause-step g c =
    let i = c.self.inside in
    let a : Native = native_of i.room i.entries.items i.replicas.items i.marks i.pending.entries i.strays in
    let b : Native = native_of i.room i.entries.items c.count_stray.new.replicas i.marks c.count_stray.new.pending.entries i.strays in
    let same : Alike a b = record { room = refl; entries = refl; servers = c.in_default.ensures.memory ∙ ap (map server_in) c.deref_mut.ensures.value; marks = refl; strays = refl; pending = c.in_default.ensures.pending } in
    let back = lent_back i.replicas.len i.replicas.items c.count_stray.new.replicas i.replicas.ok.0 (c.count_stray.auto.replicas ∙ ap (λ (vs : List View). length vs) c.deref_mut.ensures.value) in
    subst (λ (vs : List View). LogletStep c.args.self.now.loglet (Stray c.args.word) (Refusal Memory) (loglet_of (native_of i.room i.entries.items vs i.marks c.count_stray.new.pending.entries i.strays))) (sym back)
    (step_alike a b _ _ _ (shows a _ c.self.view_is) c.self.invariant same tt refl)

pub returns-in_default-clause-serves : goal.returns-in_default-clause-serves
returns-in_default-clause-serves g c =
    let i = c.self.inside in
    let a : Native = native_of i.room i.entries.items i.replicas.items i.marks i.pending.entries i.strays in
    let back = lent_back i.replicas.len i.replicas.items c.count_stray.new.replicas i.replicas.ok.0 (c.count_stray.auto.replicas ∙ ap (λ (vs : List View). length vs) c.deref_mut.ensures.value) in
    spared_serves i.told i.carried i.strayed a _ _ c.count_stray.new.replicas c.self.view_is back (rw c.deref_mut.ensures.value at c.in_default.ensures.spared)

pub returns-in_default-clause-goes : goal.returns-in_default-clause-goes
returns-in_default-clause-goes g c =
    let i = c.self.inside in
    let a : Native = native_of i.room i.entries.items i.replicas.items i.marks i.pending.entries i.strays in
    let b : Native = native_of i.room i.entries.items c.count_stray.new.replicas i.marks c.count_stray.new.pending.entries i.strays in
    let same : Alike a b = record { room = refl; entries = refl; servers = c.in_default.ensures.memory ∙ ap (map server_in) c.deref_mut.ensures.value; marks = refl; strays = refl; pending = c.in_default.ensures.pending } in
    let back = lent_back i.replicas.len i.replicas.items c.count_stray.new.replicas i.replicas.ok.0 (c.count_stray.auto.replicas ∙ ap (λ (vs : List View). length vs) c.deref_mut.ensures.value) in
    subst (λ (vs : List View). NativeStep c.args.self.now.parts (Stray c.args.word) (Refusal Memory) (native_of i.room i.entries.items vs i.marks c.count_stray.new.pending.entries i.strays)) (sym back)
    (goes_from a _ _ _ b c.self.view_is tt (λ can. stays_goes a b _ _ c.self.invariant same can refl (λ d. refl)))

pub returns-in_default-clause-disks : goal.returns-in_default-clause-disks
returns-in_default-clause-disks g c =
    let i = c.self.inside in
    let back = lent_back i.replicas.len i.replicas.items c.count_stray.new.replicas i.replicas.ok.0 (c.count_stray.auto.replicas ∙ ap (λ (vs : List View). length vs) c.deref_mut.ensures.value) in
    subst (λ (vs : List View). KeepDisks c.args.self.now.replicas vs) (sym back)
    (subst (λ (x : NativeView). KeepDisks x.replicas c.count_stray.new.replicas) c.self.view_is (subst (λ (vs : List View). KeepDisks vs c.count_stray.new.replicas) c.deref_mut.ensures.value c.count_stray.ensures.disks))

pub invariant_of-self-2 : goal.invariant_of-self-2
invariant_of-self-2 g c =
    let i = c.self.inside in
    let a : Native = native_of i.room i.entries.items i.replicas.items i.marks i.pending.entries i.strays in
    let back = lent_back i.replicas.len i.replicas.items c.count_stray.new.replicas i.replicas.ok.0 (c.count_stray.auto.replicas ∙ ap (λ (vs : List View). length vs) c.deref_mut.ensures.value) in
    subst (λ (vs : List View). IsOwned (native_of i.room i.entries.items vs c.in-Ok.marks c.count_stray.new.pending.entries i.strays)) (sym back)
    (subst (λ (x : Marks). IsOwned (native_of i.room i.entries.items c.count_stray.new.replicas x c.count_stray.new.pending.entries i.strays)) (sym (rw c.deref_mut.ensures.value at c.in-Ok.ensures.counts))
    (strays_owned a c.count_stray.new.replicas c.count_stray.new.pending.entries c.args.word _ c.self.invariant (rw c.deref_mut.ensures.value at c.in-Ok.ensures.comes)))

pub returns-clause-step : goal.returns-clause-step
returns-clause-step g c =
    let i = c.self.inside in
    let a : Native = native_of i.room i.entries.items i.replicas.items i.marks i.pending.entries i.strays in
    let back = lent_back i.replicas.len i.replicas.items c.count_stray.new.replicas i.replicas.ok.0 (c.count_stray.auto.replicas ∙ ap (λ (vs : List View). length vs) c.deref_mut.ensures.value) in
    subst (λ (vs : List View). LogletStep c.args.self.now.loglet (Stray c.args.word) Strayed (loglet_of (native_of i.room i.entries.items vs c.in-Ok.marks c.count_stray.new.pending.entries i.strays))) (sym back)
    (subst (λ (x : LogletView). LogletStep x (Stray c.args.word) Strayed (loglet_of (native_of i.room i.entries.items c.count_stray.new.replicas c.in-Ok.marks c.count_stray.new.pending.entries i.strays))) (shows a _ c.self.view_is)
    (strays_goes a c.count_stray.new.replicas c.count_stray.new.pending.entries c.in-Ok.marks c.args.word _ c.self.invariant (rw c.deref_mut.ensures.value at c.in-Ok.ensures.comes) (rw c.deref_mut.ensures.value at c.in-Ok.ensures.counts)).loglet)

pub returns-clause-serves : goal.returns-clause-serves
returns-clause-serves g c =
    let i = c.self.inside in
    let a : Native = native_of i.room i.entries.items i.replicas.items i.marks i.pending.entries i.strays in
    let back = lent_back i.replicas.len i.replicas.items c.count_stray.new.replicas i.replicas.ok.0 (c.count_stray.auto.replicas ∙ ap (λ (vs : List View). length vs) c.deref_mut.ensures.value) in
    strayed_serves i.told i.carried i.strayed a _ c.args.word _ _ c.count_stray.new.replicas c.self.view_is back c.one_more-self-inside.ensures
    (comes_wear i.marks.cut _ i.pending.entries c.count_stray.new.pending.entries i.replicas.items c.count_stray.new.replicas _ (rw c.deref_mut.ensures.value at c.in-Ok.ensures.comes))

pub returns-clause-goes : goal.returns-clause-goes
returns-clause-goes g c =
    let i = c.self.inside in
    let a : Native = native_of i.room i.entries.items i.replicas.items i.marks i.pending.entries i.strays in
    let back = lent_back i.replicas.len i.replicas.items c.count_stray.new.replicas i.replicas.ok.0 (c.count_stray.auto.replicas ∙ ap (λ (vs : List View). length vs) c.deref_mut.ensures.value) in
    subst (λ (vs : List View). NativeStep c.args.self.now.parts (Stray c.args.word) Strayed (native_of i.room i.entries.items vs c.in-Ok.marks c.count_stray.new.pending.entries i.strays)) (sym back)
    (goes_from a _ _ _ _ c.self.view_is tt (λ can. strays_goes a c.count_stray.new.replicas c.count_stray.new.pending.entries c.in-Ok.marks c.args.word _ c.self.invariant (rw c.deref_mut.ensures.value at c.in-Ok.ensures.comes) (rw c.deref_mut.ensures.value at c.in-Ok.ensures.counts)))

pub returns-clause-counts : goal.returns-clause-counts
returns-clause-counts g c =
    let i = c.self.inside in
    let a : Native = native_of i.room i.entries.items i.replicas.items i.marks i.pending.entries i.strays in
    let back = lent_back i.replicas.len i.replicas.items c.count_stray.new.replicas i.replicas.ok.0 (c.count_stray.auto.replicas ∙ ap (λ (vs : List View). length vs) c.deref_mut.ensures.value) in
    subst (λ (vs : List View). c.in-Ok.marks.faults ≡ faults_after (nat_lt c.args.self.now.loglet.down (down_in vs)) c.args.self.now.loglet.faults) (sym back)
    (marks_count a c.in-Ok.marks _ _ (shows a _ c.self.view_is) (rw c.deref_mut.ensures.value at c.in-Ok.ensures.counts)
    ∙ ap (λ (x : LogletView). faults_after (nat_lt x.down (down_in c.count_stray.new.replicas)) c.args.self.now.loglet.faults) (shows a _ c.self.view_is))

pub returns-in_default-clause-keeps : goal.returns-in_default-clause-keeps
returns-in_default-clause-keeps g c = ap (λ (x : NativeView). x.parts.strays) c.self.view_is

pub returns-clause-keeps : goal.returns-clause-keeps
returns-clause-keeps g c = ap (λ (x : NativeView). x.parts.strays) c.self.view_is

pub returns-clause-disks : goal.returns-clause-disks
returns-clause-disks g c =
    let i = c.self.inside in
    let back = lent_back i.replicas.len i.replicas.items c.count_stray.new.replicas i.replicas.ok.0 (c.count_stray.auto.replicas ∙ ap (λ (vs : List View). length vs) c.deref_mut.ensures.value) in
    subst (λ (vs : List View). KeepDisks c.args.self.now.replicas vs) (sym back)
    (subst (λ (x : NativeView). KeepDisks x.replicas c.count_stray.new.replicas) c.self.view_is (subst (λ (vs : List View). KeepDisks vs c.count_stray.new.replicas) c.deref_mut.ensures.value c.count_stray.ensures.disks))

pub returns-clause-comes : goal.returns-clause-comes
returns-clause-comes g c =
    let i = c.self.inside in
    let ws = c.count_stray.new.replicas in
    let back = lent_back i.replicas.len i.replicas.items ws i.replicas.ok.0 (c.count_stray.auto.replicas ∙ ap (λ (vs : List View). length vs) c.deref_mut.ensures.value) in
    subst (λ (vs : List View). ComesAgain c.args.self.now.parts.marks.cut (slice_get c.args.self.now.parts.strays (c.args.word % length c.args.self.now.parts.strays)) c.args.self.now.parts.pending c.count_stray.new.pending.entries c.args.self.now.replicas vs (nat_lt c.args.self.now.loglet.down (down_in vs))) (sym back)
    (subst (λ (x : NativeView). ComesAgain x.parts.marks.cut (slice_get x.parts.strays (c.args.word % length x.parts.strays)) x.parts.pending c.count_stray.new.pending.entries x.replicas ws (nat_lt x.loglet.down (down_in ws))) c.self.view_is (rw c.deref_mut.ensures.value at c.in-Ok.ensures.comes))
