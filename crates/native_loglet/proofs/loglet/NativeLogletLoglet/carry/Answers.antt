use Rattle.std.proofs.Common.{◌≡◌, Bool, refl, sym, ap, subst, ◌∙◌, List, length, map, Some}
use Rattle.loglet_api.specs.declared.call.Refused.TheVariants.{Memory}
use Rattle.loglet_api.specs.declared.call.LogletCall.TheVariants.{Carry}
use Rattle.loglet_api.specs.declared.call.LogletAnswer.TheVariants.{Carried, Refusal}
use Rattle.loglet_api.specs.Step.{LogletStep}
use Rattle.log_server.specs.View.{View}
use Rattle.native_loglet.specs.Natives.{Native, native_of, server_in, look_in, loglet_of}
use Rattle.native_loglet.proofs.Alike.{IsOwned, Alike, shows, alike_owned, step_alike, entries_spelled, entries_small}
use Rattle.native_loglet.proofs.Messages.{can_carry}
use Rattle.native_loglet.proofs.Disks.{lent_back}
use Rattle.native_plan.specs.declared.pending.Pending.{Pending}
use Rattle.native_loglet.specs.Copies.{copy_in, kept_after}
use Rattle.native_loglet.specs.Moving.{CarriesAt}
use Rattle.native_loglet.proofs.Wholes.{carries_whole}
use Rattle.native_loglet.specs.Natives.{NativeView}
use Rattle.native_loglet.specs.Natives.{down_in}
use Rattle.native_loglet.specs.Faults.{faults_after, is_failed}
use Rattle.native_loglet.proofs.Counting.{carry_counts}
use Rattle.native_loglet.proofs.Serving.{carried_serves, spared_serves}
use Rattle.native_loglet.specs.Steps.{NativeStep}
use Rattle.native_loglet.proofs.Goes.{goes_from, stays_goes, carries_goes}
use Rattle.native_loglet.specs.Disks.{KeepDisks}
use Rattle.native_loglet.proofs.loglet.NativeLogletLoglet.carry.Goals as goal

pub carry_keeping-requires-clause-can : goal.carry_keeping-requires-clause-can
carry_keeping-requires-clause-can g c =
    let i = c.self.inside in
    let a : Native = native_of i.room i.entries.items i.replicas.items i.marks i.pending.entries i.strays in
    rw (c.number.ensures, c.deref_mut.ensures.value) (can_carry a _ c.args.ticket c.args.word (shows a _ c.self.view_is) c.self.invariant c.requires)

pub carry_keeping-requires-clause-spelled : goal.carry_keeping-requires-clause-spelled
carry_keeping-requires-clause-spelled g c =
    let i = c.self.inside in
    let a : Native = native_of i.room i.entries.items i.replicas.items i.marks i.pending.entries i.strays in
    entries_spelled a c.self.invariant

pub carry_keeping-requires-clause-small : goal.carry_keeping-requires-clause-small
carry_keeping-requires-clause-small g c =
    let i = c.self.inside in
    let a : Native = native_of i.room i.entries.items i.replicas.items i.marks i.pending.entries i.strays in
    entries_small a c.self.invariant

pub invariant_of-self : goal.invariant_of-self
invariant_of-self g c =
    let i = c.self.inside in
    let a : Native = native_of i.room i.entries.items i.replicas.items i.marks i.pending.entries i.strays in
    let b : Native = native_of i.room i.entries.items c.carry_keeping.new.replicas i.marks c.carry_keeping.new.pending.entries c.carry_keeping.new.strays in
    let same : Alike a b = record { room = refl; entries = refl; servers = c.in_default.ensures.memory ∙ ap (map server_in) c.deref_mut.ensures.value; marks = refl; strays = c.in_default.ensures.strays_stay; pending = c.in_default.ensures.pending } in
    let back = lent_back i.replicas.len i.replicas.items c.carry_keeping.new.replicas i.replicas.ok.0 (c.carry_keeping.auto.replicas ∙ ap (λ (vs : List View). length vs) c.deref_mut.ensures.value) in
    subst (λ (vs : List View). IsOwned (native_of i.room i.entries.items vs i.marks c.carry_keeping.new.pending.entries c.carry_keeping.new.strays)) (sym back) (alike_owned a b same c.self.invariant)

pub returns-in_default-clause-step : goal.returns-in_default-clause-step
returns-in_default-clause-step g c =
    let i = c.self.inside in
    let a : Native = native_of i.room i.entries.items i.replicas.items i.marks i.pending.entries i.strays in
    let b : Native = native_of i.room i.entries.items c.carry_keeping.new.replicas i.marks c.carry_keeping.new.pending.entries c.carry_keeping.new.strays in
    let same : Alike a b = record { room = refl; entries = refl; servers = c.in_default.ensures.memory ∙ ap (map server_in) c.deref_mut.ensures.value; marks = refl; strays = c.in_default.ensures.strays_stay; pending = c.in_default.ensures.pending } in
    let back = lent_back i.replicas.len i.replicas.items c.carry_keeping.new.replicas i.replicas.ok.0 (c.carry_keeping.auto.replicas ∙ ap (λ (vs : List View). length vs) c.deref_mut.ensures.value) in
    subst (λ (vs : List View). LogletStep c.args.self.now.loglet (Carry c.args.ticket c.args.word) (Refusal Memory) (loglet_of (native_of i.room i.entries.items vs i.marks c.carry_keeping.new.pending.entries c.carry_keeping.new.strays))) (sym back)
    (step_alike a b _ _ _ (shows a _ c.self.view_is) c.self.invariant same c.requires refl)

pub invariant_of-self-2 : goal.invariant_of-self-2
invariant_of-self-2 g c =
    let i = c.self.inside in
    let a : Native = native_of i.room i.entries.items i.replicas.items i.marks i.pending.entries i.strays in
    let back = lent_back i.replicas.len i.replicas.items c.carry_keeping.new.replicas i.replicas.ok.0 (c.carry_keeping.auto.replicas ∙ ap (λ (vs : List View). length vs) c.deref_mut.ensures.value) in
    subst (λ (vs : List View). IsOwned (native_of i.room i.entries.items vs c.after-self-inside.result c.carry_keeping.new.pending.entries c.carry_keeping.new.strays)) (sym back)
    (carries_whole a c.carry_keeping.new.replicas c.carry_keeping.new.pending.entries c.carry_keeping.new.strays c.after-self-inside.result _ c.args.ticket c.args.word c.in-Ok.failed (shows a _ c.self.view_is) c.self.invariant c.requires (rw (c.number.ensures, c.deref_mut.ensures.value) at c.in-Ok.ensures.carries) (rw c.number.ensures at c.in-Ok.ensures.keeps) c.after-self-inside.ensures).0

pub returns-clause-step : goal.returns-clause-step
returns-clause-step g c =
    let i = c.self.inside in
    let a : Native = native_of i.room i.entries.items i.replicas.items i.marks i.pending.entries i.strays in
    let back = lent_back i.replicas.len i.replicas.items c.carry_keeping.new.replicas i.replicas.ok.0 (c.carry_keeping.auto.replicas ∙ ap (λ (vs : List View). length vs) c.deref_mut.ensures.value) in
    subst (λ (vs : List View). LogletStep c.args.self.now.loglet (Carry c.args.ticket c.args.word) Carried (loglet_of (native_of i.room i.entries.items vs c.after-self-inside.result c.carry_keeping.new.pending.entries c.carry_keeping.new.strays))) (sym back)
    (carries_whole a c.carry_keeping.new.replicas c.carry_keeping.new.pending.entries c.carry_keeping.new.strays c.after-self-inside.result _ c.args.ticket c.args.word c.in-Ok.failed (shows a _ c.self.view_is) c.self.invariant c.requires (rw (c.number.ensures, c.deref_mut.ensures.value) at c.in-Ok.ensures.carries) (rw c.number.ensures at c.in-Ok.ensures.keeps) c.after-self-inside.ensures).1

pub returns-in_default-clause-serves : goal.returns-in_default-clause-serves
returns-in_default-clause-serves g c =
    let i = c.self.inside in
    let a : Native = native_of i.room i.entries.items i.replicas.items i.marks i.pending.entries i.strays in
    let back = lent_back i.replicas.len i.replicas.items c.carry_keeping.new.replicas i.replicas.ok.0 (c.carry_keeping.auto.replicas ∙ ap (λ (vs : List View). length vs) c.deref_mut.ensures.value) in
    spared_serves i.told i.carried i.strayed a _ _ c.carry_keeping.new.replicas c.self.view_is back (rw c.deref_mut.ensures.value at c.in_default.ensures.spared)

pub returns-clause-serves : goal.returns-clause-serves
returns-clause-serves g c =
    let i = c.self.inside in
    let a : Native = native_of i.room i.entries.items i.replicas.items i.marks i.pending.entries i.strays in
    let back = lent_back i.replicas.len i.replicas.items c.carry_keeping.new.replicas i.replicas.ok.0 (c.carry_keeping.auto.replicas ∙ ap (λ (vs : List View). length vs) c.deref_mut.ensures.value) in
    carried_serves i.told i.carried i.strayed a _ c.args.word _ _ c.carry_keeping.new.replicas c.self.view_is back c.one_more-self-inside.ensures (rw c.deref_mut.ensures.value at c.in-Ok.ensures.wear)

pub returns-clause-counts : goal.returns-clause-counts
returns-clause-counts g c =
    let i = c.self.inside in
    let a : Native = native_of i.room i.entries.items i.replicas.items i.marks i.pending.entries i.strays in
    let back = lent_back i.replicas.len i.replicas.items c.carry_keeping.new.replicas i.replicas.ok.0 (c.carry_keeping.auto.replicas ∙ ap (λ (vs : List View). length vs) c.deref_mut.ensures.value) in
    subst (λ (vs : List View). c.after-self-inside.result.faults ≡ faults_after (is_failed c.args.word c.args.self.now.loglet.down (down_in vs)) c.args.self.now.loglet.faults) (sym back)
    (carry_counts a c.carry_keeping.new.replicas c.after-self-inside.result _ c.args.ticket c.args.word c.in-Ok.failed (shows a _ c.self.view_is) c.self.invariant c.requires (rw (c.number.ensures, c.deref_mut.ensures.value) at c.in-Ok.ensures.failed) c.after-self-inside.ensures)

pub returns-in_default-clause-goes : goal.returns-in_default-clause-goes
returns-in_default-clause-goes g c =
    let i = c.self.inside in
    let a : Native = native_of i.room i.entries.items i.replicas.items i.marks i.pending.entries i.strays in
    let b : Native = native_of i.room i.entries.items c.carry_keeping.new.replicas i.marks c.carry_keeping.new.pending.entries c.carry_keeping.new.strays in
    let same : Alike a b = record { room = refl; entries = refl; servers = c.in_default.ensures.memory ∙ ap (map server_in) c.deref_mut.ensures.value; marks = refl; strays = c.in_default.ensures.strays_stay; pending = c.in_default.ensures.pending } in
    let back = lent_back i.replicas.len i.replicas.items c.carry_keeping.new.replicas i.replicas.ok.0 (c.carry_keeping.auto.replicas ∙ ap (λ (vs : List View). length vs) c.deref_mut.ensures.value) in
    subst (λ (vs : List View). NativeStep c.args.self.now.parts (Carry c.args.ticket c.args.word) (Refusal Memory) (native_of i.room i.entries.items vs i.marks c.carry_keeping.new.pending.entries c.carry_keeping.new.strays)) (sym back)
    (goes_from a _ _ _ b c.self.view_is c.requires (λ can. stays_goes a b _ _ c.self.invariant same can refl (λ d. refl)))

pub returns-clause-goes : goal.returns-clause-goes
returns-clause-goes g c =
    let i = c.self.inside in
    let a : Native = native_of i.room i.entries.items i.replicas.items i.marks i.pending.entries i.strays in
    let back = lent_back i.replicas.len i.replicas.items c.carry_keeping.new.replicas i.replicas.ok.0 (c.carry_keeping.auto.replicas ∙ ap (λ (vs : List View). length vs) c.deref_mut.ensures.value) in
    subst (λ (vs : List View). NativeStep c.args.self.now.parts (Carry c.args.ticket c.args.word) Carried (native_of i.room i.entries.items vs c.after-self-inside.result c.carry_keeping.new.pending.entries c.carry_keeping.new.strays)) (sym back)
    (goes_from a _ _ _ _ c.self.view_is c.requires (λ can. carries_goes a c.carry_keeping.new.replicas c.carry_keeping.new.pending.entries c.carry_keeping.new.strays c.after-self-inside.result c.args.ticket c.args.word c.in-Ok.failed c.self.invariant can (rw (c.number.ensures, c.deref_mut.ensures.value) at c.in-Ok.ensures.carries) (rw c.number.ensures at c.in-Ok.ensures.keeps) c.after-self-inside.ensures))

pub returns-in_default-clause-disks : goal.returns-in_default-clause-disks
returns-in_default-clause-disks g c =
    let i = c.self.inside in
    let back = lent_back i.replicas.len i.replicas.items c.carry_keeping.new.replicas i.replicas.ok.0 (c.carry_keeping.auto.replicas ∙ ap (λ (vs : List View). length vs) c.deref_mut.ensures.value) in
    subst (λ (vs : List View). KeepDisks c.args.self.now.replicas vs) (sym back)
    (subst (λ (x : NativeView). KeepDisks x.replicas c.carry_keeping.new.replicas) c.self.view_is (subst (λ (vs : List View). KeepDisks vs c.carry_keeping.new.replicas) c.deref_mut.ensures.value c.carry_keeping.ensures.disks))

pub returns-clause-disks : goal.returns-clause-disks
returns-clause-disks g c =
    let i = c.self.inside in
    let back = lent_back i.replicas.len i.replicas.items c.carry_keeping.new.replicas i.replicas.ok.0 (c.carry_keeping.auto.replicas ∙ ap (λ (vs : List View). length vs) c.deref_mut.ensures.value) in
    subst (λ (vs : List View). KeepDisks c.args.self.now.replicas vs) (sym back)
    (subst (λ (x : NativeView). KeepDisks x.replicas c.carry_keeping.new.replicas) c.self.view_is (subst (λ (vs : List View). KeepDisks vs c.carry_keeping.new.replicas) c.deref_mut.ensures.value c.carry_keeping.ensures.disks))

pub returns-clause-keeps : goal.returns-clause-keeps
returns-clause-keeps g c =
    let i = c.self.inside in
    let a : Native = native_of i.room i.entries.items i.replicas.items i.marks i.pending.entries i.strays in
    subst (λ (x : NativeView). c.carry_keeping.new.strays ≡ kept_after (copy_in x.parts c.args.ticket c.args.word) x.parts.strays) c.self.view_is (rw c.number.ensures at c.in-Ok.ensures.keeps)

pub returns-in_default-clause-spares : goal.returns-in_default-clause-spares
returns-in_default-clause-spares g c = c.in_default.ensures.strays_stay ∙ ap (λ (x : NativeView). x.parts.strays) c.self.view_is

pub returns-clause-moves : goal.returns-clause-moves
returns-clause-moves g c =
    let i = c.self.inside in
    let ws = c.carry_keeping.new.replicas in
    let back = lent_back i.replicas.len i.replicas.items ws i.replicas.ok.0 (c.carry_keeping.auto.replicas ∙ ap (λ (vs : List View). length vs) c.deref_mut.ensures.value) in
    let carries = rw (c.number.ensures, c.deref_mut.ensures.value) at c.in-Ok.ensures.carries in
    let failed = rw (c.number.ensures, c.deref_mut.ensures.value) at c.in-Ok.ensures.failed in
    subst (λ (vs : List View). (p : Pending) → look_in c.args.self.now.parts.pending c.args.ticket ≡ Some p → CarriesAt c.args.self.now.parts.entries c.args.self.now.parts.marks.cut c.args.ticket c.args.word p c.args.self.now.parts.pending c.carry_keeping.new.pending.entries c.args.self.now.replicas vs (is_failed c.args.word c.args.self.now.loglet.down (down_in vs))) (sym back)
    (subst (λ (x : NativeView). (p : Pending) → look_in x.parts.pending c.args.ticket ≡ Some p → CarriesAt x.parts.entries x.parts.marks.cut c.args.ticket c.args.word p x.parts.pending c.carry_keeping.new.pending.entries x.replicas ws (is_failed c.args.word x.loglet.down (down_in ws))) c.self.view_is
    (λ p is. subst (λ (b : Bool). CarriesAt i.entries.items i.marks.cut c.args.ticket c.args.word p i.pending.entries c.carry_keeping.new.pending.entries i.replicas.items ws b) (failed p is) (carries p is)))
