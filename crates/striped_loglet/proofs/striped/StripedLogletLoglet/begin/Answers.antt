use Rattle.std.proofs.Common.{List, length, map, None, refl, sym, ap, ◌∙◌, subst}
use Rattle.loglet_api.specs.Servers.{ServersView}
use Rattle.striped_loglet.specs.Servings.{states_of}
use Rattle.striped_loglet.specs.Plans.{first_plan}
use Rattle.striped_loglet.specs.State.{state_of, loglet_of}
use Rattle.striped_loglet.specs.Going.{IsStriped}
use Rattle.striped_loglet.specs.Striped.{StripedView}
use Rattle.striped_loglet.proofs.Bridge.{step_whole, step_alike, shows}
use Rattle.striped_loglet.proofs.Begins.{begun_whole, unbegun, noted, refused_whole, marks_small, reordered_state}
use Rattle.striped_loglet.proofs.Serving.{same_served}
use Rattle.striped_loglet.specs.declared.marks.Marks.{Marks}
use Rattle.striped_loglet.proofs.Works.{begun_works, full_works, unbegun_works}
use Rattle.striped_loglet.proofs.Handing.{same_from}
use Rattle.striped_loglet.proofs.striped.StripedLogletLoglet.begin.Goals as goal

pub invariant_of-self : goal.invariant_of-self
invariant_of-self g c =
    let i = c.self.inside in
    ((refused_whole g.L.Loglet.view i.shape i.stripes.items i.marks c.refused-self-inside.result i.pending c.args.op c.self.invariant.0 (c.if-is_full.ensures.0 refl) c.refused-self-inside.ensures).0, c.self.invariant.1)

pub returns-then-is_full-clause-step : goal.returns-then-is_full-clause-step
returns-then-is_full-clause-step g c =
    let i = c.self.inside in
    let all = refused_whole g.L.Loglet.view i.shape i.stripes.items i.marks c.refused-self-inside.result i.pending c.args.op c.self.invariant.0 (c.if-is_full.ensures.0 refl) c.refused-self-inside.ensures in
    step_whole g.L.Loglet.view g.L.Loglet.serving i.shape i.stripes.items i.stripes.items i.marks c.refused-self-inside.result i.pending i.pending _ _ _ c.self.view_is c.self.invariant.0 (invariant_of-self g c).0 c.requires (all.1, all.2)

pub begun-marks-requires-clause-size : goal.begun-marks-requires-clause-size
begun-marks-requires-clause-size g c = let i = c.self.inside in (marks_small g.L.Loglet.view i.shape i.stripes.items i.marks i.pending c.self.invariant.0).0

pub begun-marks-requires-clause-begun : goal.begun-marks-requires-clause-begun
begun-marks-requires-clause-begun g c = let i = c.self.inside in (marks_small g.L.Loglet.view i.shape i.stripes.items i.marks i.pending c.self.invariant.0).1

pub begun-marks-requires-clause-seals : goal.begun-marks-requires-clause-seals
begun-marks-requires-clause-seals g c = let i = c.self.inside in (marks_small g.L.Loglet.view i.shape i.stripes.items i.marks i.pending c.self.invariant.0).2

pub invariant_of-self-in_default : goal.invariant_of-self-in_default
invariant_of-self-in_default g c =
    let i = c.self.inside in
    (subst IsStriped (sym (reordered_state g.L.Loglet.view i.shape i.stripes.items i.marks i.pending c.reserve.new.self c.reserve.ensures.entries.2)) c.self.invariant.0, c.self.invariant.1)

pub returns-in_default-clause-step : goal.returns-in_default-clause-step
returns-in_default-clause-step g c =
    let i = c.self.inside in
    let view = g.L.Loglet.view in
    step_alike view (state_of view i.shape i.stripes.items i.marks i.pending) (state_of view i.shape i.stripes.items i.marks c.reserve.new.self) _ _ _ (shows view g.L.Loglet.serving i.shape i.stripes.items i.marks i.pending _ c.self.view_is)
    (ap loglet_of (reordered_state view i.shape i.stripes.items i.marks i.pending c.reserve.new.self c.reserve.ensures.entries.2)) c.self.invariant.0 c.requires refl

pub invariant_of-self-in_default-start : goal.invariant_of-self-in_default-start
invariant_of-self-in_default-start g c =
    let i = c.self.inside in
    (subst IsStriped (sym (unbegun g.L.Loglet.view i.shape i.stripes.items c.start.new.stripes.items i.marks i.pending c.reserve.new.self c.args.op _ c.self.invariant.0 (λ full. (let t = c.if-is_full.ensures.1 full in cc)) c.reserve.ensures.entries.2 c.in_default-start.ensures.step)) c.self.invariant.0, ap (λ (vs : List ServersView). length (states_of vs)) c.in_default-start.ensures.serves ∙ c.self.invariant.1)

pub returns-in_default-start-clause-step : goal.returns-in_default-start-clause-step
returns-in_default-start-clause-step g c =
    let i = c.self.inside in
    let view = g.L.Loglet.view in
    step_alike view (state_of view i.shape i.stripes.items i.marks i.pending) (state_of view i.shape c.start.new.stripes.items i.marks c.reserve.new.self) _ _ _ (shows view g.L.Loglet.serving i.shape i.stripes.items i.marks i.pending _ c.self.view_is)
    (ap loglet_of (unbegun view i.shape i.stripes.items c.start.new.stripes.items i.marks i.pending c.reserve.new.self c.args.op _ c.self.invariant.0 (λ full. (let t = c.if-is_full.ensures.1 full in cc)) c.reserve.ensures.entries.2 c.in_default-start.ensures.step)) c.self.invariant.0 c.requires refl

pub invariant_of-self-2 : goal.invariant_of-self-2
invariant_of-self-2 g c =
    let i = c.self.inside in
    let view = g.L.Loglet.view in (
      (begun_whole view i.shape i.stripes.items c.start.new.stripes.items i.marks c.begun-marks.result i.pending c.reserve.new.self c.put.new.pending c.args.op c.in-Ok-start.inner _ c.self.invariant.0 (λ full. (let t = c.if-is_full.ensures.1 full in cc)) c.reserve.ensures.entries.2 c.in-Ok-start.ensures.step c.begun-marks.ensures c.put.ensures
          (noted view (state_of view i.shape i.stripes.items i.marks i.pending) c.args.op (record { asked = record { task = c.task.result; size = i.marks.size; reach = i.marks.reach; firm = i.marks.firm; faults = c.faults.result; down = c.down.result }; before = c.of-before.result; plan = c.new-plan.result; inner = c.in-Ok-start.inner; answer = None }) c.in-Ok-start.inner c.task.ensures refl refl refl (c.faults.ensures ∙ sym (ap (λ (w : StripedView). w.loglet.faults) c.self.view_is)) (c.down.ensures.value ∙ sym (ap (λ (w : StripedView). w.loglet.down) c.self.view_is))
          (ap (λ v. map view v.items) c.of-before.ensures) (c.new-plan.ensures ∙ ap first_plan c.task.ensures) refl refl)).0,
      ap (λ (vs : List ServersView). length (states_of vs)) c.in-Ok-start.ensures.serves ∙ c.self.invariant.1,
    )

pub returns-clause-step : goal.returns-clause-step
returns-clause-step g c =
    let i = c.self.inside in
    let view = g.L.Loglet.view in
    step_whole view g.L.Loglet.serving i.shape i.stripes.items c.start.new.stripes.items i.marks c.begun-marks.result i.pending c.put.new.pending _ _ _ c.self.view_is c.self.invariant.0 (invariant_of-self-2 g c).0 c.requires
    (rw c.new.ensures
    (begun_whole view i.shape i.stripes.items c.start.new.stripes.items i.marks c.begun-marks.result i.pending c.reserve.new.self c.put.new.pending c.args.op c.in-Ok-start.inner _ c.self.invariant.0 (λ full. (let t = c.if-is_full.ensures.1 full in cc)) c.reserve.ensures.entries.2 c.in-Ok-start.ensures.step c.begun-marks.ensures c.put.ensures
    (noted view (state_of view i.shape i.stripes.items i.marks i.pending) c.args.op (record { asked = record { task = c.task.result; size = i.marks.size; reach = i.marks.reach; firm = i.marks.firm; faults = c.faults.result; down = c.down.result }; before = c.of-before.result; plan = c.new-plan.result; inner = c.in-Ok-start.inner; answer = None }) c.in-Ok-start.inner c.task.ensures refl refl refl (c.faults.ensures ∙ sym (ap (λ (w : StripedView). w.loglet.faults) c.self.view_is)) (c.down.ensures.value ∙ sym (ap (λ (w : StripedView). w.loglet.down) c.self.view_is))
    (ap (λ v. map view v.items) c.of-before.ensures) (c.new-plan.ensures ∙ ap first_plan c.task.ensures) refl refl)).1)

pub returns-then-is_full-clause-serves : goal.returns-then-is_full-clause-serves
returns-then-is_full-clause-serves g c =
    let i = c.self.inside in
    same_from g.L.Loglet.view g.L.Loglet.serving i.shape i.stripes.items i.marks i.pending i.given _ _ c.self.view_is refl

pub returns-in_default-clause-serves : goal.returns-in_default-clause-serves
returns-in_default-clause-serves g c =
    let i = c.self.inside in
    same_from g.L.Loglet.view g.L.Loglet.serving i.shape i.stripes.items i.marks i.pending i.given _ _ c.self.view_is refl

pub returns-in_default-start-clause-serves : goal.returns-in_default-start-clause-serves
returns-in_default-start-clause-serves g c =
    let i = c.self.inside in
    same_from g.L.Loglet.view g.L.Loglet.serving i.shape i.stripes.items i.marks i.pending i.given _ _ c.self.view_is (same_served (map g.L.Loglet.serving i.stripes.items) (map g.L.Loglet.serving c.start.new.stripes.items) i.given c.in_default-start.ensures.serves)

pub returns-clause-serves : goal.returns-clause-serves
returns-clause-serves g c =
    let i = c.self.inside in
    same_from g.L.Loglet.view g.L.Loglet.serving i.shape i.stripes.items i.marks i.pending i.given _ _ c.self.view_is (same_served (map g.L.Loglet.serving i.stripes.items) (map g.L.Loglet.serving c.start.new.stripes.items) i.given c.in-Ok-start.ensures.serves)

pub returns-then-is_full-clause-stripe : goal.returns-then-is_full-clause-stripe
returns-then-is_full-clause-stripe g c =
    let i = c.self.inside in
    full_works g.L.Loglet.view g.L.Loglet.serving i.shape i.stripes.items i.marks c.refused-self-inside.result i.pending i.given _ c.args.op c.self.view_is c.refused-self-inside.ensures

pub returns-in_default-clause-stripe : goal.returns-in_default-clause-stripe
returns-in_default-clause-stripe g c =
    let i = c.self.inside in
    unbegun_works g.L.Loglet.view g.L.Loglet.serving i.shape i.stripes.items i.stripes.items i.marks i.pending c.reserve.new.self i.given _ c.self.view_is (reordered_state g.L.Loglet.view i.shape i.stripes.items i.marks i.pending c.reserve.new.self c.reserve.ensures.entries.2) refl

pub returns-in_default-start-clause-stripe : goal.returns-in_default-start-clause-stripe
returns-in_default-start-clause-stripe g c =
    let i = c.self.inside in
    unbegun_works g.L.Loglet.view g.L.Loglet.serving i.shape i.stripes.items c.start.new.stripes.items i.marks i.pending c.reserve.new.self i.given _ c.self.view_is
    (unbegun g.L.Loglet.view i.shape i.stripes.items c.start.new.stripes.items i.marks i.pending c.reserve.new.self c.args.op _ c.self.invariant.0 (λ full. (let t = c.if-is_full.ensures.1 full in cc)) c.reserve.ensures.entries.2 c.in_default-start.ensures.step)
    c.in_default-start.ensures.serves

pub returns-clause-stripe : goal.returns-clause-stripe
returns-clause-stripe g c =
    let i = c.self.inside in
    let view = g.L.Loglet.view in
    rw c.new.ensures
    (begun_works view g.L.Loglet.serving i.shape i.stripes.items c.start.new.stripes.items i.marks c.begun-marks.result i.pending c.reserve.new.self c.put.new.pending i.given _ c.args.op c.in-Ok-start.inner _ c.self.view_is c.self.invariant.0 (invariant_of-self-2 g c).0
    c.in-Ok-start.ensures.step c.reserve.ensures.entries.2 c.put.ensures
    (noted view (state_of view i.shape i.stripes.items i.marks i.pending) c.args.op (record { asked = record { task = c.task.result; size = i.marks.size; reach = i.marks.reach; firm = i.marks.firm; faults = c.faults.result; down = c.down.result }; before = c.of-before.result; plan = c.new-plan.result; inner = c.in-Ok-start.inner; answer = None }) c.in-Ok-start.inner c.task.ensures refl refl refl (c.faults.ensures ∙ sym (ap (λ (w : StripedView). w.loglet.faults) c.self.view_is)) (c.down.ensures.value ∙ sym (ap (λ (w : StripedView). w.loglet.down) c.self.view_is))
    (ap (λ v. map view v.items) c.of-before.ensures) (c.new-plan.ensures ∙ ap first_plan c.task.ensures) refl refl)
    c.in-Ok-start.ensures.serves (ap (λ (z : Marks). z.refusals) c.begun-marks.ensures))
