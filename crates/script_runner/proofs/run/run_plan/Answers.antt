use Rattle.std.proofs.Common.{◌≡◌, ◌∙◌, ap, map, sym, subst, rules, ℕ, List, Option, Err}
use Rattle.std.specs.Prelude.{IfOk}
use Rattle.outside_ends.specs.Sinks.{Gains}
use Rattle.outside_ends.specs.Whole.{GainsFront}
use Rattle.outside_ends.specs.Faults.{Rose}
use Rattle.script_runner.specs.declared.compose.Failure.TheVariants as failure
use Rattle.script_runner.specs.Composed.{IsComposed}
use Rattle.script_runner.specs.Ends.{EndsView}
use Rattle.script_runner.specs.Fresh.{shown}
use Rattle.script_runner.specs.Standing.{HasEnded}
use Rattle.script_runner.proofs.Standing.{ended_whole, ended_in_front, ended_without_memory, ended_unread, puts_silent}
use Rattle.script_runner.proofs.run.run_plan.Goals as goal

-- source and sink as they are seen
abbrev ends : {S K : Type 0} → (S → Option (List ℕ)) → (S → ℕ) → (K → Option (List ℕ)) → (K → ℕ) → S → K → EndsView
ends left missed held lost source sink = record { left = left source; missed = missed source; held = held sink; lost = lost sink }

pub returns-in-Ok-put_whole-clause-ended : goal.returns-in-Ok-put_whole-clause-ended
returns-in-Ok-put_whole-clause-ended g c =
    let back = c.compose-yard.result.yard in
    let yard = shown g.L.Loglet.view g.R.Register.view (λ k. (g.D.Disk.view k.disk).faults) back.shelf.items back.register back.nodes.items in
    let before = ends g.S.Source.left g.S.Source.counted g.K.Sink.held g.K.Sink.counted c.args.source.now c.args.sink.now in
    let after = ends g.S.Source.left g.S.Source.counted g.K.Sink.held g.K.Sink.counted c.compose-yard.new.source c.put_whole.new.sink in
    let text : c.as_slice.result.now ≡ c.in-Ok.composed.text = search rules in
    ended_whole c.args.plan.now before after yard c.in-Ok.composed
    (subst (λ r. IfOk r (IsComposed c.args.plan.now before.left yard)) c.in-Ok.is c.compose-yard.ensures.ok)
    (subst (λ t. Gains before.held after.held t) text c.in-Ok-put_whole.ensures.whole)

-- a text was put, so the status is no fault's
pub returns-in-Ok-put_whole-clause-silent : goal.returns-in-Ok-put_whole-clause-silent
returns-in-Ok-put_whole-clause-silent g c = λ e.
    let back = c.compose-yard.result.yard in
    let yard = shown g.L.Loglet.view g.R.Register.view (λ k. (g.D.Disk.view k.disk).faults) back.shelf.items back.register back.nodes.items in
    absurd (puts_silent c.args.plan.now (g.S.Source.left c.args.source.now) yard c.in-Ok.composed (subst (λ r. IfOk r (IsComposed c.args.plan.now (g.S.Source.left c.args.source.now) yard)) c.in-Ok.is c.compose-yard.ensures.ok) e)

pub returns-in-Err-clause-ended : goal.returns-in-Err-clause-ended
returns-in-Err-clause-ended g c =
    let back = c.compose-yard.result.yard in
    let yard = shown g.L.Loglet.view g.R.Register.view (λ k. (g.D.Disk.view k.disk).faults) back.shelf.items back.register back.nodes.items in
    let before = ends g.S.Source.left g.S.Source.counted g.K.Sink.held g.K.Sink.counted c.args.source.now c.args.sink.now in
    let after = ends g.S.Source.left g.S.Source.counted g.K.Sink.held g.K.Sink.counted c.compose-yard.new.source c.put_whole.new.sink in
    let text : c.as_slice.result.now ≡ c.in-Ok.composed.text = search rules in
    let rose : Rose before.lost after.lost = search rules in
    subst (λ r. HasEnded c.args.plan.now before after (shown g.L.Loglet.view g.R.Register.view (λ k. (g.D.Disk.view k.disk).faults) r.yard.shelf.items r.yard.register r.yard.nodes.items) r.end)
    (sym c.after_a_sink_fault.ensures)
    (ended_in_front c.args.plan.now before after yard c.in-Ok.composed
    (subst (λ r. IfOk r (IsComposed c.args.plan.now before.left yard)) c.in-Ok.is c.compose-yard.ensures.ok)
    (subst (λ t. GainsFront before.held after.held t) text c.in-Err.ensures.front) rose)

pub returns-in-Err-Memory-clause-ended : goal.returns-in-Err-Memory-clause-ended
returns-in-Err-Memory-clause-ended g c =
    let back = c.compose-yard.result.yard in
    let yard = shown g.L.Loglet.view g.R.Register.view (λ k. (g.D.Disk.view k.disk).faults) back.shelf.items back.register back.nodes.items in
    let before = ends g.S.Source.left g.S.Source.counted g.K.Sink.held g.K.Sink.counted c.args.source.now c.args.sink.now in
    let after = ends g.S.Source.left g.S.Source.counted g.K.Sink.held g.K.Sink.counted c.compose-yard.new.source c.args.sink.now in
    subst (λ r. HasEnded c.args.plan.now before after (shown g.L.Loglet.view g.R.Register.view (λ k. (g.D.Disk.view k.disk).faults) r.yard.shelf.items r.yard.register r.yard.nodes.items) r.end)
    (sym c.without_a_text.ensures)
    (ended_without_memory c.args.plan.now before after yard)

pub returns-in-Err-Source-clause-ended : goal.returns-in-Err-Source-clause-ended
returns-in-Err-Source-clause-ended g c =
    let back = c.compose-yard.result.yard in
    let yard = shown g.L.Loglet.view g.R.Register.view (λ k. (g.D.Disk.view k.disk).faults) back.shelf.items back.register back.nodes.items in
    let before = ends g.S.Source.left g.S.Source.counted g.K.Sink.held g.K.Sink.counted c.args.source.now c.args.sink.now in
    let after = ends g.S.Source.left g.S.Source.counted g.K.Sink.held g.K.Sink.counted c.compose-yard.new.source c.args.sink.now in
    let failed : c.compose-yard.result.answer ≡ Err failure.Source = search rules in
    subst (λ r. HasEnded c.args.plan.now before after (shown g.L.Loglet.view g.R.Register.view (λ k. (g.D.Disk.view k.disk).faults) r.yard.shelf.items r.yard.register r.yard.nodes.items) r.end)
    (sym c.without_a_text-in-Err-Source.ensures)
    (ended_unread c.args.plan.now before after yard (c.compose-yard.ensures.source failed))

pub returns-in-Err-clause-engines : goal.returns-in-Err-clause-engines
returns-in-Err-clause-engines g c = ap (λ r. map (λ k. g.E.Layers.kinds k.engines) r.yard.nodes.items) c.after_a_sink_fault.ensures ∙ c.compose-yard.ensures.engines
