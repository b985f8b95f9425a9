use Rattle.std.proofs.Common.{◌≡◌, inr, sym, subst, Option, Some, rules}
use Rattle.std.specs.Prelude.{IfOk, ◌⊎◌}
use Rattle.script_text.specs.Lines.{lines_of}
use Rattle.script_words.specs.declared.plan.Plan.{Plan}
use Rattle.crew_run.proofs.Running.{if_ok}
use Rattle.script_runner.specs.Composed.{ComposesRun, IsComposed}
use Rattle.script_runner.specs.Fresh.{shown}
use Rattle.script_runner.specs.Lines.{AreLinesFor}
use Rattle.script_runner.specs.Ends.{HasScript}
use Rattle.script_runner.proofs.Outside.{composes-lines, has-script}
use Rattle.script_runner.proofs.compose.compose.Goals as goal

pub lines_for-requires : goal.lines_for-requires
lines_for-requires g c = record { plan = (c.requires.fresh c.in-Some.plan c.in-Some.is).0 }

pub compose_run-requires-clause-fresh : goal.compose_run-requires-clause-fresh
compose_run-requires-clause-fresh g c κs within = (c.requires.fresh c.in-Some.plan c.in-Some.is).1

pub compose_run-requires-clause-plan : goal.compose_run-requires-clause-plan
compose_run-requires-clause-plan g c κs within = (c.requires.fresh c.in-Some.plan c.in-Some.is).0

pub returns-in-Ok-clause-ok : goal.returns-in-Ok-clause-ok
returns-in-Ok-clause-ok g c =
    let plan = c.in-Some.plan in
    let left = g.S.Source.left c.args.source.now in
    let back = c.compose_run.result.yard in
    let yard = shown g.L.Loglet.view g.R.Register.view (λ k. (g.D.Disk.view k.disk).faults) back.shelf.items back.register back.nodes.items in
    let asked : AreLinesFor plan left c.as_slice.result.now = search rules in
    subst (λ (o : Option Plan). IfOk c.compose_run.result.answer (IsComposed o left yard)) (sym c.in-Some.is)
    (if_ok (ComposesRun plan asked.script yard) (IsComposed (Some plan) left yard)
    (λ x ran. composes-lines plan left yard x c.as_slice.result.now (c.requires.fresh plan c.in-Some.is).0 asked ran)
    c.compose_run.result.answer (c.compose_run.ensures.ok asked.script asked.are))

pub returns-in-Ok-clause-begun : goal.returns-in-Ok-clause-begun
returns-in-Ok-clause-begun g c =
    let plan = c.in-Some.plan in
    let left = g.S.Source.left c.args.source.now in
    let asked : AreLinesFor plan left c.as_slice.result.now = search rules in
    inr (subst (λ (o : Option Plan). HasScript o left) (sym c.in-Some.is) (has-script plan left c.as_slice.result.now (c.requires.fresh plan c.in-Some.is).0 asked))
