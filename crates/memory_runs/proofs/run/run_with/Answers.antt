use Rattle.std.proofs.Common.{◌∙◌, length, map, sym, ap, subst}
use Rattle.std.proofs.lemmas.List.{length-map}
use Rattle.register_api.specs.View.{IsFresh}
use Rattle.script_runner.specs.Ends.{EndsView}
use Rattle.script_runner.specs.Standing.{HasEnded}
use Rattle.memory_runs.proofs.run.run_with.Goals as goal

pub run_plan-end-requires-clause-fresh : goal.run_plan-end-requires-clause-fresh
run_plan-end-requires-clause-fresh g c κs within = λ plan planned. (
  c.requires.sound plan planned,
  record {
    as_many = length-map c.args.shelf.items g.L.Loglet.view ∙ c.requires.loglets plan planned;
    nodes = c.requires.as_many plan planned;
    fresh = c.requires.shelf;
    register_is = c.in_ok-register.ensures;
    parts_are = c.requires.nodes;
  },
)

-- the nodes' faults are those of the disks that were taken
pub returns-clause-ended : goal.returns-clause-ended
returns-clause-ended g c =
    let e = c.run_plan-end.result in
    let before : EndsView = record { left = g.S.Source.left c.args.source.now; missed = g.S.Source.counted c.args.source.now; held = g.K.Sink.held c.args.sink.now; lost = g.K.Sink.counted c.args.sink.now } in
    let after : EndsView = record {
      left = g.S.Source.left c.run_plan-end.new.source;
      missed = g.S.Source.counted c.run_plan-end.new.source;
      held = g.K.Sink.held c.run_plan-end.new.sink;
      lost = g.K.Sink.counted c.run_plan-end.new.sink;
    } in
    subst (λ ds. HasEnded c.args.plan.now before after
    (record { cells = map g.L.Loglet.view e.yard.shelf.items; register = e.yard.register.register; disks = ds }) e.end)
    (sym c.take_disks.ensures.faults) (c.run_plan-end.ensures.ended)

pub returns-clause-disks : goal.returns-clause-disks
returns-clause-disks g c =
    let e = c.run_plan-end.result in
    sym (length-map c.take_disks.new.disks.items (λ d. (g.D.Disk.view d).faults)) ∙ (ap length c.take_disks.ensures.faults ∙ (length-map e.yard.nodes.items (λ k. (g.D.Disk.view k.disk).faults) ∙ c.run_plan-end.ensures.nodes))

-- what is untouched comes back as it was handed in
pub returns-clause-untouched : goal.returns-clause-untouched
returns-clause-untouched g c = λ none stays.
    let same = c.run_plan-end.ensures.untouched none stays in (
      ap (λ y. y.shelf) same,
      c.take_disks.ensures.disks ∙ ap (λ y. map (λ k. g.D.Disk.view k.disk) y.nodes.items) same,
      subst (λ y. IsFresh y.register.register) (sym same) c.in_ok-register.ensures,
    )
