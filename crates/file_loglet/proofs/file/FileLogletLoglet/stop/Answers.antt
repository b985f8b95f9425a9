use Rattle.std.proofs.Common.{refl, ap, ◌∙◌}
use Rattle.quorum_cell.specs.Cells.{Cell}
use Rattle.file_loglet.proofs.Wholes.{cell_from, step_of, whole_still, asked_shown, stop_shown}
use Rattle.file_loglet.proofs.Serving.{stopped_served}
use Rattle.file_loglet.specs.File.{FileView}
use Rattle.file_loglet.proofs.Carrying.{nothing_steps}
use Rattle.file_loglet.proofs.file.FileLogletLoglet.stop.Goals as goal

pub invariant_of-self : goal.invariant_of-self
invariant_of-self g c =
    let i = c.self.inside in
    whole_still i.room i.entries.items i.entries.items i.server c.stop.new.self i.marks c.stopped-self-inside.result i.pending i.pending c.self.invariant
    (asked_shown i.room i.entries.items c.stop.new.self i.marks c.stopped-self-inside.result i.pending _ c.stopped-self-inside.ensures
    ∙ stop_shown i.room i.entries.items i.server c.stop.new.self i.marks i.pending c.args.after c.stop.ensures.server c.stop.ensures.disk) refl c.stop.ensures.server refl

pub returns-clause-goes : goal.returns-clause-goes
returns-clause-goes g c =
    let i = c.self.inside in
    let same = asked_shown i.room i.entries.items c.stop.new.self i.marks c.stopped-self-inside.result i.pending _ c.stopped-self-inside.ensures
    ∙ stop_shown i.room i.entries.items i.server c.stop.new.self i.marks i.pending c.args.after c.stop.ensures.server c.stop.ensures.disk ∙ ap (λ (w : FileView). w.loglet) c.self.view_is in
    step_of _ _ c.self.invariant.cell _ _ (λ (x : Cell). x.entries) (cell_from i.room i.entries.items i.server i.marks i.pending _ c.self.view_is c.self.invariant) c.requires same
    (nothing_steps _ _ _ _ (λ d. refl) same (ap (λ (w : FileView). w.answers) c.self.view_is) (c.stop.ensures.server ∙ ap (λ (w : FileView). w.server) c.self.view_is))

pub returns-clause-step : goal.returns-clause-step
returns-clause-step g c = (returns-clause-goes g c).loglet

pub returns-clause-serves : goal.returns-clause-serves
returns-clause-serves g c =
    let i = c.self.inside in
    stopped_served i.room i.entries.items i.server c.stop.new.self i.marks c.stopped-self-inside.result i.pending _ c.args.server c.args.after c.self.view_is c.requires c.stop.ensures.server c.stop.ensures.disk c.stop.ensures.armed c.stopped-self-inside.ensures
