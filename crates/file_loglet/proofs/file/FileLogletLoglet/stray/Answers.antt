use Rattle.std.proofs.Common.{refl, ap, sym, subst, ◌∙◌}
use Rattle.loglet_api.specs.View.{LogletView}
use Rattle.loglet_api.specs.Step.{Moves}
use Rattle.quorum_cell.specs.Cells.{Cell}
use Rattle.file_loglet.specs.File.{FileView}
use Rattle.file_loglet.proofs.Steps.{moves_same}
use Rattle.file_loglet.proofs.Wholes.{sound, cell_from, step_of, whole_still, asked_shown}
use Rattle.file_loglet.proofs.Serving.{strayed_served}
use Rattle.file_loglet.proofs.Carrying.{nothing_steps}
use Rattle.file_loglet.proofs.file.FileLogletLoglet.stray.Goals as goal

pub invariant_of-self : goal.invariant_of-self
invariant_of-self g c =
    let i = c.self.inside in
    whole_still i.room i.entries.items i.entries.items i.server i.server i.marks c.strayed-marks.result i.pending i.pending c.self.invariant
    (asked_shown i.room i.entries.items i.server i.marks c.strayed-marks.result i.pending _ c.strayed-marks.ensures) refl refl refl

pub returns-clause-goes : goal.returns-clause-goes
returns-clause-goes g c =
    let i = c.self.inside in
    let same = asked_shown i.room i.entries.items i.server i.marks c.strayed-marks.result i.pending _ c.strayed-marks.ensures ∙ ap (λ (w : FileView). w.loglet) c.self.view_is in
    step_of _ _ c.self.invariant.cell _ _ (λ (x : Cell). x.entries) (cell_from i.room i.entries.items i.server i.marks i.pending _ c.self.view_is c.self.invariant) tt
    (subst (λ (v : LogletView). Moves c.args.self.now.loglet v) (sym same) (moves_same c.args.self.now.loglet (sound _ _ _ _ _ _ c.self.view_is c.self.invariant).faults))
    (nothing_steps _ _ _ _ (λ d. refl) same (ap (λ (w : FileView). w.answers) c.self.view_is) (ap (λ (w : FileView). w.server) c.self.view_is))

pub returns-clause-step : goal.returns-clause-step
returns-clause-step g c = (returns-clause-goes g c).loglet

pub returns-clause-serves : goal.returns-clause-serves
returns-clause-serves g c =
    let i = c.self.inside in
    strayed_served i.room i.entries.items i.server i.marks c.strayed-marks.result i.pending _ c.args.word c.self.view_is c.strayed-marks.ensures
