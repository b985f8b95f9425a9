use Rattle.std.proofs.Common.{refl, ap, subst, ◌∙◌}
use Rattle.std.specs.Prelude.{Ok}
use Rattle.loglet_api.specs.declared.call.LogletCall.TheVariants.{Restart}
use Rattle.loglet_api.specs.declared.call.LogletAnswer.TheVariants.{Restarted}
use Rattle.quorum_cell.specs.Cells.{Cell}
use Rattle.file_loglet.proofs.Wholes.{cell_from, step_of, whole_by, whole_still, does_shown, brought, same_shown}
use Rattle.file_loglet.proofs.Serving.{only_server, reopened_served, restarted_served, restarted_shown, idle_shown, is_down}
use Rattle.file_loglet.specs.Held.{Brings}
use Rattle.file_loglet.specs.declared.marks.Marks.{Marks}
use Rattle.file_loglet.specs.File.{FileView, held_in}
use Rattle.file_loglet.proofs.Ties.{seen_old, seen_new}
use Rattle.file_loglet.proofs.Carrying.{nothing_steps, restart_steps}
use Rattle.file_loglet.proofs.file.FileLogletLoglet.restart.Goals as goal

pub invariant_of-self : goal.invariant_of-self
invariant_of-self g c =
    let i = c.self.inside in
    let none = c.in_default.ensures in
    whole_still i.room i.entries.items i.entries.items i.server c.bring_up.new.server i.marks i.marks i.pending i.pending c.self.invariant
    (same_shown i.room i.entries.items i.server c.bring_up.new.server i.marks i.pending none.server none.faults) refl none.server refl

pub returns-in_default-clause-goes : goal.returns-in_default-clause-goes
returns-in_default-clause-goes g c =
    let i = c.self.inside in
    let none = c.in_default.ensures in
    let same = same_shown i.room i.entries.items i.server c.bring_up.new.server i.marks i.pending none.server none.faults ∙ ap (λ (w : FileView). w.loglet) c.self.view_is in
    step_of _ _ c.self.invariant.cell _ _ (λ (x : Cell). x.entries) (cell_from i.room i.entries.items i.server i.marks i.pending _ c.self.view_is c.self.invariant) c.requires same
    (nothing_steps _ _ _ _ (λ d. refl) same (ap (λ (w : FileView). w.answers) c.self.view_is) (none.server ∙ ap (λ (w : FileView). w.server) c.self.view_is))

pub returns-in_default-clause-step : goal.returns-in_default-clause-step
returns-in_default-clause-step g c = (returns-in_default-clause-goes g c).loglet

pub returns-in_default-clause-serves : goal.returns-in_default-clause-serves
returns-in_default-clause-serves g c =
    let i = c.self.inside in
    let none = c.in_default.ensures in
    reopened_served i.room i.entries.items i.server c.bring_up.new.server i.marks i.pending _ c.args.server c.args.word c.self.view_is c.requires none

pub invariant_of-self-2 : goal.invariant_of-self-2
invariant_of-self-2 g c =
    let i = c.self.inside in
    let does = does_shown i.room i.entries.items i.server i.marks i.pending _ (Restart c.args.server c.args.word) (Restarted c.in-Ok.up) _ c.self.view_is
    (brought i.room i.entries.items i.server c.bring_up.new.server i.marks c.restarted-self-inside.result i.pending _ c.args.word c.in-Ok.up c.in-Ok.ensures c.restarted-self-inside.ensures) in
    whole_by i.room i.entries.items c.bring_up.new.server c.restarted-self-inside.result i.pending _ _ _ _
    (restart_steps _ _ c.args.server c.args.word c.in-Ok.up (seen_old i.room i.entries.items i.server i.marks i.pending _ c.self.view_is) (seen_new i.room i.entries.items c.bring_up.new.server c.restarted-self-inside.result i.pending)
    (only_server i.room i.entries.items i.server i.marks i.pending _ c.args.server c.self.view_is c.requires) does.moves
    (subst (λ (v : FileView). Brings c.args.word (held_in v) (Ok c.in-Ok.up) c.bring_up.new.server) c.self.view_is c.in-Ok.ensures)
    (ap (λ (x : Marks). x.refusals) c.restarted-self-inside.ensures ∙ ap (λ (w : FileView). w.refusals) c.self.view_is) (ap (λ (w : FileView). w.answers) c.self.view_is)
    c.self.invariant.cell (cell_from i.room i.entries.items i.server i.marks i.pending _ c.self.view_is c.self.invariant)) c.self.invariant.keeps

pub returns-clause-goes : goal.returns-clause-goes
returns-clause-goes g c =
    let i = c.self.inside in
    let does = does_shown i.room i.entries.items i.server i.marks i.pending _ (Restart c.args.server c.args.word) (Restarted c.in-Ok.up) _ c.self.view_is
    (brought i.room i.entries.items i.server c.bring_up.new.server i.marks c.restarted-self-inside.result i.pending _ c.args.word c.in-Ok.up c.in-Ok.ensures c.restarted-self-inside.ensures) in
    step_of _ _ c.self.invariant.cell _ _ (λ (x : Cell). x.entries) (cell_from i.room i.entries.items i.server i.marks i.pending _ c.self.view_is c.self.invariant) c.requires does
    (restart_steps _ _ c.args.server c.args.word c.in-Ok.up (seen_old i.room i.entries.items i.server i.marks i.pending _ c.self.view_is) (seen_new i.room i.entries.items c.bring_up.new.server c.restarted-self-inside.result i.pending)
    (only_server i.room i.entries.items i.server i.marks i.pending _ c.args.server c.self.view_is c.requires) does.moves
    (subst (λ (v : FileView). Brings c.args.word (held_in v) (Ok c.in-Ok.up) c.bring_up.new.server) c.self.view_is c.in-Ok.ensures)
    (ap (λ (x : Marks). x.refusals) c.restarted-self-inside.ensures ∙ ap (λ (w : FileView). w.refusals) c.self.view_is) (ap (λ (w : FileView). w.answers) c.self.view_is))

pub returns-clause-step : goal.returns-clause-step
returns-clause-step g c = (returns-clause-goes g c).loglet

pub returns-clause-serves : goal.returns-clause-serves
returns-clause-serves g c =
    let i = c.self.inside in
    restarted_served i.room i.entries.items i.server c.bring_up.new.server i.marks c.restarted-self-inside.result i.pending _ c.args.server c.args.word c.in-Ok.up c.self.view_is c.requires c.in-Ok.ensures c.restarted-self-inside.ensures

pub returns-in_default-clause-idle : goal.returns-in_default-clause-idle
returns-in_default-clause-idle g c up =
    let i = c.self.inside in
    absurd (let was = is_down i.room i.entries.items i.server i.marks i.pending _ c.self.view_is c.in_default.ensures.was in cc)

pub returns-clause-restarted : goal.returns-clause-restarted
returns-clause-restarted g c =
    let i = c.self.inside in
    restarted_shown i.room i.entries.items i.server c.bring_up.new.server i.marks i.pending _ c.args.word c.in-Ok.up c.self.view_is c.in-Ok.ensures

pub returns-clause-idle : goal.returns-clause-idle
returns-clause-idle g c =
    let i = c.self.inside in
    idle_shown i.room i.entries.items i.server c.bring_up.new.server i.marks c.restarted-self-inside.result i.pending _ c.args.word c.bring_up.result c.self.view_is c.bring_up.ensures c.restarted-self-inside.ensures
