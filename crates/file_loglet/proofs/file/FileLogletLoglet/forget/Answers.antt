use Rattle.std.proofs.Common.{ap}
use Rattle.quorum_cell.specs.Cells.{Cell}
use Rattle.file_loglet.specs.File.{FileView}
use Rattle.file_loglet.proofs.Steps.{forgets}
use Rattle.file_loglet.proofs.Wholes.{cell_from, step_of, whole_by, does_shown}
use Rattle.file_loglet.proofs.Calls.{forgets_answer}
use Rattle.file_loglet.proofs.Carrying.{forget_steps}
use Rattle.file_loglet.proofs.Ties.{seen_new}
use Rattle.loglet_api.specs.declared.call.LogletCall.TheVariants.{Forget}
use Rattle.loglet_api.specs.declared.call.LogletAnswer.TheVariants.{Forgotten}
use Rattle.file_loglet.proofs.file.FileLogletLoglet.forget.Goals as goal

pub returns-clause-puts : goal.returns-clause-puts
returns-clause-puts g c =
    let i = c.self.inside in
    forgets_answer i.room i.entries.items i.server i.marks i.pending c.remove.new.self _ c.args.ticket c.self.view_is (rw c.number.ensures at c.remove.ensures.updates)

pub invariant_of-self : goal.invariant_of-self
invariant_of-self g c =
    let i = c.self.inside in
    let does = forgets i.room i.entries.items i.server i.marks i.pending c.remove.new.self c.args.ticket (rw c.number.ensures at c.remove.ensures.updates) in
    whole_by i.room i.entries.items i.server i.marks c.remove.new.self _ _ _ _
    (forget_steps _ _ (seen_new i.room i.entries.items i.server i.marks c.remove.new.self) c.args.ticket c.requires (does_shown i.room i.entries.items i.server i.marks i.pending _ (Forget c.args.ticket) Forgotten _ c.self.view_is does)
    (forgets_answer i.room i.entries.items i.server i.marks i.pending c.remove.new.self _ c.args.ticket c.self.view_is (rw c.number.ensures at c.remove.ensures.updates)) (ap (λ (w : FileView). w.server) c.self.view_is)
    c.self.invariant.cell (cell_from i.room i.entries.items i.server i.marks i.pending _ c.self.view_is c.self.invariant)) c.self.invariant.keeps

pub returns-clause-goes : goal.returns-clause-goes
returns-clause-goes g c =
    let i = c.self.inside in
    let does = does_shown i.room i.entries.items i.server i.marks i.pending _ (Forget c.args.ticket) Forgotten _ c.self.view_is (forgets i.room i.entries.items i.server i.marks i.pending c.remove.new.self c.args.ticket (rw c.number.ensures at c.remove.ensures.updates)) in
    step_of _ _ c.self.invariant.cell _ _ (λ (x : Cell). x.entries) (cell_from i.room i.entries.items i.server i.marks i.pending _ c.self.view_is c.self.invariant) c.requires does
    (forget_steps _ _ (seen_new i.room i.entries.items i.server i.marks c.remove.new.self) c.args.ticket c.requires does (returns-clause-puts g c) (ap (λ (w : FileView). w.server) c.self.view_is))

pub returns-clause-step : goal.returns-clause-step
returns-clause-step g c = (returns-clause-goes g c).loglet
