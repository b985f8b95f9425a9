use Rattle.std.proofs.Common.{refl, ap, map, ◌∙◌}
use Rattle.loglet_api.specs.declared.call.LogletCall.TheVariants.{Take}
use Rattle.loglet_api.specs.declared.call.LogletAnswer.TheVariants.{Taken}
use Rattle.std.specs.Prelude.{Some}
use Rattle.quorum_cell.specs.Cells.{Cell}
use Rattle.file_loglet.specs.Pending.{shown_answer}
use Rattle.file_loglet.specs.File.{FileView}
use Rattle.file_loglet.proofs.Wholes.{cell_from, step_of, whole_by, whole_still, does_shown}
use Rattle.file_loglet.proofs.Calls.{takes_answer, taken_small, size_small, lacks_small, unchanged_shown, undecided_whole, takes_whole, waits_whole}
use Rattle.file_loglet.proofs.Carrying.{take_steps, wait_steps}
use Rattle.file_loglet.proofs.Ties.{seen_new}
use Rattle.file_loglet.proofs.file.FileLogletLoglet.take.Goals as goal

pub invariant_of-self : goal.invariant_of-self
invariant_of-self g c =
    let i = c.self.inside in
    whole_still i.room i.entries.items i.entries.items i.server i.server i.marks i.marks i.pending c.take_decided.new.pending c.self.invariant
    (unchanged_shown i.room i.entries.items i.server i.marks i.pending i.entries.items c.take_decided.new.pending refl c.in_err-task.ensures.none) (ap (map shown_answer) c.in_err-task.ensures.none) refl refl

pub wanted-requires : goal.wanted-requires
wanted-requires g c = size_small c.self.inside.room c.self.inside.entries.items c.self.inside.server c.self.inside.marks c.self.inside.pending _ _ c.in_ok-task.field-0 c.self.invariant c.in_ok-task.ensures.taken

pub told-self-inside-requires-clause-reach : goal.told-self-inside-requires-clause-reach
told-self-inside-requires-clause-reach g c = rw (c.told-answer.ensures, c.wanted.ensures) (taken_small c.self.inside.room c.self.inside.entries.items c.self.inside.server c.self.inside.marks c.self.inside.pending _ _ c.in_ok-task.field-0 c.self.invariant c.in_ok-task.ensures.taken).0

pub told-self-inside-requires-clause-firm : goal.told-self-inside-requires-clause-firm
told-self-inside-requires-clause-firm g c = rw (c.told-answer.ensures, c.wanted.ensures) (taken_small c.self.inside.room c.self.inside.entries.items c.self.inside.server c.self.inside.marks c.self.inside.pending _ _ c.in_ok-task.field-0 c.self.invariant c.in_ok-task.ensures.taken).1

pub told-self-inside-requires-clause-lacks : goal.told-self-inside-requires-clause-lacks
told-self-inside-requires-clause-lacks g c = lacks_small c.self.inside.room c.self.inside.entries.items c.self.inside.server c.self.inside.marks c.self.inside.pending c.self.invariant

pub invariant_of-self-2 : goal.invariant_of-self-2
invariant_of-self-2 g c =
    let i = c.self.inside in
    let out = rw c.number.ensures at c.in_ok-task.ensures.taken in
    let does = does_shown i.room i.entries.items i.server i.marks i.pending _ (Take c.args.ticket) (Taken (Some c.told-answer.result)) _ c.self.view_is
    (takes_answer i.room i.entries.items i.server i.marks c.told-self-inside.result i.pending c.take_decided.new.pending c.args.ticket c.in_ok-task.field-0 c.told-answer.result c.wanted.result c.self.invariant out c.told-answer.ensures c.wanted.ensures c.told-self-inside.ensures) in
    whole_by i.room i.entries.items i.server c.told-self-inside.result c.take_decided.new.pending _ _ _ _
    (take_steps _ _ (seen_new i.room i.entries.items i.server c.told-self-inside.result c.take_decided.new.pending) c.args.ticket c.told-answer.result does
    (takes_whole i.room i.entries.items i.server i.marks c.told-self-inside.result i.pending c.take_decided.new.pending _ c.args.ticket c.in_ok-task.field-0 c.told-answer.result c.self.view_is out c.told-answer.ensures)
    (ap (λ (w : FileView). w.server) c.self.view_is) c.self.invariant.cell (cell_from i.room i.entries.items i.server i.marks i.pending _ c.self.view_is c.self.invariant)) c.self.invariant.keeps

pub returns-in_err-task-clause-takes : goal.returns-in_err-task-clause-takes
returns-in_err-task-clause-takes g c =
    let i = c.self.inside in
    rw c.from_residual.ensures
    (waits_whole i.room i.entries.items i.server i.marks i.pending c.take_decided.new.pending _ c.args.ticket c.self.view_is (rw c.number.ensures at c.in_err-task.ensures.waits) c.in_err-task.ensures.none)

pub returns-clause-takes : goal.returns-clause-takes
returns-clause-takes g c =
    let i = c.self.inside in
    takes_whole i.room i.entries.items i.server i.marks c.told-self-inside.result i.pending c.take_decided.new.pending _ c.args.ticket c.in_ok-task.field-0 c.told-answer.result c.self.view_is
    (rw c.number.ensures at c.in_ok-task.ensures.taken) c.told-answer.ensures

pub returns-in_err-task-clause-goes : goal.returns-in_err-task-clause-goes
returns-in_err-task-clause-goes g c =
    let i = c.self.inside in
    let waits = undecided_whole i.room i.entries.items i.server i.marks i.pending _ c.args.ticket c.self.view_is c.requires (rw c.number.ensures at c.in_err-task.ensures.waits) in
    let same = unchanged_shown i.room i.entries.items i.server i.marks i.pending i.entries.items c.take_decided.new.pending refl c.in_err-task.ensures.none ∙ ap (λ (w : FileView). w.loglet) c.self.view_is in
    rw c.from_residual.ensures
    (step_of _ _ c.self.invariant.cell _ _ (λ (x : Cell). x.entries) (cell_from i.room i.entries.items i.server i.marks i.pending _ c.self.view_is c.self.invariant) c.requires (waits, same)
    (wait_steps _ _ c.args.ticket waits same (rw c.from_residual.ensures at (returns-in_err-task-clause-takes g c)) (ap (λ (w : FileView). w.server) c.self.view_is)))

pub returns-in_err-task-clause-step : goal.returns-in_err-task-clause-step
returns-in_err-task-clause-step g c = (returns-in_err-task-clause-goes g c).loglet

pub returns-clause-goes : goal.returns-clause-goes
returns-clause-goes g c =
    let i = c.self.inside in
    let does = does_shown i.room i.entries.items i.server i.marks i.pending _ (Take c.args.ticket) (Taken (Some c.told-answer.result)) _ c.self.view_is
    (takes_answer i.room i.entries.items i.server i.marks c.told-self-inside.result i.pending c.take_decided.new.pending c.args.ticket c.in_ok-task.field-0 c.told-answer.result c.wanted.result c.self.invariant
    (rw c.number.ensures at c.in_ok-task.ensures.taken) c.told-answer.ensures c.wanted.ensures c.told-self-inside.ensures) in
    step_of _ _ c.self.invariant.cell _ _ (λ (x : Cell). x.entries) (cell_from i.room i.entries.items i.server i.marks i.pending _ c.self.view_is c.self.invariant) c.requires does
    (take_steps _ _ (seen_new i.room i.entries.items i.server c.told-self-inside.result c.take_decided.new.pending) c.args.ticket c.told-answer.result does (returns-clause-takes g c) (ap (λ (w : FileView). w.server) c.self.view_is))

pub returns-clause-step : goal.returns-clause-step
returns-clause-step g c = (returns-clause-goes g c).loglet
