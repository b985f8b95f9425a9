use Rattle.std.proofs.Common.{refl, inl, inr, ap, map, sym, ◌∙◌, ◌++◌, arith}
use Rattle.delos_types.specs.declared.entry.Entry.{Entry}
use Rattle.std.specs.Prelude.{List}
use Rattle.loglet_api.specs.Step.{entries_of}
use Rattle.loglet_api.specs.declared.call.LogletCall.TheVariants.{Begin}
use Rattle.loglet_api.specs.declared.call.LogletAnswer.TheVariants.{Begun, Refusal}
use Rattle.loglet_api.specs.declared.call.Refused.TheVariants.{Full}
use Rattle.quorum_cell.specs.Cells.{Cell}
use Rattle.file_loglet.specs.declared.marks.Marks.{Marks}
use Rattle.file_loglet.specs.Pending.{shown_answer}
use Rattle.file_loglet.specs.File.{FileView}
use Rattle.file_loglet.proofs.Wholes.{cell_from, step_of, whole_by, whole_still, does_shown}
use Rattle.file_loglet.proofs.Serving.{still_served}
use Rattle.file_loglet.proofs.Calls.{begun_small, full_whole, begins_whole, unchanged_shown, counts_begun}
use Rattle.file_loglet.proofs.Carrying.{nothing_steps, begin_steps, full_steps, same_answers}
use Rattle.file_loglet.proofs.Ties.{seen_new}
use Rattle.file_loglet.proofs.file.FileLogletLoglet.begin.Goals as goal

pub invariant_of-self : goal.invariant_of-self
invariant_of-self g c =
    let i = c.self.inside in
    let does = does_shown i.room i.entries.items i.server i.marks i.pending _ (Begin c.args.op) (Refusal Full) _ c.self.view_is
    (full_whole i.room i.entries.items i.server i.marks c.refused-self-inside.result i.pending c.args.op c.self.invariant
    (elim (c.if-is_full.ensures.0 refl) [ inl x ↦ inl (x.0, omega arith) | inr y ↦ inr y ]) c.refused-self-inside.ensures) in
    whole_by i.room i.entries.items i.server c.refused-self-inside.result i.pending _ _ _ _
    (full_steps _ _ (seen_new i.room i.entries.items i.server c.refused-self-inside.result i.pending) c.args.op c.requires does (ap (λ (w : FileView). w.answers) c.self.view_is) (ap (λ (w : FileView). w.server) c.self.view_is)
    c.self.invariant.cell (cell_from i.room i.entries.items i.server i.marks i.pending _ c.self.view_is c.self.invariant)) c.self.invariant.keeps

pub returns-then-is_full-clause-goes : goal.returns-then-is_full-clause-goes
returns-then-is_full-clause-goes g c =
    let i = c.self.inside in
    let does = does_shown i.room i.entries.items i.server i.marks i.pending _ (Begin c.args.op) (Refusal Full) _ c.self.view_is
    (full_whole i.room i.entries.items i.server i.marks c.refused-self-inside.result i.pending c.args.op c.self.invariant
    (elim (c.if-is_full.ensures.0 refl) [ inl x ↦ inl (x.0, omega arith) | inr y ↦ inr y ]) c.refused-self-inside.ensures) in
    step_of _ _ c.self.invariant.cell _ _ (λ (x : Cell). x.entries) (cell_from i.room i.entries.items i.server i.marks i.pending _ c.self.view_is c.self.invariant) c.requires does
    (full_steps _ _ (seen_new i.room i.entries.items i.server c.refused-self-inside.result i.pending) c.args.op c.requires does (ap (λ (w : FileView). w.answers) c.self.view_is) (ap (λ (w : FileView). w.server) c.self.view_is))

pub returns-then-is_full-clause-step : goal.returns-then-is_full-clause-step
returns-then-is_full-clause-step g c = (returns-then-is_full-clause-goes g c).loglet

pub begun-marks-requires-clause-begun : goal.begun-marks-requires-clause-begun
begun-marks-requires-clause-begun g c = (begun_small c.self.inside.room c.self.inside.entries.items c.self.inside.server c.self.inside.marks c.self.inside.pending c.self.invariant).0

pub begun-marks-requires-clause-seals : goal.begun-marks-requires-clause-seals
begun-marks-requires-clause-seals g c = (begun_small c.self.inside.room c.self.inside.entries.items c.self.inside.server c.self.inside.marks c.self.inside.pending c.self.invariant).1

pub invariant_of-self-in_default : goal.invariant_of-self-in_default
invariant_of-self-in_default g c =
    let i = c.self.inside in
    whole_still i.room i.entries.items c.add.new.entries.items i.server i.server i.marks i.marks i.pending c.add.new.pending c.self.invariant
    (unchanged_shown i.room i.entries.items i.server i.marks i.pending c.add.new.entries.items c.add.new.pending c.in_default.ensures.err.0 c.in_default.ensures.err.1) (ap (map shown_answer) c.in_default.ensures.err.1) refl c.in_default.ensures.err.0

pub returns-in_default-clause-goes : goal.returns-in_default-clause-goes
returns-in_default-clause-goes g c =
    let i = c.self.inside in
    let same = unchanged_shown i.room i.entries.items i.server i.marks i.pending c.add.new.entries.items c.add.new.pending c.in_default.ensures.err.0 c.in_default.ensures.err.1 ∙ ap (λ (w : FileView). w.loglet) c.self.view_is in
    step_of _ _ c.self.invariant.cell _ _ (λ (x : Cell). x.entries) (cell_from i.room i.entries.items i.server i.marks i.pending _ c.self.view_is c.self.invariant) c.requires same
    (nothing_steps _ _ _ _ (λ d. refl) same (same_answers i.room i.entries.items i.server i.marks i.pending c.add.new.pending _ c.self.view_is c.in_default.ensures.err.1) (ap (λ (w : FileView). w.server) c.self.view_is))

pub returns-in_default-clause-step : goal.returns-in_default-clause-step
returns-in_default-clause-step g c = (returns-in_default-clause-goes g c).loglet

pub invariant_of-self-2 : goal.invariant_of-self-2
invariant_of-self-2 g c =
    let i = c.self.inside in
    let does = does_shown i.room i.entries.items i.server i.marks i.pending _ (Begin c.args.op) (Begun i.marks.begun) _ c.self.view_is
    (begins_whole i.room i.entries.items i.server i.marks c.begun-marks.result i.pending c.args.op c.add.new.entries.items c.add.new.pending c.task.result c.len-size.result c.is_sealed.result c.faults.result c.down.result c.self.invariant
    (λ p. (let t = c.if-is_full.ensures.1 p in cc)) (omega arith) c.task.ensures c.is_sealed.ensures (c.faults.ensures ∙ sym (ap (λ (w : FileView). w.loglet.faults) c.self.view_is)) (c.down.ensures.value ∙ sym (ap (λ (w : FileView). w.loglet.down) c.self.view_is)) c.begun-marks.ensures c.in-Ok.ensures.entries c.in-Ok.ensures.pending) in
    whole_by i.room c.add.new.entries.items i.server c.begun-marks.result c.add.new.pending _ _ _ _
    (begin_steps _ _ (seen_new i.room c.add.new.entries.items i.server c.begun-marks.result c.add.new.pending) c.args.op i.marks.begun c.requires does (ap (λ (w : FileView). w.server) c.self.view_is)
    (counts_begun i.room i.entries.items i.server i.marks c.begun-marks.result i.pending c.add.new.entries.items c.add.new.pending _ _ _ _ _ c.self.view_is c.self.invariant c.begun-marks.ensures c.in-Ok.ensures.pending refl).1
    c.self.invariant.cell (cell_from i.room i.entries.items i.server i.marks i.pending _ c.self.view_is c.self.invariant)) (ap (λ (xs : List Entry). xs ++ entries_of c.args.op) c.self.invariant.keeps ∙ sym c.in-Ok.ensures.entries)

pub returns-then-is_full-clause-serves : goal.returns-then-is_full-clause-serves
returns-then-is_full-clause-serves g c =
    let i = c.self.inside in
    still_served i.room i.entries.items i.server i.marks i.pending i.entries.items c.refused-self-inside.result i.pending _ c.self.view_is (ap (λ (x : Marks). x.asked) c.refused-self-inside.ensures)

pub returns-in_default-clause-serves : goal.returns-in_default-clause-serves
returns-in_default-clause-serves g c =
    let i = c.self.inside in
    still_served i.room i.entries.items i.server i.marks i.pending c.add.new.entries.items i.marks c.add.new.pending _ c.self.view_is refl

pub returns-clause-serves : goal.returns-clause-serves
returns-clause-serves g c =
    let i = c.self.inside in
    still_served i.room i.entries.items i.server i.marks i.pending c.add.new.entries.items c.begun-marks.result c.add.new.pending _ c.self.view_is (ap (λ (x : Marks). x.asked) c.begun-marks.ensures)

pub returns-clause-counts : goal.returns-clause-counts
returns-clause-counts g c =
    let i = c.self.inside in
    counts_begun i.room i.entries.items i.server i.marks c.begun-marks.result i.pending c.add.new.entries.items c.add.new.pending _ _ _ _ _ c.self.view_is c.self.invariant c.begun-marks.ensures c.in-Ok.ensures.pending refl

pub returns-clause-goes : goal.returns-clause-goes
returns-clause-goes g c =
    let i = c.self.inside in
    let does = does_shown i.room i.entries.items i.server i.marks i.pending _ (Begin c.args.op) (Begun i.marks.begun) _ c.self.view_is
    (begins_whole i.room i.entries.items i.server i.marks c.begun-marks.result i.pending c.args.op c.add.new.entries.items c.add.new.pending c.task.result c.len-size.result c.is_sealed.result c.faults.result c.down.result c.self.invariant
    (λ p. (let t = c.if-is_full.ensures.1 p in cc)) (omega arith) c.task.ensures c.is_sealed.ensures (c.faults.ensures ∙ sym (ap (λ (w : FileView). w.loglet.faults) c.self.view_is)) (c.down.ensures.value ∙ sym (ap (λ (w : FileView). w.loglet.down) c.self.view_is)) c.begun-marks.ensures c.in-Ok.ensures.entries c.in-Ok.ensures.pending) in
    rw c.new.ensures
    (step_of _ _ c.self.invariant.cell _ _ (λ (x : Cell). x.entries ++ entries_of c.args.op) (cell_from i.room i.entries.items i.server i.marks i.pending _ c.self.view_is c.self.invariant) c.requires does
    (begin_steps _ _ (seen_new i.room c.add.new.entries.items i.server c.begun-marks.result c.add.new.pending) c.args.op i.marks.begun c.requires does (ap (λ (w : FileView). w.server) c.self.view_is) (returns-clause-counts g c).1))

pub returns-clause-step : goal.returns-clause-step
returns-clause-step g c = (returns-clause-goes g c).loglet
