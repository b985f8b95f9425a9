use Rattle.std.proofs.Common.{ℕ, ap, sym, subst, arith, ◌∙◌}
use Rattle.std.specs.Prelude.{Ok, Err}
use Rattle.loglet_api.specs.declared.call.LogletCall.TheVariants.{Carry}
use Rattle.loglet_api.specs.declared.call.LogletAnswer.TheVariants.{Carried}
use Rattle.loglet_api.specs.declared.call.Refused.{Refused}
use Rattle.loglet_api.specs.declared.call.Refused.TheVariants.{Memory}
use Rattle.loglet_api.specs.Step.{Carries}
use Rattle.quorum_cell.specs.Cells.{Cell}
use Rattle.file_loglet.specs.File.{FileView, IsDecidedAtOnce, loglet_of}
use Rattle.file_loglet.proofs.Wholes.{lies, may_carry, open_whole, cell_from, step_of, whole_by, does_shown, asked_shown}
use Rattle.file_loglet.proofs.Serving.{stuck_served, carried_served, wore_shown, stuck_shown}
use Rattle.file_loglet.proofs.Calls.{obeyed_sealed, carries_whole, at_once_whole, answered_whole, unanswered_whole, obeyed_whole, unmoved_shown, undecided_is_open}
use Rattle.file_loglet.proofs.Ties.{seen_old, seen_new}
use Rattle.file_loglet.proofs.Carrying.{stuck_steps, carry_steps}
use Rattle.file_loglet.proofs.file.FileLogletLoglet.carry.Goals as goal

pub index-requires : goal.index-requires
index-requires g c = rw c.number-number.ensures (open_whole c.self.inside.room c.self.inside.entries.items c.self.inside.server c.self.inside.marks c.self.inside.pending _ c.args.ticket c.self.view_is (undecided_is_open _ c.args.ticket c.requires))

pub decide-requires-clause-size : goal.decide-requires-clause-size
decide-requires-clause-size g c = rw c.as_slice.ensures.value (may_carry c.self.inside.room c.self.inside.entries.items c.self.inside.server c.self.inside.marks c.self.inside.pending _ c.index.result.now c.self.invariant c.index.ensures).size

pub decide-requires-clause-placing : goal.decide-requires-clause-placing
decide-requires-clause-placing g c = rw c.as_slice.ensures.value (may_carry c.self.inside.room c.self.inside.entries.items c.self.inside.server c.self.inside.marks c.self.inside.pending _ c.index.result.now c.self.invariant c.index.ensures).placing

pub decide-requires-clause-small : goal.decide-requires-clause-small
decide-requires-clause-small g c = rw c.as_slice.ensures.value (lies c.self.inside.room c.self.inside.entries.items c.self.inside.server c.self.inside.marks c.self.inside.pending c.self.invariant).small

pub decide-requires-clause-spelled : goal.decide-requires-clause-spelled
decide-requires-clause-spelled g c = rw c.as_slice.ensures.value (lies c.self.inside.room c.self.inside.entries.items c.self.inside.server c.self.inside.marks c.self.inside.pending c.self.invariant).spelled

pub decide-requires-clause-stored : goal.decide-requires-clause-stored
decide-requires-clause-stored g c = rw c.as_slice.ensures.value (lies c.self.inside.room c.self.inside.entries.items c.self.inside.server c.self.inside.marks c.self.inside.pending c.self.invariant).stored

pub decide-requires-clause-firm : goal.decide-requires-clause-firm
decide-requires-clause-firm g c = (may_carry c.self.inside.room c.self.inside.entries.items c.self.inside.server c.self.inside.marks c.self.inside.pending _ c.index.result.now c.self.invariant c.index.ensures).firm

pub decide-requires-clause-cut : goal.decide-requires-clause-cut
decide-requires-clause-cut g c = (let l = lies c.self.inside.room c.self.inside.entries.items c.self.inside.server c.self.inside.marks c.self.inside.pending c.self.invariant in omega (arith, l.cut, l.reach, l.firm))

pub invariant_of-self : goal.invariant_of-self
invariant_of-self g c =
    let i = c.self.inside in
    let same = unmoved_shown i.room i.entries.items i.server c.decide.new.server i.marks i.pending c.in_default.ensures.wears.0 c.in_default.ensures.wears.1.faults c.in_default.ensures.memory ∙ ap (λ (w : FileView). w.loglet) c.self.view_is in
    whole_by i.room i.entries.items c.decide.new.server i.marks i.pending _ _ _ _
    (stuck_steps {U = ℕ} {E = Refused} _ _ c.args.ticket c.args.word Memory (seen_old i.room i.entries.items i.server i.marks i.pending _ c.self.view_is) (seen_new i.room i.entries.items c.decide.new.server i.marks i.pending) same
    (unanswered_whole i.room i.entries.items i.server i.marks i.pending _ c.args.ticket c.index.result.now c.self.view_is (rw c.number-number.ensures at c.index.ensures) c.requires)
    (ap (λ (w : FileView). w.answers) c.self.view_is)
    (obeyed_whole {U = ℕ} {E = Refused} i.room i.entries.items c.as_slice.result.now i.server c.decide.new.server i.marks i.marks i.pending i.pending _ c.args.ticket c.index.result.now (Err Memory) c.self.view_is
    (rw c.number-number.ensures at c.index.ensures) c.as_slice.ensures.value c.in_default.ensures.idle c.in_default.ensures.unasked c.in_default.ensures.obeys)
    c.self.invariant.cell (cell_from i.room i.entries.items i.server i.marks i.pending _ c.self.view_is c.self.invariant)) c.self.invariant.keeps

pub returns-in_default-clause-obeys : goal.returns-in_default-clause-obeys
returns-in_default-clause-obeys g c =
    let i = c.self.inside in
    obeyed_whole i.room i.entries.items c.as_slice.result.now i.server c.decide.new.server i.marks i.marks i.pending i.pending _ c.args.ticket c.index.result.now _ c.self.view_is
    (rw c.number-number.ensures at c.index.ensures) c.as_slice.ensures.value c.in_default.ensures.idle c.in_default.ensures.unasked c.in_default.ensures.obeys

pub returns-in_default-clause-goes : goal.returns-in_default-clause-goes
returns-in_default-clause-goes g c =
    let i = c.self.inside in
    let same = unmoved_shown i.room i.entries.items i.server c.decide.new.server i.marks i.pending c.in_default.ensures.wears.0 c.in_default.ensures.wears.1.faults c.in_default.ensures.memory ∙ ap (λ (w : FileView). w.loglet) c.self.view_is in
    step_of _ _ c.self.invariant.cell _ _ (λ (x : Cell). x.entries) (cell_from i.room i.entries.items i.server i.marks i.pending _ c.self.view_is c.self.invariant) c.requires same
    (stuck_steps _ _ c.args.ticket c.args.word _ (seen_old i.room i.entries.items i.server i.marks i.pending _ c.self.view_is) (seen_new i.room i.entries.items c.decide.new.server i.marks i.pending) same
    (unanswered_whole i.room i.entries.items i.server i.marks i.pending _ c.args.ticket c.index.result.now c.self.view_is (rw c.number-number.ensures at c.index.ensures) c.requires)
    (ap (λ (w : FileView). w.answers) c.self.view_is) (returns-in_default-clause-obeys g c))

pub returns-in_default-clause-step : goal.returns-in_default-clause-step
returns-in_default-clause-step g c = (returns-in_default-clause-goes g c).loglet

pub returns-in_default-clause-serves : goal.returns-in_default-clause-serves
returns-in_default-clause-serves g c =
    let i = c.self.inside in
    stuck_served i.room i.entries.items i.server c.decide.new.server i.marks i.pending i.pending _ c.args.ticket c.args.word c.self.view_is c.in_default.ensures.wears

pub returns-in_default-clause-wears : goal.returns-in_default-clause-wears
returns-in_default-clause-wears g c =
    let i = c.self.inside in
    stuck_shown i.room i.entries.items i.server c.decide.new.server i.marks i.pending i.pending _ c.self.view_is c.in_default.ensures.wears

pub invariant_of-self-2 : goal.invariant_of-self-2
invariant_of-self-2 g c =
    let i = c.self.inside in
    let does = does_shown i.room i.entries.items i.server i.marks i.pending _ (Carry c.args.ticket c.args.word) Carried _ c.self.view_is
    (subst (Carries (loglet_of i.room i.entries.items i.server i.marks i.pending) c.args.ticket)
    (sym (asked_shown i.room i.entries.items c.decide.new.server i.marks c.carried-self-inside.result c.set_answer.new.pending _ c.carried-self-inside.ensures))
    (carries_whole i.room i.entries.items i.server c.decide.new.server i.marks i.pending c.set_answer.new.pending _ c.args.ticket c.index.result.now c.in-Ok.answer c.self.view_is
    (rw c.number-number.ensures at c.index.ensures) (obeyed_sealed i.server c.decide.new.server c.index.result.now.task c.index.result.now.firm _ c.in-Ok.ensures.idle c.in-Ok.ensures.unasked c.in-Ok.ensures.obeys) c.in-Ok.ensures.wears (rw c.number-number.ensures at c.set_answer.ensures) c.requires)) in
    let at_once =
    subst (IsDecidedAtOnce c.args.self.now.loglet c.args.ticket)
    (sym (asked_shown i.room i.entries.items c.decide.new.server i.marks c.carried-self-inside.result c.set_answer.new.pending _ c.carried-self-inside.ensures))
    (at_once_whole i.room i.entries.items i.server c.decide.new.server i.marks i.pending c.set_answer.new.pending _ c.args.ticket c.index.result.now c.in-Ok.answer c.self.view_is
    (rw c.number-number.ensures at c.index.ensures) c.in-Ok.ensures.wears (rw c.number-number.ensures at c.set_answer.ensures)) in
    let answered =
    answered_whole i.room i.entries.items c.as_slice.result.now i.server c.decide.new.server i.marks c.carried-self-inside.result i.pending c.set_answer.new.pending _ c.args.ticket c.index.result.now c.in-Ok.answer _ c.self.view_is
    (rw c.number-number.ensures at c.index.ensures) c.as_slice.ensures.value c.requires (rw c.number-number.ensures at c.set_answer.ensures) c.carried-self-inside.ensures
    c.in-Ok.ensures.unspoken c.in-Ok.ensures.down c.in-Ok.ensures.up in
    whole_by i.room i.entries.items c.decide.new.server c.carried-self-inside.result c.set_answer.new.pending _ _ _ _
    (carry_steps {U = ℕ} {E = Refused} _ _ c.args.ticket c.args.word 0 (seen_old i.room i.entries.items i.server i.marks i.pending _ c.self.view_is) (seen_new i.room i.entries.items c.decide.new.server c.carried-self-inside.result c.set_answer.new.pending) does.moves at_once answered
    (obeyed_whole {U = ℕ} {E = Refused} i.room i.entries.items c.as_slice.result.now i.server c.decide.new.server i.marks c.carried-self-inside.result i.pending c.set_answer.new.pending _ c.args.ticket c.index.result.now (Ok 0) c.self.view_is
    (rw c.number-number.ensures at c.index.ensures) c.as_slice.ensures.value c.in-Ok.ensures.idle c.in-Ok.ensures.unasked c.in-Ok.ensures.obeys)
    c.self.invariant.cell (cell_from i.room i.entries.items i.server i.marks i.pending _ c.self.view_is c.self.invariant)) c.self.invariant.keeps

pub returns-clause-serves : goal.returns-clause-serves
returns-clause-serves g c =
    let i = c.self.inside in
    carried_served i.room i.entries.items i.server c.decide.new.server i.marks c.carried-self-inside.result i.pending c.set_answer.new.pending _ c.args.ticket c.args.word c.self.view_is c.in-Ok.ensures.wears c.carried-self-inside.ensures

pub returns-clause-at_once : goal.returns-clause-at_once
returns-clause-at_once g c =
    let i = c.self.inside in
    subst (IsDecidedAtOnce c.args.self.now.loglet c.args.ticket)
    (sym (asked_shown i.room i.entries.items c.decide.new.server i.marks c.carried-self-inside.result c.set_answer.new.pending _ c.carried-self-inside.ensures))
    (at_once_whole i.room i.entries.items i.server c.decide.new.server i.marks i.pending c.set_answer.new.pending _ c.args.ticket c.index.result.now c.in-Ok.answer c.self.view_is
    (rw c.number-number.ensures at c.index.ensures) c.in-Ok.ensures.wears (rw c.number-number.ensures at c.set_answer.ensures))

pub returns-clause-wears : goal.returns-clause-wears
returns-clause-wears g c =
    let i = c.self.inside in
    wore_shown i.room i.entries.items i.server c.decide.new.server i.marks c.carried-self-inside.result i.pending c.set_answer.new.pending _ c.self.view_is c.in-Ok.ensures.wears

pub returns-clause-answered : goal.returns-clause-answered
returns-clause-answered g c =
    let i = c.self.inside in
    answered_whole i.room i.entries.items c.as_slice.result.now i.server c.decide.new.server i.marks c.carried-self-inside.result i.pending c.set_answer.new.pending _ c.args.ticket c.index.result.now c.in-Ok.answer _ c.self.view_is
    (rw c.number-number.ensures at c.index.ensures) c.as_slice.ensures.value c.requires (rw c.number-number.ensures at c.set_answer.ensures) c.carried-self-inside.ensures
    c.in-Ok.ensures.unspoken c.in-Ok.ensures.down c.in-Ok.ensures.up

pub returns-clause-obeys : goal.returns-clause-obeys
returns-clause-obeys g c =
    let i = c.self.inside in
    obeyed_whole i.room i.entries.items c.as_slice.result.now i.server c.decide.new.server i.marks c.carried-self-inside.result i.pending c.set_answer.new.pending _ c.args.ticket c.index.result.now _ c.self.view_is
    (rw c.number-number.ensures at c.index.ensures) c.as_slice.ensures.value c.in-Ok.ensures.idle c.in-Ok.ensures.unasked c.in-Ok.ensures.obeys

pub returns-clause-goes : goal.returns-clause-goes
returns-clause-goes g c =
    let i = c.self.inside in
    let does = does_shown i.room i.entries.items i.server i.marks i.pending _ (Carry c.args.ticket c.args.word) Carried _ c.self.view_is
    (subst (Carries (loglet_of i.room i.entries.items i.server i.marks i.pending) c.args.ticket)
    (sym (asked_shown i.room i.entries.items c.decide.new.server i.marks c.carried-self-inside.result c.set_answer.new.pending _ c.carried-self-inside.ensures))
    (carries_whole i.room i.entries.items i.server c.decide.new.server i.marks i.pending c.set_answer.new.pending _ c.args.ticket c.index.result.now c.in-Ok.answer c.self.view_is
    (rw c.number-number.ensures at c.index.ensures) (obeyed_sealed i.server c.decide.new.server c.index.result.now.task c.index.result.now.firm _ c.in-Ok.ensures.idle c.in-Ok.ensures.unasked c.in-Ok.ensures.obeys) c.in-Ok.ensures.wears (rw c.number-number.ensures at c.set_answer.ensures) c.requires)) in
    step_of _ _ c.self.invariant.cell _ _ (λ (x : Cell). x.entries) (cell_from i.room i.entries.items i.server i.marks i.pending _ c.self.view_is c.self.invariant) c.requires does
    (carry_steps _ _ c.args.ticket c.args.word _ (seen_old i.room i.entries.items i.server i.marks i.pending _ c.self.view_is) (seen_new i.room i.entries.items c.decide.new.server c.carried-self-inside.result c.set_answer.new.pending) does.moves (returns-clause-at_once g c) (returns-clause-answered g c) (returns-clause-obeys g c))

pub returns-clause-step : goal.returns-clause-step
returns-clause-step g c = (returns-clause-goes g c).loglet
